use Rattle.std.proofs.Common.{None, Some, refl}
use Rattle.edi_record.proofs.TextParts.{pointer_found}
use Rattle.edi_schema.proofs.WordFound.{no_word, word_found, word_lacks}
use Rattle.edi_schema.proofs.draft.type_named.Goals as goal

pub returns-in_err-pointer : goal.returns-in_err-pointer
returns-in_err-pointer c = rw c.from_residual.ensures (no_word _ c.args.text.now (pointer_found c.args.text.now None c.in_err-pointer.ensures))

pub returns-in_err-place : goal.returns-in_err-place
returns-in_err-place c =
    rw c.from_residual-in_err-place.ensures (word_lacks _ (λ a b. refl) c.args.words.titles.now.keys c.args.words.records.now c.requires (record { rty = c.in_ok-pointer.pointer.rty; rid = c.in_ok-pointer.pointer.rid }) c.args.text.now c.in_ok-pointer.pointer (pointer_found c.args.text.now (Some c.in_ok-pointer.pointer) c.in_ok-pointer.ensures) refl refl c.in_err-place.ensures.index)

pub returns : goal.returns
returns c =
    word_found _ (λ a b. refl) c.args.words.titles.now.keys c.args.words.records.now c.requires (record { rty = c.in_ok-pointer.pointer.rty; rid = c.in_ok-pointer.pointer.rid }) c.args.text.now c.in_ok-pointer.pointer c.in_ok-place.place c.in_ok-get.field-0.now (pointer_found c.args.text.now (Some c.in_ok-pointer.pointer) c.in_ok-pointer.ensures) refl refl c.in_ok-place.ensures.index c.in_ok-get.ensures.lookup.3.0 c.in_ok-get.ensures.lookup.1
