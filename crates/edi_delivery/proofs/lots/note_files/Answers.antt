use Rattle.std.proofs.Common.{◌≡◌, ◌∙◌, true, false, map, get_or, refl, sym, ap}
use Rattle.std.specs.List.{list_any}
use Rattle.std.specs.Str.{bytes_eq, str_to_ascii_lowercase}
use Rattle.std.proofs.lemmas.Bool.{not-false, not-true}
use Rattle.edi_delivery.specs.inner.Steps.{repeats_earlier}
use Rattle.edi_delivery.proofs.Repeats.{again_here, apart_more, noted_more}
use Rattle.edi_delivery.proofs.lots.note_files.Goals as goal

pub returns-then-not-branch-clause-again : goal.returns-then-not-branch-clause-again
returns-then-not-branch-clause-again c =
    let files = c.deref-file-items.result.now in
    let value : c.in_ok-lower_case.field-0 ≡ str_to_ascii_lowercase (get_or files c.loop-file.file-index c.file-item.result) =
    c.in_ok-lower_case.ensures ∙ (ap str_to_ascii_lowercase (c.as_slice.ensures.bytes ∙ c.file-item.is)) in
    let found : list_any (bytes_eq c.in_ok-lower_case.field-0) c.loop-file.noted.keys ≡ true = not-false _ (sym c.in_ok-insert.ensures.added ∙ c.if-not-branch.true) in (
      refl,
      ap (λ t. repeats_earlier c.args.noted.now.keys (map str_to_ascii_lowercase t)) (sym (c.deref-file-items.ensures.value ∙ c.in_ok-files.ensures))
          ∙ again_here c.args.noted.now.keys c.loop-file.noted.keys files c.loop-file.file-index c.file-item.result c.loop-file-test.true c.loop-file.invariant.noted
          (ap (λ t. list_any (bytes_eq t) c.loop-file.noted.keys) (sym value) ∙ found),
    )

pub loop-file-preserved : goal.loop-file-preserved
loop-file-preserved c =
    let files = c.deref-file-items.result.now in
    let value : c.in_ok-lower_case.field-0 ≡ str_to_ascii_lowercase (get_or files c.loop-file.file-index c.file-item.result) =
    c.in_ok-lower_case.ensures ∙ (ap str_to_ascii_lowercase (c.as_slice.ensures.bytes ∙ c.file-item.is)) in
    let none : list_any (bytes_eq c.in_ok-lower_case.field-0) c.loop-file.noted.keys ≡ false = not-true _ (sym c.in_ok-insert.ensures.added ∙ c.if-not-branch.false) in
    record {
      noted = noted_more c.args.noted.now.keys c.loop-file.noted.keys c.insert.new.self.keys files c.loop-file.file-index c.file-item.result c.in_ok-lower_case.field-0 c.loop-file-test.true
          c.loop-file.invariant.noted value none c.in_ok-insert.ensures.keys;
      apart = apart_more c.args.noted.now.keys c.loop-file.noted.keys files c.loop-file.file-index c.file-item.result c.loop-file-test.true c.loop-file.invariant.noted c.loop-file.invariant.apart
          (ap (λ t. list_any (bytes_eq t) c.loop-file.noted.keys) (sym value) ∙ none);
    }
