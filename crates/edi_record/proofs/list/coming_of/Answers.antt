use Rattle.std.proofs.Common.{◌≡◌, ◌∙◌, ◌∷◌, [], Some, sym, ap}
use Rattle.edi_line.specs.ZoneData.{entry}
use Rattle.edi_record.specs.inner.RecordRules.{kind_in}
use Rattle.edi_record.proofs.ListRead.{kind_begun, stores_begun}
use Rattle.edi_record.proofs.list.coming_of.Goals as goal

pub returns-in-Some : goal.returns-in-Some
returns-in-Some c = λ parts empty.
    let head = entry c.args.head.now in
    let draft = c.new.result in
    let kind : kind_in (head ∷ []) ≡ Some draft.kind =
    kind_begun head c.as_slice.result.now (Some c.in-Some.kind) c.requires c.as_slice.ensures.value c.in-Some.ensures ∙ ap (λ k. Some k) (sym c.new.ensures.kind) in
    stores_begun draft parts head c.requires kind (λ group. c.new.ensures.keeps parts group empty)

pub returns-in-None : goal.returns-in-None
returns-in-None c = λ parts empty. kind_begun (entry c.args.head.now) c.as_slice.result.now _ c.requires c.as_slice.ensures.value c.in-None.ensures
