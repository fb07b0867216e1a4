use Rattle.std.proofs.Common.{◌≡◌, ◌∙◌, sym, ap}
use Rattle.std.proofs.lemmas.Bool.{both_ways}
use Rattle.std.proofs.lemmas.Option.{same_Some}
use Rattle.std.proofs.lemmas.Slice.Eq.{bytes_eq-Decides}
use Rattle.edi_changes.specs.ListText.{list_text}
use Rattle.edi_changes.proofs.reading.read_list.Goals as goal

pub returns-then-eq-clause-reads : goal.returns-then-eq-clause-reads
returns-then-eq-clause-reads c =
    sym (c.as_slice.ensures.value ∙ (c.in_ok-list.ensures ∙ ap list_text c.deref.ensures.value))
    ∙ (bytes_eq-Decides c.as_slice.result.now c.args.text.now).0 (sym c.eq.ensures ∙ c.if-eq.true)

pub returns-else-eq-clause-reads : goal.returns-else-eq-clause-reads
returns-else-eq-clause-reads c = λ lines h e.
    let found : c.in-Some.lines.items ≡ lines = same_Some _ _ (rw c.in-Some.is at (c.in_ok-lines.ensures.finds lines h e)) in
    let written : c.as_slice.result.now ≡ c.args.text.now =
    c.as_slice.ensures.value ∙ (c.in_ok-list.ensures ∙ (ap list_text (c.deref.ensures.value ∙ found) ∙ e)) in
    both_ways _ (sym c.eq.ensures ∙ c.if-eq.false) ((bytes_eq-Decides c.as_slice.result.now c.args.text.now).1 written)
