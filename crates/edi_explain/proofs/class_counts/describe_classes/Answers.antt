use Rattle.std.proofs.Common.{◌∙◌, ◌<◌, List, ℕ, slice_get, length, subst, sym, ap, ap₂}
use Rattle.std.proofs.lemmas.List.{get_or_read_under}
use Rattle.std.specs.Map.{keys_of}
use Rattle.edi_record.specs.declared.name.Name.{Name}
use Rattle.edi_explain.proofs.ClassCounted.{more_said}
use Rattle.edi_explain.proofs.class_counts.describe_classes.Goals as goal

pub loop-place-preserved : goal.loop-place-preserved
loop-place-preserved c =
    let names = keys_of c.args.schema.now in
    let p = c.args.plan.now in
    let place = c.loop-place.place in
    let name = c.name-name.result.now in
    let less = subst (λ (n : ℕ). place < n) c.class_count-place-end.ensures c.loop-place-test.true in
    more_said p place names name _ c.index.result.now c.loop-place.text.items c.push_class.new.text.items _
    (ap (slice_get names) (sym c.class_at.ensures) ∙ sym c.name-name.ensures)
    (ap₂ (λ (r i : List ℕ). let x : Name = record { rty = r; rid = i } in x) c.as_slice.ensures c.as_slice-in-loop-place.ensures)
    (get_or_read_under c.in_ok-counts.counts.items place (length c.args.schema.now) c.index.result.now 0 c.index.ensures less (sym c.in_ok-counts.ensures.length) ∙ c.in_ok-counts.ensures.each place less) c.in_ok-push_class.ensures c.loop-place.invariant
