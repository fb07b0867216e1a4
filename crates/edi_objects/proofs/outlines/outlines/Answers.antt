use Rattle.std.proofs.Common.{◌≡◌, ℕ, IfOk, map, rules, subst}
use Rattle.std.specs.List.{range_with_len}
use Rattle.edi_objects.specs.Differing.{outline_differs}
use Rattle.edi_objects.specs.inner.Sheets.{is_marked_place}
use Rattle.edi_objects.proofs.outlines.outlines.Goals as goal

pub returns : goal.returns
returns c =
    let value = outline_differs (is_marked_place c.args.marks.now) c.args.plan.now in
    subst (λ (n : ℕ). IfOk c.values_of_places.result (λ values. values.items ≡ map value (range_with_len 0 n))) c.len.ensures
    (c.values_of_places.ensures value (λ k less x p. search rules))
