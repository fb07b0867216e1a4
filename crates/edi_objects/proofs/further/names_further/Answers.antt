use Rattle.std.proofs.Common.{◌∙◌, List, ap, drop, map}
use Rattle.std.specs.List.{list_any}
use Rattle.edi_plan.specs.declared.record.PlanEnd.{PlanEnd}
use Rattle.edi_objects.specs.inner.Sheets.{is_marked_place}
use Rattle.edi_objects.proofs.NamedBehind.{mapped_drop}
use Rattle.edi_objects.proofs.further.names_further.Goals as goal

pub returns : goal.returns
returns c =
    let test = is_marked_place c.args.marks.now in
    c.some_marked.ensures
    ∙ ap (list_any test) (ap (map (λ (e : PlanEnd). e.target)) (c.ends_behind_few.ensures ∙ ap (λ (es : List PlanEnd). drop 4 es) c.ends.ensures) ∙ mapped_drop (λ (e : PlanEnd). e.target) 4 _)
