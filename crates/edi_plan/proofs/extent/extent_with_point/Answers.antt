use Rattle.edi_plan.specs.Extents.{all_x, all_y}
use Rattle.edi_plan.proofs.Spans.{more_points, some_extent}
use Rattle.edi_plan.proofs.extent.extent_with_point.Goals as goal

pub returns-in-Some : goal.returns-in-Some
returns-in-Some c = λ points h.
    let old = some_extent points c.args.found c.in-Some.extent c.in-Some.is h in
    more_points points c.args.point.now (record { x = c.with_number.result; y = c.with_number-in-Some.result })
    (c.with_number.ensures (all_x points) old.x) (c.with_number-in-Some.ensures (all_y points) old.y)
