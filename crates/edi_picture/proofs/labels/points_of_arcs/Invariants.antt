use Rattle.std.proofs.Common.{◌≡◌, take}
use Rattle.std.specs.List.{flat_map}
use Rattle.edi_plan.specs.Plans.{record_at}
use Rattle.edi_picture.proofs.labels.points_of_arcs.Given as goal

abbrev pub invariant-loop-arc : goal.invariant-loop-arc
invariant-loop-arc l = l.points.items ≡ flat_map (λ a. (record_at l.plan a).points) (take l.arc-index l.arcs)
