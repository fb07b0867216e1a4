use Rattle.edi_plan.specs.Plans.{record_at}
use Rattle.edi_record.specs.declared.record.Kind.TheVariants.{Par}
use Rattle.edi_picture.proofs.ArcExtents.{one_arc_more}
use Rattle.edi_picture.proofs.Joined.{places_there}
use Rattle.edi_picture.proofs.frame.with_arcs.Goals as goal

pub points-requires : goal.points-requires
points-requires c =
    places_there Par c.args.plan.now c.places-place-items.result.now c.loop-place.place-index c.places-place-items.ensures c.loop-place-test.true

pub loop-place-preserved : goal.loop-place-preserved
loop-place-preserved c = one_arc_more (λ k. (record_at c.args.plan.now k).points) c.places-place-items.result.now c.loop-place.place-index c.points.result.now
    c.args.found c.loop-place.found c.with_points-found.result c.loop-place-test.true c.points.ensures c.loop-place.invariant c.with_points-found.ensures
