use Rattle.std.specs.List.{filter_map}
use Rattle.edi_plan.specs.Places.{places_of}
use Rattle.edi_matching.specs.inner.Contents.{held_at}
use Rattle.edi_matching.proofs.Listed.{known_any, whole_sorted}
use Rattle.edi_matching.proofs.contents.records_by_contents.Goals as goal

pub loop-place-preserved : goal.loop-place-preserved
loop-place-preserved c =
    let p = c.args.plan.now in
    known_any (places_of c.args.kind p) c.places-place-items.result.now c.places-place-items.ensures c.loop-place.place-index 0 (held_at p) c.loop-place.records.items c.push_contents.new.records.items
    c.loop-place-test.true c.loop-place.invariant c.in_ok-push_contents.ensures

pub returns-clause-records : goal.returns-clause-records
returns-clause-records c =
    let p = c.args.plan.now in
    whole_sorted (filter_map (held_at p)) (places_of c.args.kind p) c.places-place-items.result.now c.loop-place.place-index
    c.loop-place.records.items c.sort_unstable.new.self.items
    c.places-place-items.ensures c.loop-place-test.false c.loop-place.invariant c.sort_unstable.ensures.permutation
