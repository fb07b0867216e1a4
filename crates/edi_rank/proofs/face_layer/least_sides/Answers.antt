use Rattle.std.proofs.Common.{◌≡◌, ◌<◌, ◌≤◌, ℕ, List, ap, sym, length, subst, get_or}
use Rattle.edi_record.specs.declared.record.Kind.TheVariants.{Par}
use Rattle.edi_plan.specs.Places.{places_of}
use Rattle.edi_plan.specs.Plans.{PlanData, IsPlace}
use Rattle.edi_plan.proofs.PlaceLemmas.{place_there}
use Rattle.edi_rank.proofs.SidesTaken.{arc_taken, all_taken}
use Rattle.edi_rank.proofs.face_layer.least_sides.Goals as goal

arc_place : (p : PlanData) (arcs : List ℕ) (i : ℕ) → arcs ≡ places_of Par p → i < length arcs → IsPlace p (get_or arcs i 0)
arc_place p arcs i e h = subst (λ ks. IsPlace p (get_or ks i 0)) (sym e) (place_there Par p i (subst (λ ks. i < length ks) e h))

pub take_side-requires-clause-place : goal.take_side-requires-clause-place
take_side-requires-clause-place c = arc_place c.args.plan.now c.places-arc-items.result.now c.loop-arc.arc-index c.loop-arc.invariant.arcs c.loop-arc-test.true

pub take_side-requires-in-loop-arc-clause-place : goal.take_side-requires-in-loop-arc-clause-place
take_side-requires-in-loop-arc-clause-place c = arc_place c.args.plan.now c.places-arc-items.result.now c.loop-arc.arc-index c.loop-arc.invariant.arcs c.loop-arc-test.true

pub loop-arc-preserved : goal.loop-arc-preserved
loop-arc-preserved c =
    let i = c.loop-arc.invariant in
    let arc = ap (λ ks. get_or ks c.loop-arc.arc-index 0) i.arcs in
    record {
      arcs = i.arcs;
      long = c.take_side-in-loop-arc.ensures.long;
      least = arc_taken c.args.plan.now (λ k. get_or c.args.numbers.now k 0) c.loop-arc.arc-index c.loop-arc.sides.items c.take_side.new.sides.items c.take_side-in-loop-arc.new.sides.items
          (rw (sym arc) c.take_side.ensures.taken) (rw (sym arc) c.take_side-in-loop-arc.ensures.taken) i.least;
    }

pub returns-clause-least : goal.returns-clause-least
returns-clause-least c =
    let i = c.loop-arc.invariant in
    let all : length (places_of Par c.args.plan.now) ≤ c.loop-arc.arc-index = subst (λ ks. length ks ≤ c.loop-arc.arc-index) i.arcs c.loop-arc-test.false in
    all_taken c.args.plan.now (λ k. get_or c.args.numbers.now k 0) c.keeps.ensures.whole c.keeps.ensures.joined c.loop-arc.arc-index c.loop-arc.sides.items all i.least
