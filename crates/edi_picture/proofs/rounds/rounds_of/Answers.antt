use Rattle.std.proofs.Common.{List, ℕ, subst, sym}
use Rattle.std.proofs.lemmas.List.{take_more}
use Rattle.edi_record.specs.declared.record.Kind.TheVariants.{Par}
use Rattle.edi_picture.specs.inner.Rounds.{HaveArcs}
use Rattle.edi_picture.proofs.Joined.{places_there}
use Rattle.edi_picture.proofs.rounds.rounds_of.Goals as goal

pub add_arc-requires : goal.add_arc-requires
add_arc-requires c =
    places_there Par c.args.plan.now c.places-arc-items.result.now c.loop-arc.arc-index c.places-arc-items.ensures c.loop-arc-test.true

pub loop-arc-preserved : goal.loop-arc-preserved
loop-arc-preserved c =
    subst (λ (arcs : List ℕ). HaveArcs c.args.plan.now arcs c.add_arc.new.lists.items) (sym (take_more c.places-arc-items.result.now c.loop-arc.arc-index 0 c.loop-arc-test.true))
    (c.in_ok-add_arc.ensures _ c.loop-arc.invariant)
