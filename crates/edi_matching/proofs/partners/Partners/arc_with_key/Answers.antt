use Rattle.std.proofs.Common.{◌∙◌, ap}
use Rattle.edi_topo.specs.Directions.{forward}
use Rattle.edi_matching.proofs.Found.{arc_none, arc_within, arc_some}
use Rattle.edi_matching.proofs.partners.Partners.arc_with_key.Goals as goal

pub bounds-places-member : goal.bounds-places-member
bounds-places-member c =
    arc_within c.args.self.now c.self.inside.plan.now c.self.inside.other.now c.self.view_is c.keeps.ensures.whole c.self.invariant.0.1 c.args.place c.requires.arc
    c.self.inside.arcs.items c.deref.result.now c.deref.ensures.value c.of-key.result (c.of-key.ensures ∙ ap forward c.points.ensures) c.self.invariant.3 c.in-Some.member c.places.result.now c.places.ensures c.in-Some.ensures

pub returns-in-Some : goal.returns-in-Some
returns-in-Some c =
    arc_some c.args.self.now c.self.inside.plan.now c.self.inside.other.now c.self.view_is c.keeps.ensures.whole c.self.invariant.0.1 c.args.place c.requires.arc
    c.self.inside.arcs.items c.deref.result.now c.deref.ensures.value c.of-key.result (c.of-key.ensures ∙ ap forward c.points.ensures) c.self.invariant.3 c.in-Some.member c.places.result.now c.places.ensures c.in-Some.ensures

pub returns-in-None : goal.returns-in-None
returns-in-None c =
    arc_none c.args.self.now c.self.inside.plan.now c.self.inside.other.now c.self.view_is c.keeps.ensures.whole c.self.invariant.0.1 c.args.place c.requires.arc
    c.self.inside.arcs.items c.deref.result.now c.deref.ensures.value c.of-key.result (c.of-key.ensures ∙ ap forward c.points.ensures) c.self.invariant.3 c.in-None.ensures
