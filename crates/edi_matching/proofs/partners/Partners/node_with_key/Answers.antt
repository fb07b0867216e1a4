use Rattle.std.proofs.Common.{sym, subst, IsSorted, nat_cmp}
use Rattle.std.specs.Ordering.{ordering_then}
use Rattle.edi_topo.specs.NodeKeys.{node_key_cmp}
use Rattle.edi_matching.proofs.Found.{node_none, node_within, node_some}
use Rattle.edi_matching.proofs.partners.Partners.node_with_key.Goals as goal

pub bounds-places-member : goal.bounds-places-member
bounds-places-member c =
    node_within c.args.self.now c.self.inside.plan.now c.self.inside.other.now c.self.view_is c.keeps.ensures.whole c.self.invariant.0.1 c.args.place c.requires.node
    c.self.inside.nodes.items c.deref.result.now c.deref.ensures.value c.in_ok-key.key c.in_ok-key.ensures c.self.invariant.1 c.in-Some.member c.places.result.now c.places.ensures c.in-Some.ensures

pub returns-in-Some : goal.returns-in-Some
returns-in-Some c =
    node_some c.args.self.now c.self.inside.plan.now c.self.inside.other.now c.self.view_is c.keeps.ensures.whole c.self.invariant.0.1 c.args.place c.requires.node
    c.self.inside.nodes.items c.deref.result.now c.deref.ensures.value c.in_ok-key.key c.in_ok-key.ensures c.self.invariant.1 c.in-Some.member c.places.result.now c.places.ensures c.in-Some.ensures

pub returns : goal.returns
returns c =
    node_none c.args.self.now c.self.inside.plan.now c.self.inside.other.now c.self.view_is c.keeps.ensures.whole c.self.invariant.0.1 c.args.place c.requires.node
    c.self.inside.nodes.items c.deref.result.now c.deref.ensures.value c.in_ok-key.key c.in_ok-key.ensures c.self.invariant.1 c.in-None.ensures

pub node_member-requires : goal.node_member-requires
node_member-requires c = subst (λ xs. IsSorted (λ x y. ordering_then (node_key_cmp x.0 y.0) (nat_cmp x.1 y.1)) xs) (sym c.deref.ensures.value) c.self.invariant.2
