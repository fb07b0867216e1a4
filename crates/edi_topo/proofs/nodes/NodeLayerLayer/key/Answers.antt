use Rattle.std.proofs.Common.{◌≡◌, ◌<◌, subst, sym, length}
use Rattle.edi_record.specs.declared.record.Kind.TheVariants.{Pno}
use Rattle.edi_plan.specs.Plans.{IsPlace, record_at}
use Rattle.edi_plan.proofs.PlaceLemmas.{place_there, place_of_kind}
use Rattle.edi_topo.proofs.nodes.NodeLayerLayer.key.Goals as goal

pub node_key_at-requires-clause-place : goal.node_key_at-requires-clause-place
node_key_at-requires-clause-place c = subst (λ p. c.place.result < length p.list) (sym c.self.view_is)
    (subst (IsPlace c.args.self.now) (sym c.place.ensures) (place_there Pno c.args.self.now c.args.member c.requires))

pub node_key_at-requires-clause-node : goal.node_key_at-requires-clause-node
node_key_at-requires-clause-node c = subst (λ p. (record_at p c.place.result).kind ≡ Pno) (sym c.self.view_is)
    (subst (λ k. (record_at c.args.self.now k).kind ≡ Pno) (sym c.place.ensures) (place_of_kind Pno c.args.self.now c.args.member c.requires))
