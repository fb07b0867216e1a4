use Rattle.std.proofs.Common.{◌<◌, ◌∙◌, ap, subst, sym, length}
use Rattle.edi_record.specs.declared.record.Kind.TheVariants.{Par}
use Rattle.edi_plan.specs.Plans.{IsPlace, record_at}
use Rattle.edi_plan.proofs.PlaceLemmas.{place_there}
use Rattle.edi_topo.specs.Directions.{forward}
use Rattle.edi_topo.proofs.FirstArcRepeat.{key_is}
use Rattle.edi_topo.proofs.arcs.ArcLayerLayer.key.Goals as goal

pub points-requires : goal.points-requires
points-requires c = subst (λ p. c.place.result < length p.list) (sym c.self.view_is)
    (subst (IsPlace c.args.self.now) (sym c.place.ensures) (place_there Par c.args.self.now c.args.member c.requires))

pub returns : goal.returns
returns c =
    c.of.ensures ∙ (ap forward (c.points.ensures ∙ ap (λ p. (record_at p c.place.result).points) c.self.view_is)
    ∙ (ap (λ k. forward (record_at c.args.self.now k).points) c.place.ensures ∙ sym (key_is c.args.self.now c.args.member c.requires)))
