use Rattle.std.proofs.Common.{◌≡◌, map, subst}
use Rattle.std.specs.Prelude.{IfOk}
use Rattle.edi_plan.specs.Places.{places_of}
use Rattle.edi_plan.specs.Plans.{PlanData}
use Rattle.edi_record.specs.declared.record.Kind.TheVariants.{Fea}
use Rattle.edi_rank.specs.Layers.{object_keys}
use Rattle.edi_rank.specs.Pieces.{object_key_at}
use Rattle.edi_rank.proofs.object_layer.ObjectLayer.of.Goals as goal

pub returns-clause-keys : goal.returns-clause-keys
returns-clause-keys c =
    subst (λ (q : PlanData). IfOk c.of_plan.result (λ layer. map (object_key_at layer) (places_of Fea q) ≡ object_keys q c.args.nodes.now c.args.arcs.now c.args.faces.now)) c.plan.ensures.plan c.of_plan.ensures.keys
