use Rattle.std.proofs.Common.{arith, ap, length}
use Rattle.edi_record.specs.declared.record.Kind.TheVariants.{Fea}
use Rattle.edi_plan.proofs.PlaceLemmas.{places_few}
use Rattle.edi_rank.proofs.object_layer.ObjectLayerLayer.len.Goals as goal

pub overflow_cast-result : goal.overflow_cast-result
overflow_cast-result c = omega (arith, ap length c.self.invariant.0, places_few Fea c.self.inside.plan.now, c.keeps.ensures.whole.few)
