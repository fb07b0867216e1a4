use Rattle.std.proofs.Common.{arith, ap, length}
use Rattle.edi_record.specs.declared.record.Kind.TheVariants.{Lnk}
use Rattle.edi_plan.proofs.PlaceLemmas.{places_few}
use Rattle.edi_rank.proofs.link_layer.LinkLayerLayer.len.Goals as goal

pub overflow_cast-result : goal.overflow_cast-result
overflow_cast-result c = omega (arith, ap length c.self.invariant.0, places_few Lnk c.self.inside.plan.now, c.keeps.ensures.whole.few)
