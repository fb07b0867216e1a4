use Rattle.std.proofs.Common.{arith, ap, length}
use Rattle.edi_plan.proofs.PlaceLemmas.{places_few}
use Rattle.edi_rank.proofs.labels.kind_by_number.Goals as goal

pub places_by_number-requires-clause-few : goal.places_by_number-requires-clause-few
places_by_number-requires-clause-few c = omega (arith, ap length c.places.ensures, places_few c.args.kind c.args.plan.now, c.keeps.ensures.whole.few)
