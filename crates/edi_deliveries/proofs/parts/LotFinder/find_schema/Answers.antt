use Rattle.std.proofs.Common.{inr, refl}
use Rattle.edi_deliveries.proofs.FoundSteps.{none_added}
use Rattle.edi_deliveries.proofs.parts.LotFinder.find_schema.Goals as goal

pub returns-in-Err-clause-found : goal.returns-in-Err-clause-found
returns-in-Err-clause-found g c = none_added c.args.lines.now.items _ (inr (refl, c.out_of_memory.ensures.status, c.out_of_memory.ensures.text))
