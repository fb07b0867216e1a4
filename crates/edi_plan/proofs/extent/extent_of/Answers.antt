use Rattle.std.proofs.Common.{[], refl}
use Rattle.edi_plan.proofs.extent.extent_of.Goals as goal

pub returns : goal.returns
returns c = c.extent_with.ensures [] refl
