use Rattle.std.proofs.Common.{◌∙◌, ap, sym}
use Rattle.edi_deliveries.specs.Checks.{name_part_of}
use Rattle.edi_deliveries.proofs.Names.{name_cut, name_whole}
use Rattle.edi_deliveries.proofs.checks.name_of.Goals as goal

pub returns-in-Some : goal.returns-in-Some
returns-in-Some c = sym (ap name_part_of c.in-Some.ensures.cut.0 ∙ name_cut _ _ c.in-Some.ensures.cut.1)

pub returns-in-None : goal.returns-in-None
returns-in-None c = sym (name_whole _ c.in-None.ensures.cut)
