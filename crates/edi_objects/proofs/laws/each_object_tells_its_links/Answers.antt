use Rattle.edi_objects.proofs.ToldLines.{told_by_first}
use Rattle.edi_objects.proofs.laws.each_object_tells_its_links.Goals as goal

pub returns : goal.returns
returns c = told_by_first
