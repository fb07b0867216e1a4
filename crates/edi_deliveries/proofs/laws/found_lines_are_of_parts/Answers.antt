use Rattle.edi_answers.specs.Effects.{inputs}
use Rattle.edi_deliveries.proofs.OfParts.{lines_of_parts}
use Rattle.edi_deliveries.proofs.laws.found_lines_are_of_parts.Goals as goal

pub returns : goal.returns
returns g c = λ kinds d lines err h. lines_of_parts (inputs g.F.Folder g.F.Reader.ByteIn c.args.folder.now) (g.F.Folder.why c.args.folder.now) kinds d lines err h
