use Rattle.std.proofs.Common.{take}
use Rattle.std.specs.List.{All}
use Rattle.edi_record.specs.Texts.{shown}
use Rattle.edi_answers.specs.Effects.{inputs}
use Rattle.edi_answers.specs.Hinted.{LacksRecord}
use Rattle.edi_answers.proofs.Answering.{paths_of}
use Rattle.edi_answers.proofs.hinted.RefusedSheet.elsewhere_line.Given as goal

abbrev pub invariant-loop-other : goal.invariant-loop-other
invariant-loop-other g l =
    All (LacksRecord (inputs g.F.Folder g.F.Reader.ByteIn l.self.folder.now) l.self.path.now (shown l.pointer)) (paths_of (take l.other-index l.self.siblings.now))
