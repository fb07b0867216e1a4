use Rattle.std.proofs.Common.{take, IsTrue}
use Rattle.edi_answers.specs.Effects.{inputs, written}
use Rattle.edi_answers.specs.Statuses.{IsSheetStatus}
use Rattle.edi_answers.specs.inner.Census.{AddShares}
use Rattle.edi_answers.proofs.Answering.{paths_of}
use Rattle.edi_answers.proofs.census.answer_each.Given as goal

abbrev pub invariant-loop-path : goal.invariant-loop-path
invariant-loop-path g l =
    AddShares (inputs g.F.Folder g.F.Reader.ByteIn l.folder) (g.F.Folder.why l.folder) l.schema l.form
    (paths_of (take l.path-index l.sheets)) (written g.O.ByteOut l.initial.out l.out)
    (written g.E.ByteOut l.initial.err l.err) l.worst l.rules.items
    × IsSheetStatus l.worst
    × (IsTrue (g.E.ByteOut.has_failed l.initial.err) → IsTrue (g.E.ByteOut.has_failed l.err))
