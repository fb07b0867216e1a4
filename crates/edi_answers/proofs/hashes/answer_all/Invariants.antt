use Rattle.std.proofs.Common.{take, IsTrue}
use Rattle.edi_answers.specs.Effects.{inputs, written}
use Rattle.edi_answers.specs.Hashes.{AreAnswered}
use Rattle.edi_answers.specs.Statuses.{IsSheetStatus}
use Rattle.edi_answers.proofs.Answering.{paths_of}
use Rattle.edi_answers.proofs.hashes.answer_all.Given as goal

abbrev pub invariant-loop-path : goal.invariant-loop-path
invariant-loop-path g l =
    AreAnswered (inputs g.F.Folder g.F.Reader.ByteIn l.folder)
    (g.F.Folder.why l.folder) l.schema (paths_of l.siblings) l.form (written g.O.ByteOut l.initial.out l.out)
    (written g.E.ByteOut l.initial.err l.err) (paths_of (take l.path-index l.sheets)) l.worst
    × IsSheetStatus l.worst
    × (IsTrue (g.E.ByteOut.has_failed l.initial.err) → IsTrue (g.E.ByteOut.has_failed l.err))
    × (IsTrue (g.O.ByteOut.has_failed l.initial.out) → IsTrue (g.O.ByteOut.has_failed l.out))
