use Rattle.std.proofs.Common.{IsTrue}
use Rattle.edi_answers.specs.Effects.{effects}
use Rattle.edi_answers.specs.Statuses.{IsSheetStatus}
use Rattle.edi_deliveries.specs.Deliveries.{IsPathAnswered, listings}
use Rattle.edi_deliveries.proofs.Steps.{Completes}
use Rattle.edi_deliveries.proofs.deliveries.answer_paths.Given as goal

abbrev pub invariant-loop-path : goal.invariant-loop-path
invariant-loop-path g l =
    Completes (λ path. IsPathAnswered (effects g.F.Folder g.F.Reader.ByteIn g.F.Sink.ByteOut g.F.NewFile.ByteOut l.folder l.folder) (listings g.F.Listing l.folder) l.kinds path.now) l.paths l.path-index
    (g.O.ByteOut.contents l.initial.out) (g.E.ByteOut.contents l.initial.err) (g.O.ByteOut.contents l.out) (g.E.ByteOut.contents l.err)
    (g.O.ByteOut.has_failed l.out) (g.E.ByteOut.has_failed l.err) l.worst
    × IsSheetStatus l.worst
    × (IsTrue (g.O.ByteOut.has_failed l.initial.out) → IsTrue (g.O.ByteOut.has_failed l.out))
    × (IsTrue (g.E.ByteOut.has_failed l.initial.err) → IsTrue (g.E.ByteOut.has_failed l.err))
