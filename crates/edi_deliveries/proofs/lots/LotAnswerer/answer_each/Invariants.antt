use Rattle.std.proofs.Common.{IsTrue}
use Rattle.edi_answers.specs.Effects.{effects}
use Rattle.edi_answers.specs.Statuses.{IsSheetStatus}
use Rattle.edi_deliveries.specs.Deliveries.{IsLotAnswered}
use Rattle.edi_deliveries.proofs.Steps.{Completes}
use Rattle.edi_deliveries.proofs.lots.LotAnswerer.answer_each.Given as goal

abbrev pub invariant-loop-lot : goal.invariant-loop-lot
invariant-loop-lot g l =
    Completes (IsLotAnswered (effects g.F.Folder g.F.Reader.ByteIn g.F.Sink.ByteOut g.F.NewFile.ByteOut l.self.folder.now l.self.folder.now) l.self.kinds.now l.self.before.now l.self.names.now) l.lots l.lot-index
    (g.O.ByteOut.contents l.initial.out) (g.E.ByteOut.contents l.initial.err) (g.O.ByteOut.contents l.out) (g.E.ByteOut.contents l.err)
    (g.O.ByteOut.has_failed l.out) (g.E.ByteOut.has_failed l.err) l.worst
    × IsSheetStatus l.worst
    × (IsTrue (g.O.ByteOut.has_failed l.initial.out) → IsTrue (g.O.ByteOut.has_failed l.out))
    × (IsTrue (g.E.ByteOut.has_failed l.initial.err) → IsTrue (g.E.ByteOut.has_failed l.err))
