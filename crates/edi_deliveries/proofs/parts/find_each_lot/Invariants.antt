use Rattle.std.proofs.Common.{IsTrue}
use Rattle.edi_delivery.specs.declared.lot.Lot.{Lot}
use Rattle.edi_answers.specs.Effects.{inputs}
use Rattle.edi_answers.specs.Statuses.{IsSheetStatus}
use Rattle.edi_deliveries.specs.Found.{IsLotFound, placed}
use Rattle.edi_deliveries.proofs.FoundSteps.{CompletesFound}
use Rattle.edi_deliveries.proofs.parts.find_each_lot.Given as goal

abbrev pub invariant-loop-lot : goal.invariant-loop-lot
invariant-loop-lot g l =
    CompletesFound (λ (lot : Lot). IsLotFound (inputs g.F.Folder g.F.Reader.ByteIn l.folder) (g.F.Folder.why l.folder) l.kinds (placed l.before l.names lot)) l.lots l.lot-index l.initial.lines.items l.lines.items (g.E.ByteOut.contents l.initial.err) (g.E.ByteOut.contents l.err)
    (g.E.ByteOut.has_failed l.err) l.worst
    × IsSheetStatus l.worst
    × (IsTrue (g.E.ByteOut.has_failed l.initial.err) → IsTrue (g.E.ByteOut.has_failed l.err))
