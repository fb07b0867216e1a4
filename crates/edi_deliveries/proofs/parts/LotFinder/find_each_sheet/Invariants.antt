use Rattle.std.proofs.Common.{IsTrue}
use Rattle.edi_answers.specs.Effects.{inputs}
use Rattle.edi_answers.specs.Statuses.{IsSheetStatus}
use Rattle.edi_deliveries.specs.Found.{IsSheetFound}
use Rattle.edi_deliveries.specs.inner.Finding.{placed_of}
use Rattle.edi_deliveries.proofs.FoundSteps.{CompletesFound}
use Rattle.edi_deliveries.proofs.parts.LotFinder.find_each_sheet.Given as goal

abbrev pub invariant-loop-own : goal.invariant-loop-own
invariant-loop-own g l =
    CompletesFound (IsSheetFound (inputs g.F.Folder g.F.Reader.ByteIn l.self.folder.now) (g.F.Folder.why l.self.folder.now) l.schema (placed_of l.self)) l.self.lot.now.vecs l.own-index l.initial.lines.items l.lines.items (g.E.ByteOut.contents l.initial.err) (g.E.ByteOut.contents l.err)
    (g.E.ByteOut.has_failed l.err) l.worst
    × IsSheetStatus l.worst
    × (IsTrue (g.E.ByteOut.has_failed l.initial.err) → IsTrue (g.E.ByteOut.has_failed l.err))
