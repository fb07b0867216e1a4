use Rattle.std.proofs.Common.{IsTrue}
use Rattle.edi_answers.specs.Effects.{effects}
use Rattle.edi_answers.specs.Statuses.{IsPairStatus}
use Rattle.edi_changes.specs.Checks.{FailsInVerdict, GivesVerdict, IsLineHeld}
use Rattle.edi_changes.proofs.Checking.{CompletesUntil}
use Rattle.edi_changes.proofs.checks.LineChecker.hold_each.Given as goal

abbrev pub invariant-loop-line : goal.invariant-loop-line
invariant-loop-line g l =
    let run = effects g.F.Folder g.F.Reader.ByteIn g.F.Sink.ByteOut g.F.NewFile.ByteOut l.self.folder.now l.self.folder.now in
    CompletesUntil (IsLineHeld run l.self.schema.now GivesVerdict) (IsLineHeld run l.self.schema.now FailsInVerdict) l.lines l.line-index
    (g.O.ByteOut.contents l.initial.out) (g.E.ByteOut.contents l.initial.err) (g.O.ByteOut.contents l.out) (g.E.ByteOut.contents l.err)
    (g.O.ByteOut.has_failed l.out) (g.E.ByteOut.has_failed l.err) l.worst
    × IsPairStatus l.worst
    × (IsTrue (g.O.ByteOut.has_failed l.initial.out) → IsTrue (g.O.ByteOut.has_failed l.out))
    × (IsTrue (g.E.ByteOut.has_failed l.initial.err) → IsTrue (g.E.ByteOut.has_failed l.err))
