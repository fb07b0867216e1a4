use Rattle.std.proofs.Common.{length}
use Rattle.edi_report.proofs.Reported.{MarkedSoFar}
use Rattle.edi_report.proofs.marks.mark_all.Given as goal

abbrev pub invariant-loop-went : goal.invariant-loop-went
invariant-loop-went l = MarkedSoFar l.became (length l.fn.marks) l.marks l.went-index
