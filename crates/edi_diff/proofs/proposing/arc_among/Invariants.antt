use Rattle.std.proofs.Common.{◌≡◌, drop}
use Rattle.edi_diff.specs.inner.Progress.{arc_of_ends}
use Rattle.edi_diff.proofs.proposing.arc_among.Given as goal

abbrev pub invariant-loop-end : goal.invariant-loop-end
invariant-loop-end l = arc_of_ends l.plan (drop l.end-index l.ends) ≡ arc_of_ends l.plan l.ends
