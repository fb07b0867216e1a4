use Rattle.std.proofs.Common.{◌+◌, length}
use Rattle.edi_changes.proofs.Merging.{Merged}
use Rattle.edi_changes.proofs.merge.changes_in_order.Given as goal

abbrev pub invariant-loop-subject : goal.invariant-loop-subject
invariant-loop-subject l = Merged l.fn.before l.fn.after l.changes.items l.old l.new

abbrev pub decreases-loop-subject : goal.decreases-loop-subject
decreases-loop-subject l = length l.old + length l.new
