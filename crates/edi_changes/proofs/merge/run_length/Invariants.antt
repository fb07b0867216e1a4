use Rattle.std.proofs.Common.{◌≡◌, ◌+◌, drop}
use Rattle.edi_changes.specs.inner.Merging.{run_length}
use Rattle.edi_changes.proofs.merge.run_length.Given as goal

abbrev pub invariant-loop-entry : goal.invariant-loop-entry
invariant-loop-entry l = (l.count ≡ l.entry-index) × (l.count + run_length l.subject (drop l.entry-index l.entries) ≡ run_length l.subject l.entries)
