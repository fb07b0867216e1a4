use Rattle.std.proofs.Common.{◌≡◌, ◌++◌, drop, map, not, true}
use Rattle.edi_diff.specs.inner.Codes.{code_at}
use Rattle.edi_diff.specs.inner.Progress.{open_seconds, places_where, progress_of}
use Rattle.edi_diff.proofs.proposing.Open.push_seconds.Given as goal

abbrev pub invariant-loop-place : goal.invariant-loop-place
invariant-loop-place l =
    l.codes.items ++ map (code_at true) (places_where not l.place (drop l.place l.self.changes.now.reached.items)) ≡ l.initial.codes.items ++ open_seconds (progress_of l.self)
