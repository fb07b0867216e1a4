use Rattle.std.proofs.Common.{◌≡◌, ◌++◌, drop, false, is_none, map}
use Rattle.edi_diff.specs.inner.Codes.{code_at}
use Rattle.edi_diff.specs.inner.Progress.{places_where}
use Rattle.edi_diff.proofs.proposing.Open.codes.Given as goal

abbrev pub invariant-loop-place : goal.invariant-loop-place
invariant-loop-place l =
    let to = l.self.changes.now.to.items in
    l.codes.items ++ map (code_at false) (places_where is_none l.place (drop l.place to)) ≡ map (code_at false) (places_where is_none 0 to)
