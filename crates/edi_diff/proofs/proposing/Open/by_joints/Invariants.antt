use Rattle.std.proofs.Common.{◌≡◌, take}
use Rattle.edi_diff.specs.inner.Keys.{joined_key}
use Rattle.edi_diff.specs.inner.LonePairs.{with_keys}
use Rattle.edi_diff.specs.inner.Progress.{progress_of}
use Rattle.edi_diff.proofs.proposing.Open.by_joints.Given as goal

abbrev pub invariant-loop-code : goal.invariant-loop-code
invariant-loop-code l =
    let key = joined_key (progress_of l.self) l.joined.items in
    l.pairs.items ≡ with_keys key (take l.code-index l.code-items)
