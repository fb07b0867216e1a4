use Rattle.std.proofs.Common.{ℕ, ◌≡◌, take}
use Rattle.edi_diff.specs.inner.Codes.{is_of_second, place_by}
use Rattle.edi_diff.specs.inner.Keys.{points_key}
use Rattle.edi_diff.specs.inner.LonePairs.{with_keys}
use Rattle.edi_diff.specs.inner.Progress.{plan_of, progress_of}
use Rattle.edi_diff.proofs.proposing.Open.by_points.Given as goal

abbrev pub invariant-loop-code : goal.invariant-loop-code
invariant-loop-code l =
    let key = λ (code : ℕ). points_key (plan_of (progress_of l.self) (is_of_second code)) (place_by code) in
    l.pairs.items ≡ with_keys key (take l.code-index l.code-items)
