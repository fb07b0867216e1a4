use Rattle.std.proofs.Common.{ℕ, ◌≡◌, ◌++◌, false, flat_map, take, true}
use Rattle.edi_diff.specs.inner.Codes.{code_at}
use Rattle.edi_diff.specs.inner.Joints.{joints_of}
use Rattle.edi_diff.specs.inner.Progress.{progress_of}
use Rattle.edi_diff.proofs.proposing.Open.joints.Given as goal

abbrev pub invariant-loop-place : goal.invariant-loop-place
invariant-loop-place l =
    let joints = λ (place : ℕ). joints_of (progress_of l.self) (code_at false place) in
    l.joined.items ≡ flat_map joints (take l.place-index l.place-items)

abbrev pub invariant-loop-place-2 : goal.invariant-loop-place-2
invariant-loop-place-2 l =
    let joints = λ (place : ℕ). joints_of (progress_of l.self) (code_at true place) in
    l.joined.items ≡ l.initial.joined.items ++ flat_map joints (take l.place-index l.place-items)
