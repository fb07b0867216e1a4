use Rattle.std.proofs.Common.{◌≡◌, ◌++◌, flat_map, take}
use Rattle.edi_plan.specs.declared.record.PlanEnd.{PlanEnd}
use Rattle.edi_diff.specs.inner.Joints.{joint_of}
use Rattle.edi_diff.specs.inner.Progress.{progress_of}
use Rattle.edi_diff.proofs.proposing.Open.join_ends.Given as goal

abbrev pub invariant-loop-end : goal.invariant-loop-end
invariant-loop-end l =
    let joints = λ (end : PlanEnd). joint_of (progress_of l.self) l.code l.origin.target end.target ++ joint_of (progress_of l.self) l.code end.target l.origin.target in
    l.joined.items ≡ l.initial.joined.items ++ flat_map joints (take l.end-index l.others)
