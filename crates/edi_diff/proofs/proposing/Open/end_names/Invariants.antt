use Rattle.std.proofs.Common.{◌≡◌, ◌++◌, drop, map, option_map}
use Rattle.edi_plan.specs.declared.record.PlanEnd.{PlanEnd}
use Rattle.edi_diff.specs.inner.Keys.{all_known}
use Rattle.edi_diff.specs.inner.Progress.{known_name, progress_of}
use Rattle.edi_diff.proofs.proposing.Open.end_names.Given as goal

abbrev pub invariant-loop-end : goal.invariant-loop-end
invariant-loop-end l =
    let name = λ (end : PlanEnd). known_name (progress_of l.self) l.of_second end.target in
    option_map (λ rest. l.names.items ++ rest) (all_known (map name (drop l.end-index l.ends))) ≡ all_known (map name l.ends)
