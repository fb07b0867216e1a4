use Rattle.std.proofs.Common.{◌≡◌, drop}
use Rattle.std.specs.List.{list_any}
use Rattle.edi_plan.specs.inner.Findings.{is_sided}
use Rattle.edi_plan.proofs.link_findings.repeats_side.Given as goal

abbrev pub invariant-loop-target : goal.invariant-loop-target
invariant-loop-target l = list_any (is_sided l.sides l.role) (drop l.target-index l.targets) ≡ list_any (is_sided l.sides l.role) l.targets
