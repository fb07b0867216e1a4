use Rattle.std.proofs.Common.{◌≡◌, drop, is_none}
use Rattle.std.specs.List.{list_any}
use Rattle.edi_plan.proofs.link_findings.names_nothing.Given as goal

abbrev pub invariant-loop-target : goal.invariant-loop-target
invariant-loop-target l = list_any is_none (drop l.target-index l.targets) ≡ list_any is_none l.targets
