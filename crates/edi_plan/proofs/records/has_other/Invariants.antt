use Rattle.std.proofs.Common.{◌≡◌, drop}
use Rattle.std.specs.List.{list_any}
use Rattle.edi_plan.specs.inner.Resolving.{is_elsewhere}
use Rattle.edi_plan.proofs.records.has_other.Given as goal

abbrev pub invariant-loop-end : goal.invariant-loop-end
invariant-loop-end l = list_any (is_elsewhere l.subset) (drop l.end-index l.ends) ≡ list_any (is_elsewhere l.subset) l.ends
