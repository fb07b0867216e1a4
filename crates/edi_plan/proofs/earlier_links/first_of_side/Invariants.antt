use Rattle.std.proofs.Common.{ℕ, ◌<◌}
use Rattle.edi_plan.specs.inner.EarlierLinks.{IsOfSideAt}
use Rattle.edi_plan.specs.inner.RecordLists.{plan_records_of}
use Rattle.edi_plan.proofs.earlier_links.first_of_side.Given as goal

abbrev pub invariant-loop-place : goal.invariant-loop-place
invariant-loop-place l = (k : ℕ) → k < l.place → ¬ (IsOfSideAt (plan_records_of l.list) l.role l.targets k)
