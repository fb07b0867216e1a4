use Rattle.std.proofs.Common.{◌≡◌, drop}
use Rattle.std.specs.List.{list_any}
use Rattle.edi_plan.specs.inner.EarlierLinks.{ends_at_place}
use Rattle.edi_plan.proofs.earlier_links.shares_arc.Given as goal

abbrev pub invariant-loop-target : goal.invariant-loop-target
invariant-loop-target l = list_any (ends_at_place l.ends) (drop l.target-index l.targets) ≡ list_any (ends_at_place l.ends) l.targets
