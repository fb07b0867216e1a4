use Rattle.std.proofs.Common.{◌≡◌, ◌==◌, filter, take}
use Rattle.std.specs.List.{list_any}
use Rattle.edi_plan.specs.Plans.{record_at}
use Rattle.uses.proofs.plans.links_naming.Given as goal

-- the links so far
abbrev pub invariant-loop-link : goal.invariant-loop-link
invariant-loop-link l = l.found.items ≡ filter (λ link. list_any (λ e. e.target == l.place) (record_at l.plan link).ends) (take l.link-index l.link-items)
