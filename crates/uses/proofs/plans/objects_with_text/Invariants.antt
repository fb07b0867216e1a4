use Rattle.std.proofs.Common.{◌≡◌, ◌==◌, ◌&&◌, filter, take}
use Rattle.std.specs.List.{list_any}
use Rattle.edi_plan.specs.Plans.{record_at}
use Rattle.uses.specs.Callers.{has_text}
use Rattle.uses.proofs.plans.objects_with_text.Given as goal

-- the objects so far
abbrev pub invariant-loop-place : goal.invariant-loop-place
invariant-loop-place l =
    l.found.items ≡ filter (λ k. (record_at l.plan k).class == l.class && list_any (has_text l.attribute l.text) (record_at l.plan k).attributes) (take l.place-index l.place-items)
