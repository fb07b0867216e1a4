use Rattle.std.proofs.Common.{◌≡◌, ◌||◌, ℕ, drop, map}
use Rattle.std.specs.List.{list_any}
use Rattle.edi_plan.specs.Plans.{is_object, record_at}
use Rattle.edi_objects.specs.inner.Sheets.{is_marked_place}
use Rattle.edi_objects.proofs.bare_links.is_told_beside.Given as goal

abbrev pub invariant-loop-end : goal.invariant-loop-end
invariant-loop-end l = list_any (λ (k : ℕ). is_object (record_at l.plan k).kind || is_marked_place l.marks k) (map (λ e. e.target) (drop l.end-index l.end-items)) ≡ list_any (λ (k : ℕ). is_object (record_at l.plan k).kind || is_marked_place l.marks k) (map (λ e. e.target) l.end-items)
