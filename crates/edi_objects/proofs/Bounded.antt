-- Links that are lost, and those that are bent.
use Rattle.std.proofs.Common.{◌≡◌, ◌∙◌, ◌≤◌, ◌&&◌, ◌||◌, ℕ, Bool, true, false, List, ap, arith, get_or, length, map, not, refl, subst}
use Rattle.std.specs.List.{list_any, range_with_len}
use Rattle.std.proofs.Math.Path.{fun_ext}
use Rattle.std.proofs.lemmas.List.{get_or_past}
use Rattle.std.proofs.lemmas.List.FromFn.{get_or-map-range_with_len}
use Rattle.edi_plan.specs.Plans.{PlanData, blank, record_at}
use Rattle.edi_plan.specs.Sides.{targets}
use Rattle.edi_plan.specs.declared.record.PlanRecord.{PlanRecord}
use Rattle.edi_report.specs.Reports.{Report, parts_at}
use Rattle.edi_objects.specs.Bounds.{bends, bounds_count, is_bent, is_lost, is_lost_by}
use Rattle.edi_objects.specs.Differing.{became_of, is_differing}
use Rattle.edi_objects.specs.inner.Sheets.{AreCounted, AreTested, is_marked_place}
use Rattle.edi_objects.proofs.Marked.{guarded, tested_mapped}

none_behind : (r : Report) (i : ℕ) → length r.first.accepted.list ≤ i → is_differing r i ≡ false
none_behind r i h = guarded _ i (length r.first.accepted.list) h

pub tested_lost : (r : Report) (marks : List Bool) → marks ≡ map (is_lost r) (range_with_len 0 (length r.first.accepted.list)) → AreTested (is_lost r) (length r.first.accepted.list) marks
tested_lost r marks is = tested_mapped (is_lost r) (length r.first.accepted.list) (λ i h. ap (λ (b : Bool). b && is_lost_by (became_of r i) (parts_at r.parts i)) (none_behind r i h)) marks is

bent_behind : (r : Report) (i : ℕ) → length r.first.accepted.list ≤ i → is_bent r i ≡ false
bent_behind r i h =
    ap (λ (b : Bool). not (is_lost r i) && (b || list_any (bends (is_differing r) r.first.accepted i) (targets (record_at r.first.accepted i)))) (none_behind r i h)
    ∙ (ap (λ (x : PlanRecord). not (is_lost r i) && list_any (bends (is_differing r) r.first.accepted i) (targets x)) (get_or_past r.first.accepted.list i blank h) ∙ none (not (is_lost r i)))
  where
    none : (b : Bool) → (b && false) ≡ false
    none true = refl
    none false = refl

pub tested_bent : (r : Report) (marks : List Bool) → marks ≡ map (is_bent r) (range_with_len 0 (length r.first.accepted.list)) → AreTested (is_bent r) (length r.first.accepted.list) marks
tested_bent r marks is = tested_mapped (is_bent r) (length r.first.accepted.list) (bent_behind r) marks is

-- what is counted by marks is counted by the test that they are made from
pub counted_known : (test : ℕ → Bool) (p q : PlanData) (n : ℕ) (marks : List Bool) (counts : List ℕ) → q ≡ p → AreTested test n marks
    → counts ≡ map (bounds_count (is_marked_place marks) q) (range_with_len 0 (length q.list)) → AreCounted test p counts
counted_known test p q n marks counts same tested is = subst (λ (d : PlanData). AreCounted test d counts) same each
  where
    each : AreCounted test q counts
    each i h = ap (λ (xs : List ℕ). get_or xs i 0) is
        ∙ (get_or-map-range_with_len (bounds_count (is_marked_place marks) q) 0 (length q.list) i i 0 h (omega arith)
        ∙ ap (λ (t : ℕ → Bool). bounds_count t q i) (fun_ext tested.each))
