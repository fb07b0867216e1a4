-- The records of a plan with some of its arcs reversed.
use Rattle.std.proofs.Common.{◌≡◌, ℕ, zero, suc, ◌+◌, ◌<◌, Bool, not, List, [], ◌∷◌, length, get_or, reverse, refl, ap, ◌∙◌, arith, Ordering, Less, Equal, Greater, is_lt}
use Rattle.std.specs.Ordering.{ordering_reverse}
use Rattle.std.proofs.lemmas.List.{reverse-reverse}
use Rattle.edi_record.specs.Orders.{point_cmp, points_cmp}
use Rattle.edi_record.specs.declared.record.Point.{Point}
use Rattle.edi_plan.proofs.Orders.{points_total, exact_lists, point_exact}
use Rattle.edi_plan.specs.Plans.{PlanData, IsPlace, record_at, blank}
use Rattle.edi_plan.specs.declared.record.PlanRecord.{PlanRecord}
use Rattle.edi_rank.specs.Turned.{is_forward, turned_plan, turned_record, turned_from}

-- the record at a place after the reversals

turned_there : (partner : ℕ → ℕ) (turned : ℕ → Bool) (place : ℕ) (rs : List PlanRecord) (i : ℕ) → i < length rs → get_or (turned_from partner turned place rs) i blank ≡ turned_record partner turned (place + i) (get_or rs i blank)
turned_there partner turned place [] i h = absurd (omega arith)
turned_there partner turned place (r ∷ rs) zero h = let e : place ≡ place + 0 = omega arith in ap (λ k. turned_record partner turned k r) e
turned_there partner turned place (r ∷ rs) (suc i) h = turned_there partner turned (place + 1) rs i (omega arith) ∙ (let e : (place + 1) + i ≡ place + suc i = omega arith in ap (λ k. turned_record partner turned k (get_or rs i blank)) e)

pub turned_long : (partner : ℕ → ℕ) (turned : ℕ → Bool) (place : ℕ) (rs : List PlanRecord) → length (turned_from partner turned place rs) ≡ length rs
turned_long partner turned place [] = refl
turned_long partner turned place (r ∷ rs) = ap suc (turned_long partner turned (place + 1) rs)

pub record_turned : (partner : ℕ → ℕ) (turned : ℕ → Bool) (p : PlanData) (i : ℕ) → IsPlace p i → record_at (turned_plan partner turned p) i ≡ turned_record partner turned i (record_at p i)
record_turned partner turned p i h = turned_there partner turned 0 p.list i h ∙ (let e : 0 + i ≡ i = omega arith in ap (λ k. turned_record partner turned k (record_at p i)) e)

pub turned_place : (partner : ℕ → ℕ) (turned : ℕ → Bool) (p : PlanData) (i : ℕ) → IsPlace (turned_plan partner turned p) i → IsPlace p i
turned_place partner turned p i h = omega (arith, turned_long partner turned 0 p.list)

-- of points that differ from their reverse, either they or the reverse are forward
pub reverse_forward : (points : List Point) → (points ≡ reverse points → ⊥) → is_forward (reverse points) ≡ not (is_forward points)
reverse_forward points differs = ap (λ xs. is_lt (points_cmp (reverse points) xs)) (reverse-reverse points) ∙ (ap is_lt (points_total.antisymm (reverse points) points) ∙ go (points_cmp points (reverse points)) refl)
  where
    go : (o : Ordering) → points_cmp points (reverse points) ≡ o → is_lt (ordering_reverse o) ≡ not (is_lt o)
    go Less e = refl
    go Equal e = absurd (differs (exact_lists point_cmp point_exact points (reverse points) e))
    go Greater e = refl
