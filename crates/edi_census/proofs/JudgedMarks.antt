-- What a mark at a place says of the object there.
use Rattle.std.proofs.Common.{◌≡◌, ◌∙◌, ◌+◌, ◌<◌, ℕ, Bool, false, true, IsTrue, List, length, get_or, sym, ap, subst, arith}
use Rattle.std.proofs.lemmas.List.{get_or_read}
use Rattle.edi_plan.specs.Plans.{PlanData}
use Rattle.edi_rank.specs.EqualObjects.{BreaksObjectRule}
use Rattle.edi_topo.specs.Marks.{AreMarksOf}

pub object_judged : (p q : PlanData) (rule place : ℕ) (marks : List Bool) (found : Bool) → p ≡ q → rule ≡ 501
    → AreMarksOf (length p.list) (λ k. BreaksObjectRule p 501 (k + 1)) marks → place < length q.list → found ≡ get_or marks place found
    → (IsTrue found → BreaksObjectRule q rule (place + 1)) × (BreaksObjectRule q rule (place + 1) → IsTrue found)
object_judged p q rule place marks found same is are within read =
    subst (λ (x : PlanData). (IsTrue found → BreaksObjectRule x rule (place + 1)) × (BreaksObjectRule x rule (place + 1) → IsTrue found)) same
    (subst (λ r. (IsTrue found → BreaksObjectRule p r (place + 1)) × (BreaksObjectRule p r (place + 1) → IsTrue found)) (sym is)
    (λ t. each.0 (sym here ∙ t), λ b. here ∙ each.1 b))
  where
    each : (get_or marks place false ≡ true → BreaksObjectRule p 501 (place + 1)) × (BreaksObjectRule p 501 (place + 1) → get_or marks place false ≡ true)
    each = are.each place

    long : length p.list ≡ length q.list
    long = ap (λ (x : PlanData). length x.list) same

    here : found ≡ get_or marks place false
    here = get_or_read marks place found (omega (arith, within, are.all, long)) read false
