-- How many places a type has.
use Rattle.std.proofs.Common.{◌≡◌, ℕ, ◌+◌, Bool, true, false, List, [], ◌∷◌, length, count_by, cond, refl, sym, ◌∙◌, arith}
use Rattle.edi_record.specs.declared.record.Kind.{Kind}
use Rattle.edi_schema.proofs.SortedLists.{count_by-cons}
use Rattle.edi_plan.specs.Plans.{same_kind}
use Rattle.edi_plan.specs.Places.{places_from}
use Rattle.edi_plan.specs.declared.record.PlanRecord.{PlanRecord}

pub counted : (kind : Kind) (place : ℕ) (rs : List PlanRecord) → length (places_from kind place rs) ≡ count_by (λ r. same_kind kind r.kind) rs
counted kind place [] = refl
counted kind place (r ∷ rs) = go (same_kind kind r.kind) (counted kind (place + 1) rs) ∙ sym (count_by-cons (λ r. same_kind kind r.kind) r rs)
  where
    go : (b : Bool) → length (places_from kind (place + 1) rs) ≡ count_by (λ r. same_kind kind r.kind) rs
        → length (cond b (place ∷ places_from kind (place + 1) rs) (places_from kind (place + 1) rs)) ≡ cond b 1 0 + count_by (λ r. same_kind kind r.kind) rs
    go true e = omega (arith, e)
    go false e = omega (arith, e)
