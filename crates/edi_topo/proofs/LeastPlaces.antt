-- The least member of which something holds has the least place of which it holds.
use Rattle.std.proofs.Common.{◌≡◌, ℕ, ◌<◌, ◌≤◌, ◌⊎◌, inl, inr, length, get_or, ap, arith}
use Rattle.std.proofs.lemmas.Bool.{cases_order}
use Rattle.edi_record.specs.declared.record.Kind.{Kind}
use Rattle.edi_plan.specs.EarlierLinks.{IsLeast}
use Rattle.edi_plan.specs.Places.{places_of}
use Rattle.edi_plan.specs.Plans.{PlanData}
use Rattle.edi_plan.proofs.PlaceLemmas.{places_rise}

module _ (kind : Kind) (p : PlanData) where
  abbrev at : ℕ → ℕ
  at m = get_or (places_of kind p) m 0

  -- the member with the lesser place is the lesser
  pub lesser_member : (i j : ℕ) → i < length (places_of kind p) → at i < at j → i < j
  lesser_member i j h less = go (cases_order i j)
    where
      go : (i ≡ j) ⊎ ((i < j) ⊎ (j < i)) → i < j
      go (inl e) = absurd (omega (arith, ap at e, less))
      go (inr (inl d)) = d
      go (inr (inr d)) = absurd (omega (arith, less, places_rise kind p j i d h))

  places_never_fall : (i j : ℕ) → i ≤ j → j < length (places_of kind p) → at i ≤ at j
  places_never_fall i j le h = go (cases_order i j)
    where
      go : (i ≡ j) ⊎ ((i < j) ⊎ (j < i)) → at i ≤ at j
      go (inl e) = omega (arith, ap at e)
      go (inr (inl less)) = omega (arith, places_rise kind p i j less h)
      go (inr (inr more)) = absurd (omega (arith, le, more))

  pub least_place : (P Q : ℕ → Type 0) → ((i : ℕ) → P i → i < length (places_of kind p)) → ((i : ℕ) → P i → Q (at i)) → ((k : ℕ) → Q k → (i : ℕ) × P i × (at i ≡ k)) → (m : ℕ) → IsLeast P m → IsLeast Q (at m)
  least_place P Q within there back m first = record {
    is = there m first.is;
    least = λ k q. let i = back k q in omega (arith, i.2, places_never_fall m i.0 (first.least i.0 i.1) (within i.0 i.1));
  }
