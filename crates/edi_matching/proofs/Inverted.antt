-- A matching that is turned round record by record.
use Rattle.std.proofs.Common.{◌≡◌, ℕ, ◌+◌, ◌<◌, ◌≤◌, ◌⊎◌, inl, inr, min, Bool, false, List, Option, None, Some, length, get_or, set, sym, ap, ◌∙◌, subst, arith}
use Rattle.std.proofs.lemmas.Bool.{cases_eq}
use Rattle.std.proofs.lemmas.List.{get_or-set_other, get_or-set_same, length-set}
use Rattle.edi_rank.specs.Labelling.{turned_at}
use Rattle.edi_matching.specs.Matchings.{GoesTo, IsMatched}
use Rattle.edi_matching.specs.declared.matching.Matching.{Matching}
use Rattle.edi_matching.specs.inner.Inverses.{IsInverse}
use Rattle.edi_matching.proofs.RecordsAdded.{last_or}
use Rattle.edi_matching.proofs.Totals.{goes_within}

-- nothing was turned yet
pub none_turned : (m : Matching) (count : ℕ) (to : List (Option ℕ)) (turned : List Bool) → length to ≡ count → ((j : ℕ) → get_or to j None ≡ None) → length turned ≡ count
    → ((j : ℕ) → get_or turned j false ≡ false) → IsInverse m count 0 (record { to = to; turned = turned })
none_turned m count to turned long nowhere wide unturned = record {
  all_entered = long;
  all_directed = wide;
  back_to = λ i j goes. absurd (none_goes i j goes);
  every = λ i j below goes less. absurd (omega (arith, below));
  turned = λ i j goes. absurd (none_goes i j goes);
  unturned = λ j e. unturned j;
}
  where
    none_goes : (i j : ℕ) → GoesTo to j i → ⊥
    none_goes i j goes = let e : None ≡ Some i = sym (nowhere j) ∙ goes in cc

-- one record more, which goes nowhere that there is a place for
pub no_turn : (m : Matching) (count i : ℕ) (back : Matching) → IsInverse m count i back → ((j : ℕ) → GoesTo m.to i j → j < count → ⊥) → IsInverse m count (i + 1) back
no_turn m count i back so none = record {
  all_entered = so.all_entered;
  all_directed = so.all_directed;
  back_to = so.back_to;
  every = λ k j below goes less. go k j goes less (last_or k i below);
  turned = so.turned;
  unturned = so.unturned;
}
  where
    go : (k j : ℕ) → GoesTo m.to k j → j < count → (k < i) ⊎ (k ≡ i) → IsMatched back.to j
    go k j goes less (inl before) = so.every k j before goes less
    go k j goes less (inr same) = absurd (none j (subst (λ (x : ℕ). GoesTo m.to x j) same goes) less)

-- one record more, which goes to a place
module _ (m : Matching) (count i : ℕ) (to : List (Option ℕ)) (turned : List Bool) (so : IsInverse m count i (record { to = to; turned = turned })) (j : ℕ) (goes : GoesTo m.to i j) (less : j < count) where
  abbrev after : List (Option ℕ)
  after = set to j (Some i)

  abbrev turns : List Bool
  turns = set turned j (turned_at m.turned i)

  here : GoesTo after j i
  here = get_or-set_same to j (Some i) None (subst (λ n. j < n) (sym so.all_entered) less)

  turned_here : turned_at turns j ≡ turned_at m.turned i
  turned_here = get_or-set_same turned j (turned_at m.turned i) false (subst (λ n. j < n) (sym so.all_directed) less)

  -- what goes there now
  only_here : (k l : ℕ) → l ≡ j → GoesTo after l k → k ≡ i
  only_here k l same at = let e : Some i ≡ Some k = sym here ∙ (ap (λ x. get_or after x None) (sym same) ∙ at) in cc

  elsewhere : (l : ℕ) → (l ≡ j → ⊥) → get_or after l None ≡ get_or to l None
  elsewhere l ne = get_or-set_other to j l (Some i) None ne

  turned_elsewhere : (l : ℕ) → (l ≡ j → ⊥) → turned_at turns l ≡ turned_at turned l
  turned_elsewhere l ne = get_or-set_other turned j l (turned_at m.turned i) false ne

  back_here : (k l : ℕ) → GoesTo after l k → (l ≡ j) ⊎ (l ≡ j → ⊥) → GoesTo m.to k l
  back_here k l at (inl same) = subst (λ (x : ℕ). GoesTo m.to x l) (sym (only_here k l same at)) (goes ∙ ap Some (sym same))
  back_here k l at (inr ne) = so.back_to k l (sym (elsewhere l ne) ∙ at)

  each_here : (k l : ℕ) → GoesTo m.to k l → l < count → (l ≡ j) ⊎ (l ≡ j → ⊥) → (k < i) ⊎ (k ≡ i) → IsMatched after l
  each_here k l at below (inl same) b = (i, ap (λ x. get_or after x None) same ∙ here)
  each_here k l at below (inr ne) (inl before) = let w = so.every k l before at below in (w.0, elsewhere l ne ∙ w.1)
  each_here k l at below (inr ne) (inr same) = absurd (ne (let e : Some l ≡ Some j = sym at ∙ (ap (λ x. get_or m.to x None) same ∙ goes) in cc))

  turned_so : (k l : ℕ) → GoesTo after l k → (l ≡ j) ⊎ (l ≡ j → ⊥) → turned_at turns l ≡ turned_at m.turned k
  turned_so k l at (inl same) = ap (λ x. turned_at turns x) same ∙ (turned_here ∙ ap (λ x. turned_at m.turned x) (sym (only_here k l same at)))
  turned_so k l at (inr ne) = turned_elsewhere l ne ∙ so.turned k l (sym (elsewhere l ne) ∙ at)

  unturned_here : (l : ℕ) → get_or after l None ≡ None → (l ≡ j) ⊎ (l ≡ j → ⊥) → turned_at turns l ≡ false
  unturned_here l at (inl same) = absurd (let e : Some i ≡ None = sym here ∙ (ap (λ x. get_or after x None) (sym same) ∙ at) in cc)
  unturned_here l at (inr ne) = turned_elsewhere l ne ∙ so.unturned l (sym (elsewhere l ne) ∙ at)

  pub one_turn : IsInverse m count (i + 1) (record { to = after; turned = turns })
  one_turn = record {
    all_entered = length-set to j (Some i) ∙ so.all_entered;
    all_directed = length-set turned j (turned_at m.turned i) ∙ so.all_directed;
    back_to = λ k l at. back_here k l at (cases_eq l j);
    every = λ k l below at within. each_here k l at within (cases_eq l j) (last_or k i below);
    turned = λ k l at. turned_so k l at (cases_eq l j);
    unturned = λ l at. unturned_here l at (cases_eq l j);
  }

-- all records were turned
pub all_turned : (m : Matching) (count places most : ℕ) (back : Matching) → min (length m.to) most ≤ places → IsInverse m count places back → IsInverse m count most back
all_turned m count places most back whole so = record {
  all_entered = so.all_entered;
  all_directed = so.all_directed;
  back_to = so.back_to;
  every = λ i j below goes less. so.every i j (let h = goes_within m.to i j goes in omega (arith, h, below, whole)) goes less;
  turned = so.turned;
  unturned = so.unturned;
}
