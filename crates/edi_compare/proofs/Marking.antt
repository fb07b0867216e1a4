-- The places to which the first so many records go have a mark, and no others.
use Rattle.std.proofs.Common.{◌≡◌, ℕ, zero, suc, ◌+◌, ◌<◌, ◌≤◌, ◌⊎◌, inl, inr, Bool, true, false, true≢false, List, [], ◌∷◌, length, get_or, set, refl, sym, ap, ◌∙◌, arith}
use Rattle.std.specs.List.{AllByRecursion}
use Rattle.std.proofs.lemmas.Bool.{cases_eq, cases_lt}
use Rattle.std.proofs.lemmas.List.{get_or-set_other, get_or-set_same, length-set}
use Rattle.edi_compare.specs.inner.Checking.{AreMarked}

-- where none is marked

abbrev AllUnmarked : List Bool → Type 0
AllUnmarked bs = AllByRecursion (λ b. (b ≡ false) ⊎ (b ≡ false)) bs

one_unmarked : (b : Bool) → (b ≡ false) ⊎ (b ≡ false) → b ≡ false
one_unmarked b (inl e) = e
one_unmarked b (inr e) = e

each_unmarked : (bs : List Bool) → AllUnmarked bs → (j : ℕ) → get_or bs j false ≡ false
each_unmarked [] all j = refl
each_unmarked (b ∷ bs) all zero = one_unmarked b all.0
each_unmarked (b ∷ bs) all (suc j) = each_unmarked bs all.1 j

pub none_marked : (to : ℕ → ℕ) (marks : List Bool) (n : ℕ) → length marks ≡ n → AllUnmarked marks → AreMarked to marks n 0
none_marked to marks n long unmarked = record {
  long = long;
  found = λ j e. absurd (true≢false (sym e ∙ each_unmarked marks unmarked j));
  marked = λ k h. absurd (omega arith);
}

-- one more
module _ (to : ℕ → ℕ) (marks : List Bool) (n done : ℕ) (are : AreMarked to marks n done) (fits : to done < n) where
  found_more : (j : ℕ) → get_or (set marks (to done) true) j false ≡ true → (k : ℕ) × (k < done + 1) × (to k ≡ j)
  found_more j e = go (cases_eq j (to done))
    where
      go : (j ≡ to done) ⊎ (j ≡ to done → ⊥) → (k : ℕ) × (k < done + 1) × (to k ≡ j)
      go (inl same) = (done, omega arith, sym same)
      go (inr ne) = let w = are.found j (sym (get_or-set_other marks (to done) j true false ne) ∙ e) in (w.0, omega (arith, w.1), w.2)

  marked_more : (k : ℕ) → k < done + 1 → get_or (set marks (to done) true) (to k) false ≡ true
  marked_more k h = go (cases_eq (to k) (to done)) (cases_lt k done)
    where
      go : (to k ≡ to done) ⊎ (to k ≡ to done → ⊥) → (k < done) ⊎ (done ≤ k) → get_or (set marks (to done) true) (to k) false ≡ true
      go (inl same) c = ap (λ j. get_or (set marks (to done) true) j false) same ∙ get_or-set_same marks (to done) true false (omega (arith, are.long, fits))
      go (inr ne) (inl less) = get_or-set_other marks (to done) (to k) true false ne ∙ are.marked k less
      go (inr ne) (inr past) = let last : k ≡ done = omega arith in absurd (ne (ap to last))

  pub one_more_marked : AreMarked to (set marks (to done) true) n (done + 1)
  one_more_marked = record { long = length-set marks (to done) true ∙ are.long; found = found_more; marked = marked_more }
