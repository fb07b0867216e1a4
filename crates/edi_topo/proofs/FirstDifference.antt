-- The first place at which two lists differ decides their order, and else their lengths do.
use Rattle.std.proofs.Common.{◌≡◌, ◌≢◌, ◌≤◌, ◌⊎◌, inl, inr, ℕ, zero, suc, ◌+◌, ◌<◌, true, false, true≢false, List, [], ◌∷◌, length, get_or, refl, sym, ap, ◌∙◌, subst, arith, Ordering, Less, Equal, Greater}
use Rattle.std.proofs.lemmas.Bool.{cases_lt}
use Rattle.std.specs.Cmp.Lexicographic.{slice_cmp}
use Rattle.std.specs.Ordering.{ordering_then, is_ne, MatchOrdering}

pub differs : (o : Ordering) → is_ne o ≡ true → o ≢ Equal
differs Less h e = cc
differs Equal h e = true≢false (sym h)
differs Greater h e = cc

pub tied : (o : Ordering) → is_ne o ≡ false → o ≡ Equal
tied Less h = absurd (true≢false h)
tied Equal h = refl
tied Greater h = absurd (true≢false h)

shorter : (m n : ℕ) (o : Ordering) → MatchOrdering o (suc m < suc n) (suc m ≡ suc n) (suc n < suc m) → MatchOrdering o (m < n) (m ≡ n) (n < m)
shorter m n Less h = let l : suc m < suc n = h in omega arith
shorter m n Equal h = let l : suc m ≡ suc n = h in omega arith
shorter m n Greater h = let l : suc n < suc m = h in omega arith

module _ {X : Type 0} (cmp : X → X → Ordering) (d : X) where
  first_counts : (o p : Ordering) → o ≢ Equal → ordering_then o p ≡ o
  first_counts Less p differs = refl
  first_counts Equal p differs = absurd (differs refl)
  first_counts Greater p differs = refl

  pub first_difference : (xs ys : List X) → (i : ℕ) → i < length xs → i < length ys → ((j : ℕ) → j < i → cmp (get_or xs j d) (get_or ys j d) ≡ Equal)
      → cmp (get_or xs i d) (get_or ys i d) ≢ Equal → slice_cmp cmp xs ys ≡ cmp (get_or xs i d) (get_or ys i d)
  first_difference [] ys i h k before differs = absurd (omega (arith, h))
  first_difference (x ∷ xs) [] i h k before differs = absurd (omega (arith, k))
  first_difference (x ∷ xs) (y ∷ ys) zero h k before differs = first_counts (cmp x y) (slice_cmp cmp xs ys) differs
  first_difference (x ∷ xs) (y ∷ ys) (suc i) h k before differs =
      ap (λ o. ordering_then o (slice_cmp cmp xs ys)) (before 0 (omega arith)) ∙ first_difference xs ys i (omega (arith, h)) (omega (arith, k)) (λ j l. before (suc j) (omega (arith, l))) differs

  -- lists that are equal up to a place, and at it, are equal up to the next
  pub one_further : (xs ys : List X) (i : ℕ) → ((j : ℕ) → j < i → cmp (get_or xs j d) (get_or ys j d) ≡ Equal)
      → cmp (get_or xs i d) (get_or ys i d) ≡ Equal → (j : ℕ) → j < i + 1 → cmp (get_or xs j d) (get_or ys j d) ≡ Equal
  one_further xs ys i before here j h = go (cases_lt j i)
    where
      go : (j < i) ⊎ (i ≤ j) → cmp (get_or xs j d) (get_or ys j d) ≡ Equal
      go (inl less) = before j less
      go (inr le) =
          let e : i ≡ j = omega (arith, h, le) in
          subst (λ k. cmp (get_or xs k d) (get_or ys k d) ≡ Equal) e here

  pub no_difference : (xs ys : List X) (o : Ordering) → MatchOrdering o (length xs < length ys) (length xs ≡ length ys) (length ys < length xs)
      → ((j : ℕ) → j < length xs → j < length ys → cmp (get_or xs j d) (get_or ys j d) ≡ Equal) → slice_cmp cmp xs ys ≡ o
  no_difference [] [] Less long same = absurd (let l : 0 < 0 = long in omega arith)
  no_difference [] [] Equal long same = refl
  no_difference [] [] Greater long same = absurd (let l : 0 < 0 = long in omega arith)
  no_difference [] (y ∷ ys) Less long same = refl
  no_difference [] (y ∷ ys) Equal long same = absurd (let e : 0 ≡ suc (length ys) = long in omega arith)
  no_difference [] (y ∷ ys) Greater long same = absurd (let l : suc (length ys) < 0 = long in omega arith)
  no_difference (x ∷ xs) [] Less long same = absurd (let l : suc (length xs) < 0 = long in omega arith)
  no_difference (x ∷ xs) [] Equal long same = absurd (let e : suc (length xs) ≡ 0 = long in omega arith)
  no_difference (x ∷ xs) [] Greater long same = refl
  no_difference (x ∷ xs) (y ∷ ys) o long same =
      ap (λ p. ordering_then p (slice_cmp cmp xs ys)) (same 0 (omega arith) (omega arith)) ∙ no_difference xs ys o (shorter (length xs) (length ys) o long) (λ j l m. same (suc j) (omega (arith, l)) (omega (arith, m)))
