-- Numbers that count the lesser keys go as the keys do.
use Rattle.std.proofs.Common.{◌≡◌, ℕ, zero, suc, ◌<◌, ◌≤◌, ◌⊎◌, inl, inr, Bool, true, false, cond, refl, sym, ap, ◌∙◌, subst, arith, Ordering, Less, Equal, Greater, is_lt}
use Rattle.std.specs.Cmp.{IsTotalOrder}
use Rattle.std.specs.Ordering.{ordering_reverse}
use Rattle.std.proofs.lemmas.Bool.{cases_eq}
use Rattle.std.proofs.lemmas.Cmp.{tied_itself}
use Rattle.edi_topo.specs.Ranking.{sum_below, rank}

sum_at_most : (n : ℕ) (f g : ℕ → ℕ) → ((i : ℕ) → i < n → f i ≤ g i) → sum_below n f ≤ sum_below n g
sum_at_most zero f g le = omega arith
sum_at_most (suc n) f g le = omega (arith, le n (omega arith), sum_at_most n f g (λ i h. le i (omega arith)))

sum_less : (n : ℕ) (f g : ℕ → ℕ) → ((i : ℕ) → i < n → f i ≤ g i) → (k : ℕ) → k < n → f k < g k → sum_below n f < sum_below n g
sum_less zero f g le k h less = absurd (omega arith)
sum_less (suc n) f g le k h less = go (cases_eq k n) (sum_less n f g (λ i l. le i (omega arith)) k)
  where
    go : (k ≡ n) ⊎ (k ≡ n → ⊥) → (k < n → f k < g k → sum_below n f < sum_below n g) → sum_below (suc n) f < sum_below (suc n) g
    go (inl e) more = let last : f n < g n = subst (λ j. f j < g j) e less in omega (arith, last, sum_at_most n f g (λ i l. le i (omega arith)))
    go (inr ne) more = omega (arith, le n (omega arith), more (omega arith) less)

sum_of_ones : (n : ℕ) → sum_below n (λ _. 1) ≡ n
sum_of_ones zero = refl
sum_of_ones (suc n) = omega (arith, sum_of_ones n)

module _ {K : Type 0} (cmp : K → K → Ordering) (total : IsTotalOrder cmp) (key : ℕ → K) (size : ℕ) where
  abbrev counted : ℕ → ℕ → ℕ
  counted m i = cond (is_lt (cmp (key i) (key m))) 1 0

  one_at_most : (b : Bool) → cond b 1 0 ≤ 1
  one_at_most true = omega arith
  one_at_most false = omega arith

  pub rank_within : (m : ℕ) → m < size → rank cmp key size m ≤ size
  rank_within m h = omega (arith, sum_less size (counted m) (λ _. 1) (λ i l. one_at_most (is_lt (cmp (key i) (key m)))) m h own, sum_of_ones size)
    where
      own : counted m m < 1
      own = rw (tied_itself total (key m)) (omega arith)

  lesser_rank : (m n : ℕ) → m < size → cmp (key m) (key n) ≡ Less → rank cmp key size m < rank cmp key size n
  lesser_rank m n h less = omega (arith, sum_less size (counted m) (counted n) (λ i l. passed i (cmp (key i) (key m)) refl) m h (rw (tied_itself total (key m), less) (omega arith)))
    where
      passed : (i : ℕ) (o : Ordering) → cmp (key i) (key m) ≡ o → counted m i ≤ counted n i
      passed i Less e = rw (e, total.trans (key i) (key m) (key n) e less) (omega arith)
      passed i Equal e = rw e (omega arith)
      passed i Greater e = rw e (omega arith)

  -- a lesser number is that of a lesser key
  pub rank_rises : (m n : ℕ) → m < size → n < size → rank cmp key size m < rank cmp key size n → cmp (key m) (key n) ≡ Less
  rank_rises m n h l less = go (cmp (key m) (key n)) refl
    where
      same : cmp (key m) (key n) ≡ Equal → (k : ℕ) → sum_below k (counted m) ≡ sum_below k (counted n)
      same e zero = refl
      same e (suc k) = let here : counted m k ≡ counted n k = ap (λ (o : Ordering). cond {A = ℕ} (is_lt o) 1 0) (back (key k)) in omega (arith, same e k, here)
        where
          back : (x : K) → cmp x (key m) ≡ cmp x (key n)
          back x = total.antisymm x (key m) ∙ (ap ordering_reverse (total.congr (key m) (key n) x e) ∙ sym (total.antisymm x (key n)))

      go : (o : Ordering) → cmp (key m) (key n) ≡ o → o ≡ Less
      go Less e = refl
      go Equal e = absurd (omega (arith, same e size))
      go Greater e = absurd (omega (arith, lesser_rank n m l (total.antisymm (key n) (key m) ∙ ap ordering_reverse e)))

  -- members of one number have one key
  pub equal_ranks : (m n : ℕ) → m < size → n < size → rank cmp key size m ≡ rank cmp key size n → cmp (key m) (key n) ≡ Equal
  equal_ranks m n h l e = go (cmp (key m) (key n)) refl
    where
      go : (o : Ordering) → cmp (key m) (key n) ≡ o → o ≡ Equal
      go Less f = absurd (omega (arith, lesser_rank m n h f))
      go Equal f = refl
      go Greater f = absurd (omega (arith, lesser_rank n m l (total.antisymm (key n) (key m) ∙ ap ordering_reverse f)))
