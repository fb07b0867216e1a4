-- A sum over places is the same after a renaming of the places.
use Rattle.std.proofs.Common.{◌≡◌, ◌≢◌, ℕ, zero, suc, ◌+◌, ◌<◌, ◌≤◌, cond, refl, sym, ap, ◌∙◌, arith, nat_eq, ◌⊎◌, inl, inr}
use Rattle.std.proofs.lemmas.Bool.{cases_eq}
use Rattle.edi_topo.specs.Ranking.{sum_below}
use Rattle.edi_topo.proofs.Sums.{sum_below-same}
use Rattle.edi_rank.specs.Same.{OneToOne}
use Rattle.edi_rank.proofs.SameLaws.{from, from_within, to-from, from-to}

sum_below-zero : (n : ℕ) → sum_below n (λ _. 0) ≡ 0
sum_below-zero zero = refl
sum_below-zero (suc n) = omega (arith, sum_below-zero n)

sum_below-add : (n : ℕ) (f g : ℕ → ℕ) → sum_below n (λ i. f i + g i) ≡ sum_below n f + sum_below n g
sum_below-add zero f g = refl
sum_below-add (suc n) f g = omega (arith, sum_below-add n f g)

exchange : (n m : ℕ) (f : ℕ → ℕ → ℕ) → sum_below n (λ i. sum_below m (f i)) ≡ sum_below m (λ j. sum_below n (λ i. f i j))
exchange zero m f = sym (sum_below-zero m)
exchange (suc n) m f = ap (λ k. sum_below m (f n) + k) (exchange n m f) ∙ sym (sum_below-add m (f n) (λ j. sum_below n (λ i. f i j)))

-- v where k is i, and else nothing
abbrev only_at : ℕ → ℕ → ℕ → ℕ
only_at k i v = cond (nat_eq k i) v 0

only_at-same : (k v : ℕ) → only_at k k v ≡ v
only_at-same k v = rw (Rattle.std.proofs.Common.eq-eqb k k refl)

only_at-other : (k i v : ℕ) → k ≢ i → only_at k i v ≡ 0
only_at-other k i v h = rw (Rattle.std.proofs.Common.ne_eqb k i h)

none_at : (n k : ℕ) (f : ℕ → ℕ) → n ≤ k → sum_below n (λ i. only_at k i (f i)) ≡ 0
none_at zero k f h = refl
none_at (suc n) k f h = rw (only_at-other k n (f n) (λ e. omega arith), none_at n k f (omega arith))

one_at : (n k : ℕ) (f : ℕ → ℕ) → k < n → sum_below n (λ i. only_at k i (f i)) ≡ f k
one_at zero k f h = absurd (omega arith)
one_at (suc n) k f h = go (native.Mathlib.Decide.dec_lt k n) (one_at n k f)
  where
    go : Dec (k < n) → (k < n → sum_below n (λ i. only_at k i (f i)) ≡ f k) → only_at k n (f n) + sum_below n (λ i. only_at k i (f i)) ≡ f k
    go (yes less) more = rw (only_at-other k n (f n) (λ e. omega arith)) (omega (arith, more less))
    go (no not_less) more =
        let e : k ≡ n = omega arith in
        rw (e, only_at-same n (f n), none_at n n f (omega arith)) (omega arith)

pub sum_below-renamed : (to : ℕ → ℕ) (n m : ℕ) → OneToOne to n m → (f g : ℕ → ℕ) → ((i : ℕ) → i < n → f i ≡ g (to i)) → sum_below n f ≡ sum_below m g
sum_below-renamed to n m places f g same =
    sum_below-same n f (λ i. sum_below m (λ j. only_at (to i) j (g j))) (λ i h. same i h ∙ sym (one_at m (to i) g (places.within i h)))
    ∙ (exchange n m (λ i j. only_at (to i) j (g j))
    ∙ sum_below-same m (λ j. sum_below n (λ i. only_at (to i) j (g j))) g (λ j h.
    sum_below-same n (λ i. only_at (to i) j (g j)) (λ i. only_at (back j) i (g j)) (λ i l. turned_round i j l h)
    ∙ one_at n (back j) (λ _. g j) (from_within to n m places j h)))
  where
    back : ℕ → ℕ
    back = from to n m places

    turned_round : (i j : ℕ) → i < n → j < m → only_at (to i) j (g j) ≡ only_at (back j) i (g j)
    turned_round i j h l = go (cases_eq (to i) j)
      where
        go : (to i ≡ j) ⊎ (to i ≢ j) → only_at (to i) j (g j) ≡ only_at (back j) i (g j)
        go (inl e) = rw (e, only_at-same j (g j), sym (ap back (sym e) ∙ from-to to n m places i h), only_at-same (back j) (g j))
        go (inr ne) = only_at-other (to i) j (g j) ne ∙ sym (only_at-other (back j) i (g j) (λ e. ne (ap to (sym e) ∙ to-from to n m places j l)))
