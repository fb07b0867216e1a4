-- Elements with one key, in a list in which the keys never fall.
use Rattle.std.proofs.Common.{◌≡◌, ◌∙◌, ℕ, zero, suc, ◌+◌, ◌<◌, ◌≤◌, Bool, true, false, cond, List, [], ◌∷◌, length, map, take, drop, get_or, filter, refl, ap, arith, eqb, ltb, leb, sym, true≢false, Ordering}
use Rattle.std.specs.List.{AllByRecursion}
use Rattle.std.specs.List.Sorted.{IsNonDecreasingBy}
use Rattle.std.specs.Ordering.{is_gt}
use Rattle.std.proofs.lemmas.Bool.{eq-eqb, leb-false, leb-true, ltb-false, ltb-true, ne_eqb}
use Rattle.std.proofs.lemmas.List.{get_or-drop, length-drop}
use Rattle.edi_schema.specs.Sorted.{NeverFalls}

module _ {X : Type 0} (p : X → Bool) where
  kept : (b : Bool) (x : X) (xs ys : List X) → b ≡ true → xs ≡ ys → x ∷ xs ≡ cond b (x ∷ ys) ys
  kept true x xs ys is same = ap (λ zs. x ∷ zs) same
  kept false x xs ys is same = absurd (true≢false (sym is))

  left : (b : Bool) (x : X) (xs ys : List X) → b ≡ false → xs ≡ ys → xs ≡ cond b (x ∷ ys) ys
  left true x xs ys is same = absurd (true≢false is)
  left false x xs ys is same = same

  -- what stands in front does not pass
  pub skipped : (xs : List X) (from : ℕ) → ((k : ℕ) (d : X) → k < from → p (get_or xs k d) ≡ false) → from ≤ length xs → filter p (drop from xs) ≡ filter p xs
  skipped xs zero none within = refl
  skipped [] (suc from) none within = absurd (omega (arith, within))
  skipped (x ∷ xs) (suc from) none within =
      left (p x) x (filter p (drop from xs)) (filter p xs) (none zero x (omega arith)) (skipped xs from (λ k d h. none (suc k) d (omega (arith, h))) (omega (arith, within)))

  -- the first so many pass, and no others do
  pub in_front : (xs : List X) (count : ℕ) → count ≤ length xs → ((k : ℕ) (d : X) → k < count → p (get_or xs k d) ≡ true)
      → ((k : ℕ) (d : X) → count ≤ k → k < length xs → p (get_or xs k d) ≡ false) → take count xs ≡ filter p xs
  in_front [] zero within pass fail = refl
  in_front [] (suc count) within pass fail = absurd (omega (arith, within))
  in_front (x ∷ xs) zero within pass fail =
      left (p x) x [] (filter p xs) (fail zero x (omega arith) (omega arith))
      (in_front xs zero (omega arith) (λ k d h. absurd (omega (arith, h))) (λ k d g h. fail (suc k) d (omega arith) (omega (arith, h))))
  in_front (x ∷ xs) (suc count) within pass fail =
      kept (p x) x (take count xs) (filter p xs) (pass zero x (omega arith))
      (in_front xs count (omega (arith, within)) (λ k d h. pass (suc k) d (omega (arith, h))) (λ k d g h. fail (suc k) d (omega (arith, g)) (omega (arith, h))))

-- so those from the first with a number or more on, as long as they have no more, are those with that number
pub run_is : {X : Type 0} (f : X → ℕ) (c : ℕ) (xs behind : List X) (from count : ℕ) → behind ≡ drop from xs → from ≤ length xs → count ≤ length behind
    → ((k : ℕ) (d : X) → 0 ≤ k → k < from → ltb (f (get_or xs k d)) c ≡ true)
    → ((k : ℕ) (d : X) → from ≤ k → k < length xs → ltb (f (get_or xs k d)) c ≡ false)
    → ((k : ℕ) (d : X) → 0 ≤ k → k < count → leb (f (get_or behind k d)) c ≡ true)
    → ((k : ℕ) (d : X) → count ≤ k → k < length behind → leb (f (get_or behind k d)) c ≡ false)
    → take count behind ≡ filter (λ x. eqb (f x) c) xs
run_is {X} f c xs behind from count is low within below least most above =
    in_front (λ x. eqb (f x) c) behind count within
    (λ k d h. eq-eqb (f (get_or behind k d)) c
    (omega (arith, leb-true (f (get_or behind k d)) c (most k d (omega arith) h), up k d (omega (arith, h, within)))))
    (λ k d g h. ne_eqb (f (get_or behind k d)) c (λ same. omega (arith, leb-false (f (get_or behind k d)) c (above k d g h), same)))
    ∙ (ap (filter (λ x. eqb (f x) c)) is
    ∙ skipped (λ x. eqb (f x) c) xs from (λ k d h. ne_eqb (f (get_or xs k d)) c (λ same. omega (arith, ltb-true (f (get_or xs k d)) c (below k d (omega arith) h), same))) low)
  where
    up : (k : ℕ) (d : X) → k < length behind → c ≤ f (get_or behind k d)
    up k d h = omega (arith, ap (λ (ys : List X). f (get_or ys k d)) is, ap f (get_or-drop from xs k d), ltb-false (f (get_or xs (from + k) d)) c (least (from + k) d (omega arith) (omega (arith, h, ap length is, length-drop from xs))))

-- the test after a function, and the function after the test
pub filter-map : {X Y : Type 0} (f : X → Y) (p : Y → Bool) (xs : List X) → map f (filter (λ x. p (f x)) xs) ≡ filter p (map f xs)
filter-map f p [] = refl
filter-map f p (x ∷ xs) = both (p (f x)) ∙ ap (λ ys. cond (p (f x)) (f x ∷ ys) ys) (filter-map f p xs)
  where
    both : (b : Bool) → map f (cond b (x ∷ filter (λ z. p (f z)) xs) (filter (λ z. p (f z)) xs)) ≡ cond b (f x ∷ map f (filter (λ z. p (f z)) xs)) (map f (filter (λ z. p (f z)) xs))
    both true = refl
    both false = refl

-- in a list that never falls a number that goes with the order never falls
module _ {X : Type 0} (cmp : X → X → Ordering) (f : X → ℕ) (low : (x y : X) → is_gt (cmp x y) ≡ false → f x ≤ f y) where
  head_low : (x : X) (xs : List X) → AllByRecursion (λ y. is_gt (cmp x y) ≡ false) xs → (j : ℕ) (d : X) → j < length xs → f x ≤ f (get_or xs j d)
  head_low x [] all j d h = absurd (omega (arith, h))
  head_low x (y ∷ xs) all zero d h = low x y all.0
  head_low x (y ∷ xs) all (suc j) d h = head_low x xs all.1 j d (omega (arith, h))

  step : (x : X) (xs : List X) → AllByRecursion (λ y. is_gt (cmp x y) ≡ false) xs → IsNonDecreasingBy f xs → (i j : ℕ) (d : X) → i ≤ j → j < length (x ∷ xs) → f (get_or (x ∷ xs) i d) ≤ f (get_or (x ∷ xs) j d)
  step x xs all rest zero zero d g h = omega arith
  step x xs all rest zero (suc j) d g h = head_low x xs all j d (omega (arith, h))
  step x xs all rest (suc i) zero d g h = absurd (omega (arith, g))
  step x xs all rest (suc i) (suc j) d g h = rest i j d (omega (arith, g)) (omega (arith, h))

  pub never_falls_by : (xs : List X) → NeverFalls cmp xs → IsNonDecreasingBy f xs
  never_falls_by [] up = λ i j d g h. absurd (omega (arith, h))
  never_falls_by (x ∷ xs) up = step x xs up.0 (never_falls_by xs up.1)
