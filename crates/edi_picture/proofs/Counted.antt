-- Ends that are counted by twos.
use Rattle.std.proofs.Common.{◌≡◌, ◌↔◌, ℕ, ◌<◌, ◌≤◌, ◌^◌, w64, to_z, of_z, ◌+◌, ◌%◌, ◌==◌, ◌&&◌, ◌||◌, Bool, true, false, not, cond, List, [], ◌∷◌, ◌++◌, length, take, refl, sym, ap, ◌∙◌, subst, arith, IsTrue, None, eqb-true, eq-eqb, ℤ, pos, negsuc}
use Rattle.std.proofs.lemmas.Bool.{eqb-false, false_from_ne_true, and_parts, and_from, not-true, and_right}
use Rattle.std.proofs.lemmas.Int.{fits_signed_from_abs, ints, to_z-of_z}
use Rattle.edi_line.specs.Number.{size_of}
use Rattle.std.proofs.lemmas.List.{take_all}
use Rattle.std.proofs.lemmas.List.Sums.{sum_by-append}
use Rattle.std.specs.List.{count_by, list_all, list_any}
use Rattle.std.specs.Cmp.{int_ranks, tied_then}
use Rattle.std.specs.Prelude.{◌-ℤ◌, unsigned_abs}
use Rattle.std.specs.Int.Signed.{◌<ℤ◌}
use Rattle.std.specs.Ordering.{MatchOrdering, int_cmp, is_eq}
use Rattle.std.specs.BTreeMap.{is_at}
use Rattle.std.specs.BTreeSet.{BTreeSet, btree_set_len, contains}
use Rattle.std.specs.declared.cmp.Ordering.{Ordering}
use Rattle.std.specs.declared.cmp.Ordering.TheVariants.{Less, Equal, Greater}
use Rattle.edi_line.proofs.Truths.{not-not}
use Rattle.edi_record.specs.declared.record.Point.{Point}
use Rattle.edi_picture.specs.Faces.{form_rings, same_spot}
use Rattle.edi_picture.specs.Frames.{distance}
use Rattle.edi_picture.specs.inner.Odd.{HasOdd, is_odd, spot_cmp}

-- ---- places

zero_gap : (z : ℤ) → unsigned_abs z ≡ 0 → z ≡ pos 0
zero_gap (pos n) e = ap pos e
zero_gap (negsuc n) e = absurd (omega (arith, e))

no_gap : (a b : ℤ) → distance b a ≡ 0 → b ≡ a
no_gap a b e = let none = zero_gap (b -ℤ a) e in omega (arith, ints)

itself_near : (a b : ℤ) → a ≡ b → distance b a ≡ 0
itself_near a b e = let none : b -ℤ a ≡ pos 0 = omega (arith, ints) in ap unsigned_abs none

below_self : (a b : ℤ) → a <ℤ b → b ≡ a → ⊥
below_self a b less same = omega (arith, ints)

gap : (a b : ℤ) → (distance b a == 0) ≡ is_eq (int_cmp a b)
gap a b = go (int_cmp a b) (int_ranks a b)
  where
    go : (o : Ordering) → MatchOrdering o (a <ℤ b) (a ≡ b) (b <ℤ a) → (distance b a == 0) ≡ is_eq o
    go Less less = false_from_ne_true (distance b a == 0) (λ t. below_self a b less (no_gap a b (eqb-true (distance b a) 0 t)))
    go Equal same = eq-eqb (distance b a) 0 (itself_near a b same)
    go Greater more = false_from_ne_true (distance b a == 0) (λ t. below_self b a more (sym (no_gap a b (eqb-true (distance b a) 0 t))))

-- two places are one in the order exactly if they are one spot
at_same : (e q : Point) → is_at (spot_cmp (e.x, e.y)) (q.x, q.y) ≡ same_spot q e
at_same e q =
    sym (tied_then (int_cmp e.x q.x) (int_cmp e.y q.y))
    ∙ (ap (λ b. b && is_eq (int_cmp e.y q.y)) (sym (gap e.x q.x)) ∙ ap (λ b. (distance q.x e.x == 0) && b) (sym (gap e.y q.y)))

same_said : (q e : Point) → same_spot q e ≡ true → (q.x ≡ e.x) × (q.y ≡ e.y)
same_said q e t =
    let parts = and_parts (distance q.x e.x == 0) (distance q.y e.y == 0) t in
    (no_gap e.x q.x (eqb-true (distance q.x e.x) 0 parts.0), no_gap e.y q.y (eqb-true (distance q.y e.y) 0 parts.1))

same_self : (q : Point) → same_spot q q ≡ true
same_self q =
    and_from (distance q.x q.x == 0) (distance q.y q.y == 0) (eq-eqb (distance q.x q.x) 0 (itself_near q.x q.x refl)) (eq-eqb (distance q.y q.y) 0 (itself_near q.y q.y refl))

-- ---- counts

count_same : (q e : Point) → (q.x ≡ e.x) × (q.y ≡ e.y) → (xs : List Point) → count_by (same_spot q) xs ≡ count_by (same_spot e) xs
count_same q e same xs =
    ap (λ (x : ℤ). count_by (λ (r : Point). (distance x r.x == 0) && (distance q.y r.y == 0)) xs) same.0
    ∙ ap (λ (y : ℤ). count_by (λ (r : Point). (distance e.x r.x == 0) && (distance y r.y == 0)) xs) same.1

count_more : (p : Point → Bool) (xs : List Point) (e : Point) → count_by p (xs ++ e ∷ []) ≡ count_by p xs + cond (p e) 1 0
count_more p xs e = let split = sum_by-append (λ (x : Point). cond (p x) 1 0) xs (e ∷ []) in omega (arith, split)

odd_next : (n : ℕ) → is_odd (n + 1) ≡ not (is_odd n)
odd_next n = go (n % 2 == 0) refl ((n + 1) % 2 == 0) refl
  where
    go : (b : Bool) → (n % 2 == 0) ≡ b → (d : Bool) → ((n + 1) % 2 == 0) ≡ d → not ((n + 1) % 2 == 0) ≡ not (not (n % 2 == 0))
    go true e true f = let one = eqb-true (n % 2) 0 e in let two = eqb-true ((n + 1) % 2) 0 f in absurd (omega (arith, one, two))
    go true e false f = rw (e, f) refl
    go false e true f = rw (e, f) refl
    go false e false f = absurd (neither e f)
      where
        neither : (n % 2 == 0) ≡ false → ((n + 1) % 2 == 0) ≡ false → ⊥
        neither e f = let one = eqb-false (n % 2) 0 e in let two = eqb-false ((n + 1) % 2) 0 f in omega (arith, one, two)

-- ---- one end more

small : (z : ℤ) → size_of z ≤ 999999999999999 → unsigned_abs z < 2 ^ 63
small (pos n) h = omega (arith, h)
small (negsuc n) h = omega (arith, h)

pub near : (z m : ℤ) → z ≡ m → size_of m ≤ 999999999999999 → to_z w64 (of_z w64 z) ≡ m
near z m e h = to_z-of_z w64 z (fits_signed_from_abs w64 z (subst (λ k. unsigned_abs k < 2 ^ 63) (sym e) (small m h))) ∙ e

pub turned : (old new : BTreeSet (ℤ × ℤ)) (e : Point) (b : Bool) → contains spot_cmp old (e.x, e.y) ≡ not b
    → ((k : ℤ × ℤ) → contains spot_cmp new k ≡ cond (is_at (spot_cmp (e.x, e.y)) k) b (contains spot_cmp old k))
    → (ends : List Point) → HasOdd old ends → HasOdd new (ends ++ e ∷ [])
turned old new e b was is ends h q =
    is (q.x, q.y) ∙ (ap (λ t. cond t b (contains spot_cmp old (q.x, q.y))) (at_same e q) ∙ (go (same_spot q e) refl ∙ sym (ap is_odd (count_more (same_spot q) ends e))))
  where
    go : (t : Bool) → same_spot q e ≡ t → cond t b (contains spot_cmp old (q.x, q.y)) ≡ is_odd (count_by (same_spot q) ends + cond t 1 0)
    go true same =
        sym (odd_next (count_by (same_spot q) ends) ∙ (ap (λ n. not (is_odd n)) (count_same q e (same_said q e same) ends) ∙ (ap not (sym (h e) ∙ was) ∙ not-not b)))
    go false other = let none : count_by (same_spot q) ends + 0 ≡ count_by (same_spot q) ends = omega arith in h q ∙ sym (ap is_odd none)

abbrev two : ℤ → ℤ → ℤ × ℤ
two x y = (x, y)

pair_is : (a b x y : ℤ) → x ≡ a → y ≡ b → two x y ≡ two a b
pair_is a b x y ex ey = ap (λ (z : ℤ). two z y) ex ∙ ap (λ (z : ℤ). two a z) ey

-- the same, at what is the place of the end
pub turned_at : (old new : BTreeSet (ℤ × ℤ)) (e : Point) (x y : ℤ) → x ≡ e.x → y ≡ e.y → (b : Bool) → contains spot_cmp old (x, y) ≡ not b
    → ((k : ℤ × ℤ) → contains spot_cmp new k ≡ cond (is_at (spot_cmp (x, y)) k) b (contains spot_cmp old k))
    → (ends : List Point) → HasOdd old ends → HasOdd new (ends ++ e ∷ [])
turned_at old new e x y ex ey b was is =
    turned old new e b (ap (contains spot_cmp old) (sym (pair_is e.x e.y x y ex ey)) ∙ was)
    (λ k. is k ∙ ap (λ (t : ℤ × ℤ). cond (is_at (spot_cmp t) k) b (contains spot_cmp old k)) (pair_is e.x e.y x y ex ey))

-- what has the same keys has the same places
pub unchanged_place : (old new : BTreeSet (ℤ × ℤ)) (x y : ℤ) → new.keys ≡ old.keys → contains spot_cmp old (x, y) ≡ contains spot_cmp new (x, y)
unchanged_place old new x y same = ap (list_any (is_at (spot_cmp (x, y)))) (sym same)

pub none_odd : (odd : BTreeSet (ℤ × ℤ)) → odd.keys ≡ [] → HasOdd odd []
none_odd odd none q = ap (list_any (is_at (spot_cmp (q.x, q.y)))) none

-- ---- all ends

every : (p : Point → Bool) → ((q : Point) → p q ≡ true) → (xs : List Point) → list_all p xs ≡ true
every p h [] = refl
every p h (x ∷ xs) = and_from (p x) (list_all p xs) (h x) (every p h xs)

from_not : (b : Bool) → false ≡ not b → b ≡ true
from_not true e = refl
from_not false e = absurd cc

count_first : (f : Point → Bool) (x : Point) (xs : List Point) → count_by f (x ∷ xs) ≡ cond (f x) 1 0 + count_by f xs
count_first f x xs = let split = sum_by-append (λ (y : Point). cond (f y) 1 0) (x ∷ []) xs in omega (arith, split)

nothing_more : (n : ℕ) → 0 + n ≡ n
nothing_more n = omega arith

not_all : (p f : Point → Bool) → ((e : Point) → f e ≡ true → p e ≡ false) → (xs : List Point) → (count_by f xs ≡ 0 → ⊥) → list_all p xs ≡ false
not_all p f h [] some = absurd (some refl)
not_all p f h (x ∷ xs) some = go (f x) refl (not_all p f h xs)
  where
    go : (b : Bool) → f x ≡ b → ((count_by f xs ≡ 0 → ⊥) → list_all p xs ≡ false) → list_all p (x ∷ xs) ≡ false
    go true e later = ap (λ t. t && list_all p xs) (h x e)
    go false e later = and_right (p x) (list_all p xs) (later (λ none. some (count_first f x xs ∙ (ap (λ t. cond t 1 0 + count_by f xs) e ∙ (nothing_more (count_by f xs) ∙ none)))))

pub closed : (odd : BTreeSet (ℤ × ℤ)) (ends : List Point) (b : Bool) → IsTrue b ↔ (btree_set_len odd ≡ 0) → HasOdd odd ends → b ≡ form_rings ends
closed odd ends b is h = go odd.keys refl
  where
    go : (ks : List (ℤ × ℤ)) → odd.keys ≡ ks → b ≡ form_rings ends
    go [] none =
        is.1 (ap length none)
        ∙ sym (every (λ q. count_by (same_spot q) ends % 2 == 0)
        (λ q. from_not (count_by (same_spot q) ends % 2 == 0) (sym (ap (list_any (is_at (spot_cmp (q.x, q.y)))) none) ∙ h q)) ends)
    go (k ∷ ks) some =
        false_from_ne_true b (λ t. let long = is.0 t in let other = ap length some in omega (arith, long, other))
        ∙ sym (not_all (λ q. count_by (same_spot q) ends % 2 == 0) (same_spot at)
        (λ e t. not-true (count_by (same_spot e) ends % 2 == 0) (ap is_odd (sym (count_same at e (same_said at e t) ends)) ∙ is_there)) ends
        (λ none. let e = sym (ap is_odd none) ∙ is_there in cc))
      where
        at : Point
        at = record { x = k.0; y = k.1; z = None }

        is_there : is_odd (count_by (same_spot at) ends) ≡ true
        is_there = sym (h at) ∙ (ap (list_any (is_at (spot_cmp k))) some ∙ ap (λ t. t || list_any (is_at (spot_cmp k)) ks) (at_same at at ∙ same_self at))

-- all of them are taken
pub all_ends : (odd : BTreeSet (ℤ × ℤ)) (n : ℕ) (ends : List Point) → length ends ≤ n → HasOdd odd (take n ends) → HasOdd odd ends
all_ends odd n ends long h = subst (HasOdd odd) (take_all n ends long) h
