-- Whether texts are equal at the front, by vectors of their bytes.
use Rattle.std.proofs.Common.{◌≡◌, ◌≢◌, ℕ, zero, suc, ◌+◌, ◌-◌, ◌<◌, ◌≤◌, Bool, true, false, ◌&&◌, not, cond, eqb, leb, nat_eq, List, [], ◌∷◌, ◌++◌, length, map, take, drop, refl, sym, ap, ap₂, ◌∙◌, inl, inr, arith}
use Rattle.std.specs.List.{prefix_len}
use Rattle.std.specs.Cmp.Lexicographic.{pointwise, unequal, same_text}
use Rattle.std.proofs.lemmas.Bool.{le-leb, lt-leb, leb-true, eq-eqb, cases_eq}
use Rattle.std.proofs.lemmas.List.{take-take, take-append-drop, drop-take, length-take-le, take_rest}
use Rattle.std.proofs.lemmas.Simd.{trailing_mask_l, leading_from_mask_l, length-zip2}
use lib.Dec.{leb-suc-suc}
use lib.Count.{count_trailing_zeros, trailing_of_zero}
use lib.Lanes.{chunk, zip2, mask_l}

-- the lanes that differ
abbrev differing : List ℕ → List ℕ → List Bool
differing xs ys = zip2 (λ x y. not (eqb x y)) xs ys

same_map : (ds : List Bool) → map (λ d. d) ds ≡ ds
same_map [] = refl
same_map (d ∷ ds) = ap (λ l. d ∷ l) (same_map ds)

one_more : (same : Bool) (k n : ℕ) (rest : Bool) → leb k n ≡ rest → leb (suc k) (cond (not (not same)) (1 + n) 0) ≡ (same && rest)
one_more true k n rest e =
    let next : 1 + n ≡ suc n = omega arith in
    ap (leb (suc k)) next ∙ leb-suc-suc k n ∙ e
one_more false k n rest e = lt-leb (suc k) 0 (omega arith)

-- as many are equal as stand in front of the first that differ
fronts : (k : ℕ) (xs ys : List ℕ) → k ≤ length xs → length xs ≡ length ys → leb k (prefix_len (λ d. not d) (differing xs ys)) ≡ pointwise nat_eq (take k xs) (take k ys)
fronts zero xs ys within as_long = le-leb 0 (prefix_len (λ d. not d) (differing xs ys)) (omega arith)
fronts (suc k) [] ys within as_long = absurd (omega arith)
fronts (suc k) (x ∷ xs) [] within as_long = absurd (omega arith)
fronts (suc k) (x ∷ xs) (y ∷ ys) within as_long = one_more (eqb x y) k _ _ (fronts k xs ys (omega arith) (omega arith))

-- what is counted of the bits for lanes that differ
pub lanes_equal : (xs ys : List ℕ) (k : ℕ) → length xs ≡ 8 → length ys ≡ 8 → k ≤ 8 → leb k (count_trailing_zeros 64 (mask_l (differing xs ys))) ≡ pointwise nat_eq (take k xs) (take k ys)
lanes_equal xs ys k long as_long few =
    let ds = differing xs ys in
    let all = fronts k xs ys (omega arith) (omega arith) in
    let lanes : length ds ≡ 8 = length-zip2 (λ x y. not (eqb x y)) xs ys (omega arith) ∙ long in
    elim (cases_eq (mask_l ds) 0) [
      | inl none ↦
          let past = leading_from_mask_l (λ (d : Bool). d) ds (ap mask_l (same_map ds) ∙ none) in
          ap (λ m. leb k (count_trailing_zeros 64 m)) none ∙ ap (leb k) (trailing_of_zero 64) ∙ le-leb k 64 (omega arith)
          ∙ sym (le-leb k (prefix_len (λ d. not d) ds) (omega arith)) ∙ all
      | inr some ↦
          let masked = ap mask_l (same_map ds) in
          let counted = trailing_mask_l (λ (d : Bool). d) 64 ds (omega arith) (omega (arith, some)) in
          ap (leb k) (ap (count_trailing_zeros 64) (sym masked) ∙ counted) ∙ all
    ]

pointwise_self : (xs : List ℕ) → pointwise nat_eq xs xs ≡ true
pointwise_self [] = refl
pointwise_self (x ∷ xs) = rw (eq-eqb x x refl) (pointwise_self xs)

-- behind equal elements the others decide
pointwise_behind : (xs more others : List ℕ) → pointwise nat_eq (xs ++ more) (xs ++ others) ≡ pointwise nat_eq more others
pointwise_behind [] more others = refl
pointwise_behind (x ∷ xs) more others = rw (eq-eqb x x refl) (pointwise_behind xs more others)

not_true : (x : Bool) → (x ≡ true → ⊥) → false ≡ x
not_true true never = absurd (never refl)
not_true false never = refl

-- so many of the first eight bytes are equal from the front on
abbrev pub CountsEqual : List ℕ → List ℕ → ℕ → Type 0
CountsEqual a b n = (k : ℕ) → k ≤ 8 → leb k n ≡ pointwise nat_eq (take k (chunk 0 8 a)) (take k (chunk 0 8 b))

-- few bytes are among the first eight
pub short_front : (len : ℕ) (a b : List ℕ) (heads : ℕ) → len ≤ 8 → CountsEqual a b heads → leb len heads ≡ pointwise nat_eq (take len a) (take len b)
short_front len a b heads few counted = counted len few ∙ ap₂ (pointwise nat_eq) (take-take len 8 a few) (take-take len 8 b few)

all_eight : (a b : List ℕ) (heads : ℕ) → CountsEqual a b heads → leb 8 heads ≡ pointwise nat_eq (take 8 a) (take 8 b)
all_eight a b heads counted = short_front 8 a b heads (omega arith) counted

-- where the first eight differ, more do
pub other_front : (len : ℕ) (a b : List ℕ) (heads : ℕ) → 8 < len → heads < 8 → CountsEqual a b heads → false ≡ pointwise nat_eq (take len a) (take len b)
other_front len a b heads more differ counted = not_true _ (λ same.
    let equal : take len a ≡ take len b = same_text (take len a) (take len b) (sym same) in
    let eight : take 8 a ≡ take 8 b = sym (take-take 8 len a (omega arith)) ∙ ap (take 8) equal ∙ take-take 8 len b (omega arith) in
    let all : leb 8 heads ≡ true = all_eight a b heads counted ∙ ap (pointwise nat_eq (take 8 a)) (sym eight) ∙ pointwise_self (take 8 a) in
    let enough : 8 ≤ heads = leb-true 8 heads all in
    omega (arith, enough, differ))

-- texts of two lengths aren't equal
pub other_length : (n m : ℕ) (a b : List ℕ) → n ≢ m → n ≤ length a → m ≤ length b → false ≡ pointwise nat_eq (take n a) (take m b)
other_length n m a b differ within others = sym (unequal nat_eq (take n a) (take m b) (λ e. differ (sym (length-take-le n a within) ∙ e ∙ length-take-le m b others)))

cut_at : (n len : ℕ) (xs : List ℕ) → n ≤ len → take len xs ≡ take n xs ++ take (len - n) (drop n xs)
cut_at n len xs within =
    let whole : len ≡ n + (len - n) = omega arith in
    sym (take-append-drop n (take len xs)) ∙ ap₂ (λ front behind. front ++ behind) (take-take n len xs within) (ap (λ l. drop n (take l xs)) whole ∙ drop-take n (len - n) xs)

last_bytes : (n : ℕ) (xs : List ℕ) → n ≤ 8 → take n (chunk 0 8 (chunk 6 8 xs)) ≡ take n (drop 6 xs)
last_bytes n xs few = take-take n 8 (chunk 6 8 xs) few ∙ take-take n 8 (drop 6 xs) few

-- where the first eight are equal, the last decide
pub long_front : (len : ℕ) (a b : List ℕ) (heads tails : ℕ) → 8 < len → len ≤ 14 → 8 ≤ heads → CountsEqual a b heads → CountsEqual (chunk 6 8 a) (chunk 6 8 b) tails
    → leb (len - 6) tails ≡ pointwise nat_eq (take len a) (take len b)
long_front len a b heads tails more most enough counted behind =
    let eight : take 8 a ≡ take 8 b = same_text (take 8 a) (take 8 b) (sym (le-leb 8 heads enough) ∙ all_eight a b heads counted) in
    let six : take 6 b ≡ take 6 a = sym (take-take 6 8 b (omega arith)) ∙ ap (take 6) (sym eight) ∙ take-take 6 8 a (omega arith) in
    let left : ℕ = len - 6 in
    let few : left ≤ 8 = omega arith in
    let parts : pointwise nat_eq (take len a) (take len b) ≡ pointwise nat_eq (take left (drop 6 a)) (take left (drop 6 b))
    = ap₂ (pointwise nat_eq) (cut_at 6 len a (omega arith)) (cut_at 6 len b (omega arith) ∙ ap (λ front. front ++ take left (drop 6 b)) six)
    ∙ pointwise_behind (take 6 a) (take left (drop 6 a)) (take left (drop 6 b)) in
    let last : leb left tails ≡ pointwise nat_eq (take left (drop 6 a)) (take left (drop 6 b))
    = behind left few ∙ ap₂ (pointwise nat_eq) (last_bytes left a few) (last_bytes left b few) in
    last ∙ sym parts

-- where both ends of two texts meet and the first bytes are equal, the last ones decide
pub ends_decide : (n : ℕ) (xs ys : List ℕ) → length ys ≡ length xs → n ≤ length xs → length xs ≤ n + n → pointwise nat_eq (take n xs) (take n ys) ≡ true
    → pointwise nat_eq (take n (drop (length xs - n) xs)) (take n (drop (length xs - n) ys)) ≡ pointwise nat_eq xs ys
ends_decide n xs ys as_long enough all same =
    let k : ℕ = length xs - n in
    let few : k ≤ n = omega (arith, enough, all) in
    let front : take n xs ≡ take n ys = same_text (take n xs) (take n ys) (sym same) in
    let first : take k ys ≡ take k xs = sym (take-take k n ys few) ∙ ap (take k) (sym front) ∙ take-take k n xs few in
    let last : take n (drop k xs) ≡ drop k xs = ap (λ m. take m (drop k xs)) (omega (arith, enough)) ∙ take_rest xs k in
    let other : take n (drop k ys) ≡ drop k ys = ap (λ m. take m (drop k ys)) (omega (arith, enough, as_long)) ∙ take_rest ys k in
    let parts : pointwise nat_eq xs ys ≡ pointwise nat_eq (drop k xs) (drop k ys)
    = ap₂ (pointwise nat_eq) (sym (take-append-drop k xs)) (sym (take-append-drop k ys) ∙ ap (λ f. f ++ drop k ys) first)
    ∙ pointwise_behind (take k xs) (drop k xs) (drop k ys) in
    ap₂ (pointwise nat_eq) last other ∙ sym parts
