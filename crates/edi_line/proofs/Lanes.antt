-- What vectors of bytes say of a text: where a byte stands first, and whether a head is in form.
use Rattle.std.proofs.Common.{◌≡◌, ◌≢◌, ℕ, suc, ◌+◌, ◌-◌, ◌*◌, ◌%◌, ◌^◌, ◌<◌, ◌≤◌, Bool, true, false, ◌&&◌, not, cond, eqb, leb, bit_or, List, [], ◌∷◌, length, slice_index, map, take, drop, get_or, Option, Some, None, Fits, w8, refl, sym, ap, ◌∙◌, subst, inl, inr, arith}
use Rattle.std.specs.List.{list_all, position, position_or_len, prefix_len}
use Rattle.std.proofs.lemmas.Bool.{lt-ltb, le-ltb, le-leb, leb-true, cases_lt, cases_eq, eq-eqb, ne_eqb, eqb-true, agree_below_at, and_parts}
use Rattle.std.proofs.Common.{pow_pos}
use Rattle.std.proofs.Math.Nat.{two-pow-succ}
use Rattle.std.proofs.lemmas.List.Folds.{list_all_at}
use Rattle.std.proofs.lemmas.List.{length-drop, get_or-drop, take_rest}
use Rattle.std.proofs.lemmas.List.Sums.{fails_before_first, passes_at_first, position_or_len_is, prefix_len-le-length}
use Rattle.std.proofs.lemmas.Simd.{length-chunk, mask_l-mod, trailing_mask_l, run_in_chunk_fails, run_in_chunk_stops, none_from_empty_mask}
use lib.Count.{count_trailing_zeros}
use lib.Lanes.{chunk, zip2, mask_l, top}
use Rattle.edi_line.specs.Spelling.{is_code_byte, is_printable}
use Rattle.edi_line.specs.inner.Spelling.{code_of, has_head, is_digit, is_space}
use Rattle.memchr.specs.Find.{IsFirstByte}
use Rattle.edi_line.proofs.FirstByte.{first_byte}
use Rattle.edi_line.proofs.Heads.{first_eight}
use Rattle.edi_line.proofs.Numbers.{position_at_Some, position_at_None}

-- ---- where a byte stands first

none_fails : (b : Bool) (n l m : ℕ) → n ≤ l → cond (not b) (1 + n) 0 ≡ 1 + l → (n ≡ l → m ≡ 0) → cond b 1 0 + 2 * m ≡ 0
none_fails true n l m le e ih = let no : ⊥ = omega arith in absurd no
none_fails false n l m le e ih = let z = ih (omega arith) in omega arith

-- where none passes in front of the end, no bit is set
pub none_set : (p : ℕ → Bool) (xs : List ℕ) → prefix_len (λ x. not (p x)) xs ≡ length xs → mask_l (map p xs) ≡ 0
none_set p [] e = refl
none_set p (x ∷ xs) e = none_fails (p x) _ (length xs) _ (prefix_len-le-length (λ y. not (p y)) xs) (omega arith) (none_set p xs)

-- a byte behind i that stands in front of the first that passes there fails
fails_behind : (p : ℕ → Bool) (xs : List ℕ) (i k : ℕ) → i ≤ k → k - i < position_or_len p (drop i xs) → p (get_or xs k 0) ≡ false
fails_behind p xs i k late below =
    subst (λ x. p x ≡ false) (get_or-drop i xs (k - i) 0 ∙ ap (λ j. get_or xs j 0) (omega arith)) (fails_before_first p (drop i xs) (k - i) 0 below)

-- the lowest lane that passes is the first byte that does, where no byte in front of the lanes does
pub found_in_lanes : (p : ℕ → Bool) (xs : List ℕ) (i n : ℕ) → i + n ≤ length xs → n ≤ 64 → mask_l (map p (chunk i n xs)) ≢ 0 → ((k : ℕ) → k < i → p (get_or xs k 0) ≡ false)
    → Some (i + count_trailing_zeros 64 (mask_l (map p (chunk i n xs)))) ≡ position p xs
found_in_lanes p xs i n room few some none =
    let lanes = chunk i n xs in
    let r = count_trailing_zeros 64 (mask_l (map p lanes)) in
    let long : length lanes ≡ n = length-chunk i n xs room in
    let counted : r ≡ prefix_len (λ x. not (p x)) lanes = trailing_mask_l p 64 lanes (omega arith) (omega (arith, some)) in
    let below : r < n = elim (cases_lt r n) [
      | inl l ↦ l
      | inr past ↦ absurd (some (none_set p lanes (omega (arith, prefix_len-le-length (λ x. not (p x)) lanes))))
    ] in
    let at : position_or_len p xs ≡ i + r = position_or_len_is p xs (i + r) 0 (omega arith)
    (λ k l. elim (cases_lt k i) [ inl early ↦ none k early | inr late ↦ run_in_chunk_fails p xs i n r 0 room counted k late l ])
    (λ l. run_in_chunk_stops p xs i n r 0 room counted below) in
    rw at (rw (lt-ltb (i + r) (length xs) (omega arith)) refl)

-- where no lane passes, no byte up to their end does
pub none_in_lanes : (p : ℕ → Bool) (xs : List ℕ) (i n : ℕ) → i + n ≤ length xs → mask_l (map p (chunk i n xs)) ≡ 0 → ((k : ℕ) → k < i → p (get_or xs k 0) ≡ false)
    → (k : ℕ) → k < i + n → p (get_or xs k 0) ≡ false
none_in_lanes p xs i n room empty none k below =
    elim (cases_lt k i) [ inl early ↦ none k early | inr late ↦ none_from_empty_mask p xs i n 0 room empty k late below ]

-- what a search behind i finds is found from the front, where no byte in front of i passes
pub found_behind : (p : ℕ → Bool) (xs : List ℕ) (i n : ℕ) → i ≤ length xs → ((k : ℕ) → k < i → p (get_or xs k 0) ≡ false) → position p (drop i xs) ≡ Some n → Some (i + n) ≡ position p xs
found_behind p xs i n within none e =
    let found = position_at_Some p (drop i xs) n e in
    let long = length-drop i xs in
    let passes : p (get_or xs (i + n) 0) ≡ true = subst (λ x. p x ≡ true) (ap (λ k. get_or (drop i xs) k 0) found.0 ∙ get_or-drop i xs n 0) (passes_at_first p (drop i xs) 0 (omega arith)) in
    let at : position_or_len p xs ≡ i + n = position_or_len_is p xs (i + n) 0 (omega arith)
    (λ k l. elim (cases_lt k i) [ inl early ↦ none k early | inr late ↦ fails_behind p xs i k late (omega arith) ])
    (λ l. passes) in
    rw at (rw (lt-ltb (i + n) (length xs) (omega arith)) refl)

pub none_behind_either : (p : ℕ → Bool) (xs : List ℕ) (i : ℕ) → i ≤ length xs → ((k : ℕ) → k < i → p (get_or xs k 0) ≡ false) → position p (drop i xs) ≡ None → None ≡ position p xs
none_behind_either p xs i within none e =
    let past = position_at_None p (drop i xs) e in
    let long = length-drop i xs in
    let at : position_or_len p xs ≡ length xs = position_or_len_is p xs (length xs) 0 (omega arith)
    (λ k l. elim (cases_lt k i) [ inl early ↦ none k early | inr late ↦ fails_behind p xs i k late (omega arith) ])
    (λ l. absurd (omega (arith, l))) in
    rw at (rw (le-ltb (length xs) (length xs) (omega arith)) refl)

-- ---- whether a head is in form

-- all bits of a mask are set exactly if all lanes are
all_set : (bs : List Bool) → eqb (mask_l bs) (2 ^ length bs - 1) ≡ list_all (λ b. b) bs
all_set [] = refl
all_set (true ∷ bs) = elim (cases_eq (mask_l bs) (2 ^ length bs - 1)) [
  | inl e ↦ eq-eqb _ _ (omega (arith, e, two-pow-succ (length bs), pow_pos (length bs))) ∙ sym (eq-eqb _ _ e) ∙ all_set bs
  | inr ne ↦ ne_eqb _ _ (λ (e : 1 + 2 * mask_l bs ≡ 2 ^ suc (length bs) - 1). ne (omega (arith, e, two-pow-succ (length bs), pow_pos (length bs)))) ∙ sym (ne_eqb _ _ ne) ∙ all_set bs
]
all_set (false ∷ bs) = ne_eqb _ _ (λ (e : 0 + 2 * mask_l bs ≡ 2 ^ suc (length bs) - 1). omega (arith, e, two-pow-succ (length bs), pow_pos (length bs)))

-- tests in the order of the bytes, and with the last in front
none_behind : (a b c d e f g : Bool) → (a && (b && (c && (d && (e && (f && (g && false))))))) ≡ false
none_behind false b c d e f g = refl
none_behind true false c d e f g = refl
none_behind true true false d e f g = refl
none_behind true true true false e f g = refl
none_behind true true true true false f g = refl
none_behind true true true true true false g = refl
none_behind true true true true true true false = refl
none_behind true true true true true true true = refl

last_in_front : (a b c d e f g h : Bool) → (a && (b && (c && (d && (e && (f && (g && (h && true)))))))) ≡ (h && ((a && (b && (c && true))) && (d && (e && (f && g)))))
last_in_front a b c d e f g false = none_behind a b c d e f g
last_in_front false b c d e f g true = refl
last_in_front true false c d e f g true = refl
last_in_front true true false d e f g true = refl
last_in_front true true true d e f false true = refl
last_in_front true true true d e f true true = refl

-- a byte in one of two ranges, each by its first byte and how many follow
abbrev pub in_ranges : ℕ → ℕ → ℕ → ℕ → ℕ → Bool
in_ranges from count other_from other_count x = top 7 (bit_or (cond (leb ((x + (256 - from)) % 256) count) 255 0) (cond (leb ((x + (256 - other_from)) % 256) other_count) 255 0))

code_lane : (x : ℕ) → x < 256 → in_ranges 48 9 65 25 x ≡ is_code_byte x
code_lane x fits = agree_below_at (in_ranges 48 9 65 25) is_code_byte 256 x refl fits

printable_lane : (x : ℕ) → x < 256 → in_ranges 32 94 32 94 x ≡ is_printable x
printable_lane x fits = agree_below_at (in_ranges 32 94 32 94) is_printable 256 x refl fits

digit_lane : (x : ℕ) → x < 256 → in_ranges 48 9 48 9 x ≡ is_digit x
digit_lane x fits = agree_below_at (in_ranges 48 9 48 9) is_digit 256 x refl fits

colon_lane : (x : ℕ) → x < 256 → in_ranges 58 0 58 0 x ≡ eqb x 58
colon_lane x fits = agree_below_at (in_ranges 58 0 58 0) (λ c. eqb c 58) 256 x refl fits

-- eight lanes, each in its ranges
abbrev pub ranged : List ℕ → List ℕ
ranged v = zip2 bit_or
    (zip2 (λ a b. cond (leb a b) 255 0) (zip2 (λ a b. (a + (256 - b)) % 256) v (48 ∷ 48 ∷ 48 ∷ 32 ∷ 32 ∷ 48 ∷ 48 ∷ 58 ∷ [])) (9 ∷ 9 ∷ 9 ∷ 94 ∷ 94 ∷ 9 ∷ 9 ∷ 0 ∷ []))
    (zip2 (λ a b. cond (leb a b) 255 0) (zip2 (λ a b. (a + (256 - b)) % 256) v (65 ∷ 65 ∷ 65 ∷ 32 ∷ 32 ∷ 48 ∷ 48 ∷ 58 ∷ [])) (25 ∷ 25 ∷ 25 ∷ 94 ∷ 94 ∷ 9 ∷ 9 ∷ 0 ∷ []))

-- the test of eight bytes at once is that of a head
pub head_by_lanes : (xs : List ℕ) → 8 ≤ length xs → ((k : ℕ) → Fits w8 (get_or xs k 0)) → eqb (mask_l (map (top 7) (ranged (chunk 0 8 xs))) % 2 ^ 64) 255 ≡ has_head xs
unfolding has_head
head_by_lanes xs long fits =
    let at = λ (k : ℕ). get_or xs k 0 in
    let lane = λ (k : ℕ). (fits k).fits in
    ap (λ v. eqb (mask_l (map (top 7) (ranged v)) % 2 ^ 64) 255) (first_eight xs long)
    ∙ ap (λ m. eqb m 255) (mask_l-mod (map (top 7) (ranged (at 0 ∷ at 1 ∷ at 2 ∷ at 3 ∷ at 4 ∷ at 5 ∷ at 6 ∷ at 7 ∷ []))) 64 (omega arith))
    ∙ all_set (in_ranges 48 9 65 25 (at 0) ∷ in_ranges 48 9 65 25 (at 1) ∷ in_ranges 48 9 65 25 (at 2) ∷ in_ranges 32 94 32 94 (at 3) ∷ in_ranges 32 94 32 94 (at 4)
    ∷ in_ranges 48 9 48 9 (at 5) ∷ in_ranges 48 9 48 9 (at 6) ∷ in_ranges 58 0 58 0 (at 7) ∷ [])
    ∙ rw (code_lane (at 0) (lane 0), code_lane (at 1) (lane 1), code_lane (at 2) (lane 2), printable_lane (at 3) (lane 3), printable_lane (at 4) (lane 4), digit_lane (at 5) (lane 5), digit_lane (at 6) (lane 6), colon_lane (at 7) (lane 7))
    (rw (le-leb 8 (length xs) long) (last_in_front (is_code_byte (at 0)) (is_code_byte (at 1)) (is_code_byte (at 2)) (is_printable (at 3)) (is_printable (at 4)) (is_digit (at 5)) (is_digit (at 6)) (eqb (at 7) 58)))

-- a head is no blank line
pub head_is_no_blank : (xs : List ℕ) → has_head xs ≡ true → list_all is_space xs ≡ false
unfolding has_head
head_is_no_blank xs e =
    let a = and_parts _ _ e in
    let b = and_parts _ _ a.1 in
    list_all_at is_space xs 7 0 (leb-true 8 _ a.0) (ap (λ c. eqb c 32) (eqb-true _ 58 b.0))

-- what `memchr` finds behind i
pub left_found : (xs : List ℕ) (i : ℕ) (r : Option ℕ) → IsFirstByte (λ b. eqb b 10) (take (length xs - i) (drop i xs)) r → r ≡ position (λ b. eqb b 10) (drop i xs)
left_found xs i r h = first_byte (λ b. eqb b 10) (take (length xs - i) (drop i xs)) r h ∙ ap (position (λ b. eqb b 10)) (take_rest xs i)

-- the two bytes before the last of a head are digits
head_digits : (xs : List ℕ) → has_head xs ≡ true → (is_digit (slice_index xs 5) ≡ true) × (is_digit (slice_index xs 6) ≡ true)
unfolding has_head
head_digits xs e =
    let at : ℕ → ℕ = slice_index xs in
    let digits : Bool = is_digit (at 5) && is_digit (at 6) in
    let format : Bool = is_printable (at 4) && digits in
    let nature : Bool = is_printable (at 3) && format in
    let code : Bool = list_all is_code_byte (code_of xs) && nature in
    let long = and_parts (leb 8 (length xs)) (eqb (at 7) 58 && code) e in
    let colon = and_parts (eqb (at 7) 58) code long.1 in
    let bytes = and_parts (list_all is_code_byte (code_of xs)) nature colon.1 in
    let printed = and_parts (is_printable (at 3)) format bytes.1 in
    and_parts (is_digit (at 5)) (is_digit (at 6)) (and_parts (is_printable (at 4)) digits printed.1).1

pub head_has_tens : (xs : List ℕ) → has_head xs ≡ true → is_digit (slice_index xs 5) ≡ true
head_has_tens xs e = (head_digits xs e).0

pub head_has_ones : (xs : List ℕ) → has_head xs ≡ true → is_digit (slice_index xs 6) ≡ true
head_has_ones xs e = (head_digits xs e).1
