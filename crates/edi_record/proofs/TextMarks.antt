-- The semicolons of a text as a number with a bit for each place.
use Rattle.std.proofs.Common.{◌≡◌, ◌≢◌, ℕ, suc, ◌+◌, ◌-◌, ◌*◌, ◌/◌, ◌%◌, ◌^◌, ◌<◌, ◌≤◌, Bool, not, List, [], ◌∷◌, ◌++◌, length, map, take, drop, Some, None, refl, sym, ap, ◌∙◌, subst, inl, inr, arith, pow_mono, Fits, w64}
use Rattle.std.specs.List.{position, position_or_len}
use Rattle.std.proofs.lemmas.Bool.{cases_lt, lt-ltb, le-ltb}
use Rattle.std.proofs.lemmas.List.{length-map, length-take-le, length-drop, take_all, take-append-drop, take-map, drop-map, drop-drop}
use Rattle.std.proofs.lemmas.List.Sums.{prefix_len-le-length}
use Rattle.std.proofs.lemmas.Nat.{shr_high}
use Rattle.std.proofs.lemmas.Simd.{mask_l-lt, trailing_mask_l, leading_from_mask_l, length-chunk}
use Rattle.std.proofs.Math.Nat.{mul-add, two-pow-succ}
use lib.Count.{count_trailing_zeros}
use lib.Lanes.{chunk, mask_l}
use Rattle.edi_line.proofs.Lanes.{none_set}
use Rattle.edi_record.specs.Texts.{is_semicolon}
use Rattle.edi_record.specs.inner.Texts.{semicolon_marks}

mask_append : (xs ys : List Bool) → mask_l (xs ++ ys) ≡ mask_l ys * 2 ^ length xs + mask_l xs
mask_append [] ys = omega arith
mask_append (x ∷ xs) ys =
    let twice : mask_l ys * 2 ^ suc (length xs) ≡ mask_l ys * 2 ^ length xs + mask_l ys * 2 ^ length xs = ap (λ q. mask_l ys * q) (two-pow-succ (length xs)) ∙ mul-add (mask_l ys) (2 ^ length xs) (2 ^ length xs) in
    omega (arith, mask_append xs ys, twice)

-- the bits behind n are those of the elements behind n
mask_behind : (bs : List Bool) (n : ℕ) → n ≤ length bs → mask_l bs / 2 ^ n ≡ mask_l (drop n bs)
mask_behind bs n within =
    let front : length (take n bs) ≡ n = length-take-le n bs within in
    let small : mask_l (take n bs) < 2 ^ n = subst (λ k. mask_l (take n bs) < 2 ^ k) front (mask_l-lt (take n bs)) in
    ap (λ xs. mask_l xs / 2 ^ n) (sym (take-append-drop n bs))
    ∙ ap (λ m. m / 2 ^ n) (mask_append (take n bs) (drop n bs) ∙ ap (λ k. mask_l (drop n bs) * 2 ^ k + mask_l (take n bs)) front)
    ∙ shr_high (mask_l (drop n bs)) n (mask_l (take n bs)) small

-- the semicolons of what follows a place
pub marks_behind : (text : List ℕ) (n : ℕ) → n ≤ length text → semicolon_marks text / 2 ^ n ≡ semicolon_marks (drop n text)
marks_behind text n within = mask_behind (map is_semicolon text) n (omega (arith, length-map text is_semicolon)) ∙ ap mask_l (drop-map is_semicolon n text)

-- those of the first n bytes, and then those of the others
marks_split : (text : List ℕ) (n : ℕ) → n ≤ length text → semicolon_marks text ≡ semicolon_marks (drop n text) * 2 ^ n + semicolon_marks (take n text)
marks_split text n within =
    let bs = map is_semicolon text in
    let front : length (take n bs) ≡ n = length-take-le n bs (omega (arith, length-map text is_semicolon)) in
    ap mask_l (sym (take-append-drop n bs)) ∙ mask_append (take n bs) (drop n bs)
    ∙ ap (λ k. mask_l (drop n bs) * 2 ^ k + mask_l (take n bs)) front
    ∙ ap (λ xs. mask_l xs * 2 ^ n + mask_l (take n bs)) (drop-map is_semicolon n text)
    ∙ ap (λ xs. semicolon_marks (drop n text) * 2 ^ n + mask_l xs) (take-map is_semicolon n text)

marks-lt : (text : List ℕ) → semicolon_marks text < 2 ^ length text
marks-lt text = subst (λ k. semicolon_marks text < 2 ^ k) (length-map text is_semicolon) (mask_l-lt (map is_semicolon text))

-- the last sixteen bytes, but for those of them that are among the first sixteen
last_others : (text : List ℕ) → 16 ≤ length text → length text ≤ 32 → drop (32 - length text) (chunk (length text - 16) 16 text) ≡ drop 16 text
last_others text long short =
    let whole : chunk (length text - 16) 16 text ≡ drop (length text - 16) text = take_all 16 (drop (length text - 16) text) (omega (arith, length-drop (length text - 16) text)) in
    let behind : (length text - 16) + (32 - length text) ≡ 16 = omega arith in
    ap (drop (32 - length text)) whole ∙ drop-drop (32 - length text) (length text - 16) text ∙ ap (λ n. drop n text) behind

-- what two vectors show of a text that they cover
pub marks_joined : (text : List ℕ) → 16 ≤ length text → length text ≤ 32
    → semicolon_marks (chunk 0 16 text) + (semicolon_marks (chunk (length text - 16) 16 text) / 2 ^ (32 - length text) * 2 ^ 16) % 2 ^ 64 ≡ semicolon_marks text
marks_joined text long short =
    let last = chunk (length text - 16) 16 text in
    let lasting : length last ≡ 16 = length-chunk (length text - 16) 16 text (omega arith) in
    let others : semicolon_marks last / 2 ^ (32 - length text) ≡ semicolon_marks (drop 16 text)
    = marks_behind last (32 - length text) (omega arith) ∙ ap semicolon_marks (last_others text long short) in
    let behind : length (drop 16 text) ≤ 16 = omega (arith, length-drop 16 text) in
    let few : semicolon_marks (drop 16 text) < 2 ^ 16 = omega (arith, marks-lt (drop 16 text), pow_mono {i = length (drop 16 text)} {j = 16} behind) in
    let split : semicolon_marks text ≡ semicolon_marks (drop 16 text) * 2 ^ 16 + semicolon_marks (chunk 0 16 text) = marks_split text 16 long in
    ap (λ m. semicolon_marks (chunk 0 16 text) + (m * 2 ^ 16) % 2 ^ 64) others ∙ omega (arith, few, split)

-- the lowest bit is the first semicolon
pub first_mark : (text : List ℕ) → length text ≤ 64 → semicolon_marks text ≢ 0 → Some (count_trailing_zeros 64 (semicolon_marks text)) ≡ position is_semicolon text
first_mark text short some =
    let r = count_trailing_zeros 64 (semicolon_marks text) in
    let at : r ≡ position_or_len is_semicolon text = trailing_mask_l is_semicolon 64 text short (omega (arith, some)) in
    let below : r < length text = elim (cases_lt r (length text)) [
      | inl l ↦ l
      | inr past ↦ absurd (some (none_set is_semicolon text (omega (arith, prefix_len-le-length (λ x. not (is_semicolon x)) text))))
    ] in
    rw (sym at) (rw (lt-ltb r (length text) below) refl)

-- no bit, no semicolon
pub no_mark : (text : List ℕ) → semicolon_marks text ≡ 0 → None ≡ position is_semicolon text
no_mark text none =
    let at : position_or_len is_semicolon text ≡ length text = leading_from_mask_l is_semicolon text none in
    rw at (rw (le-ltb (length text) (length text) (omega arith)) refl)

-- what two vectors show fits
pub marks_fit : (text : List ℕ) → 16 ≤ length text → length text ≤ 32
    → Fits w64 (semicolon_marks (chunk 0 16 text) + (semicolon_marks (chunk (length text - 16) 16 text) / 2 ^ (32 - length text) * 2 ^ 16) % 2 ^ 64)
marks_fit text long short =
    let joined = marks_joined text long short in
    subst (Fits w64) (sym joined) (omega (arith, marks-lt text, pow_mono {i = length text} {j = 32} short))

-- what four vectors show of a text that they cover
pub far_joined : (text : List ℕ) → 32 ≤ length text → length text < 64
    → semicolon_marks (take 32 text) + (semicolon_marks (drop (length text - 32) text) / 2 ^ (64 - length text) * 2 ^ 32) % 2 ^ 64 ≡ semicolon_marks text
far_joined text long short =
    let last = drop (length text - 32) text in
    let lasting : length last ≡ 32 = omega (arith, length-drop (length text - 32) text) in
    let behind : (length text - 32) + (64 - length text) ≡ 32 = omega arith in
    let others : semicolon_marks last / 2 ^ (64 - length text) ≡ semicolon_marks (drop 32 text)
    = marks_behind last (64 - length text) (omega (arith, lasting)) ∙ ap semicolon_marks (drop-drop (64 - length text) (length text - 32) text ∙ ap (λ n. drop n text) behind) in
    let left : length (drop 32 text) ≤ 32 = omega (arith, length-drop 32 text) in
    let few : semicolon_marks (drop 32 text) < 2 ^ 32 = omega (arith, marks-lt (drop 32 text), pow_mono {i = length (drop 32 text)} {j = 32} left) in
    let split : semicolon_marks text ≡ semicolon_marks (drop 32 text) * 2 ^ 32 + semicolon_marks (take 32 text) = marks_split text 32 long in
    ap (λ m. semicolon_marks (take 32 text) + (m * 2 ^ 32) % 2 ^ 64) others ∙ omega (arith, few, split)

pub far_fit : (text : List ℕ) → 32 ≤ length text → length text < 64
    → Fits w64 (semicolon_marks (take 32 text) + (semicolon_marks (drop (length text - 32) text) / 2 ^ (64 - length text) * 2 ^ 32) % 2 ^ 64)
far_fit text long short =
    let joined = far_joined text long short in
    subst (Fits w64) (sym joined) (omega (arith, marks-lt text, pow_mono {i = length text} {j = 63} (omega (arith, short))))
