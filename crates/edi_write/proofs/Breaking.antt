-- How a zone is broken into lines, without the count of turns.
use Rattle.std.proofs.Common.{◌≡◌, ℕ, zero, suc, ◌<◌, ◌≤◌, inl, inr, List, [], ◌∷◌, ◌++◌, length, take, drop, refl, sym, ap, ◌∙◌, append_assoc, arith}
use Rattle.std.specs.Prelude.{flat_map}
use Rattle.std.proofs.lemmas.Bool.{le-leb, lt-leb, cases_lt}
use Rattle.std.proofs.lemmas.List.{append-nil, length-drop}
use Rattle.edi_line.specs.ZoneData.{ZoneData}
use Rattle.edi_line.specs.Printing.{line_text, next_zone, broken_into, printed_zone, with_value}

-- enough turns are as good as more
same_lines : (t u : ℕ) (z : ZoneData) → length z.value ≤ t → length z.value ≤ u → broken_into t z ≡ broken_into u z
unfolding broken_into next_zone
same_lines zero zero z h k = refl
same_lines zero (suc u) z h k = rw (le-leb (length z.value) 72 (omega arith)) refl
same_lines (suc t) zero z h k = rw (le-leb (length z.value) 72 (omega arith)) refl
same_lines (suc t) (suc u) z h k = elim (cases_lt 72 (length z.value)) [
  | inl long ↦ rw (lt-leb (length z.value) 72 long) (ap (λ t. with_value (take 72 z.value) z ∷ t) (same_lines t u (next_zone (drop 72 z.value)) (omega (arith, length-drop 72 z.value)) (omega (arith, length-drop 72 z.value))))
  | inr short ↦ rw (le-leb (length z.value) 72 short) refl
]

one_line : (turns : ℕ) (z : ZoneData) → length z.value ≤ 72 → broken_into turns z ≡ z ∷ []
unfolding broken_into
one_line zero z h = refl
one_line (suc turns) z h = rw (le-leb (length z.value) 72 h) refl

-- a value of at most 72 bytes is one line
pub printed_short : (z : ZoneData) → length z.value ≤ 72 → printed_zone z ≡ line_text z
unfolding printed_zone
printed_short z h = rw (one_line (length z.value) z h) (append-nil (line_text z))

more_lines : (turns : ℕ) (z : ZoneData) → length z.value ≡ suc turns → 72 < length z.value → broken_into (length z.value) z ≡ with_value (take 72 z.value) z ∷ broken_into turns (next_zone (drop 72 z.value))
unfolding broken_into
more_lines turns z e long = ap (λ n. broken_into n z) e ∙ rw (lt-leb (length z.value) 72 long) refl

-- the first 72 bytes of a longer one, and then the zone of what is left
pub printed_long : (z : ZoneData) → 72 < length z.value → printed_zone z ≡ line_text (with_value (take 72 z.value) z) ++ printed_zone (next_zone (drop 72 z.value))
unfolding printed_zone next_zone
printed_long z long = go (length z.value) refl
  where
    go : (n : ℕ) → length z.value ≡ n → flat_map line_text (broken_into (length z.value) z) ≡ line_text (with_value (take 72 z.value) z) ++ flat_map line_text (broken_into (length (drop 72 z.value)) (next_zone (drop 72 z.value)))
    go zero e = absurd (omega arith)
    go (suc turns) e = rw (more_lines turns z e long) (ap (λ t. line_text (with_value (take 72 z.value) z) ++ flat_map line_text t) (same_lines turns (length (drop 72 z.value)) (next_zone (drop 72 z.value)) (omega (arith, length-drop 72 z.value)) (omega arith)))

-- ---- steps of a loop that writes them

pub wrote_front : (all out new : List ℕ) (z : ZoneData) (front back : List ℕ) → new ≡ out ++ line_text (with_value front z) → front ≡ take 72 z.value → back ≡ drop 72 z.value → 72 < length z.value
    → out ++ printed_zone z ≡ all → new ++ printed_zone (next_zone back) ≡ all
wrote_front all out new z front back e f b long kept =
    rw (e, f, b) (append_assoc out (line_text (with_value (take 72 z.value) z)) (printed_zone (next_zone (drop 72 z.value))) ∙ ap (λ t. out ++ t) (sym (printed_long z long)) ∙ kept)

pub wrote_last : (all out : List ℕ) (z : ZoneData) → length z.value ≤ 72 → out ++ printed_zone z ≡ all → out ++ line_text z ≡ all
wrote_last all out z short kept = ap (λ t. out ++ t) (sym (printed_short z short)) ∙ kept
