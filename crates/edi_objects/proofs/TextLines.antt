-- Lines of texts.
use Rattle.std.proofs.Common.{◌≡◌, ◌≢◌, ◌∙◌, ◌<◌, ℕ, Bool, true, false, List, [], ◌∷◌, ◌++◌, ap, ap₂, append-nil, append_assoc, get_or, if◌then◌else◌, length, refl, sym, true≢false}
use Rattle.std.specs.List.{AllByRecursion, flat_map}
use Rattle.edi_line.specs.Bytes.{line_feed}
use Rattle.edi_line.proofs.EachElement.{each_weaker}
use Rattle.edi_objects.specs.Telling.{AreLinesOf, AreWholeLines, last_byte}
use Rattle.edi_objects.proofs.AttributeLists.{one_of_all}

-- ---- whole lines

last_append : (d : ℕ) (xs ys : List ℕ) → last_byte d (xs ++ ys) ≡ last_byte (last_byte d xs) ys
last_append d [] ys = refl
last_append d (x ∷ xs) ys = last_append x xs ys

pub whole_append : (xs ys : List ℕ) → AreWholeLines xs → AreWholeLines ys → AreWholeLines (xs ++ ys)
whole_append xs ys here there = last_append line_feed xs ys ∙ (ap (λ b. last_byte b ys) here ∙ there)

-- what ends in a line feed does so whatever stands before it
pub ends_line : (d : ℕ) (xs : List ℕ) → last_byte d (xs ++ line_feed ∷ []) ≡ line_feed
ends_line d xs = last_append d xs (line_feed ∷ [])

pub whole_line : (xs : List ℕ) → AreWholeLines (xs ++ line_feed ∷ [])
whole_line xs = ends_line line_feed xs

pub whole_behind : (xs ys : List ℕ) → AreWholeLines (xs ++ (ys ++ line_feed ∷ []))
whole_behind xs ys = last_append line_feed xs (ys ++ line_feed ∷ []) ∙ ends_line (last_byte line_feed xs) ys

pub whole_if : (b : Bool) (xs ys : List ℕ) → AreWholeLines xs → AreWholeLines ys → AreWholeLines (if b then xs else ys)
whole_if true xs ys here there = here
whole_if false xs ys here there = there

pub whole_flat : {X : Type 0} (f : X → List ℕ) → ((x : X) → AreWholeLines (f x)) → (xs : List X) → AreWholeLines (flat_map f xs)
whole_flat f each [] = refl
whole_flat f each (x ∷ xs) = whole_append (f x) (flat_map f xs) (each x) (whole_flat f each xs)

-- ---- nothing

pub both_none : (xs ys : List ℕ) → xs ++ ys ≡ [] → (xs ≡ []) × (ys ≡ [])
both_none [] ys e = (refl, e)
both_none (x ∷ xs) ys e = absurd cc

pub none_each : {X : Type 0} (f : X → List ℕ) (xs : List X) → flat_map f xs ≡ [] → AllByRecursion (λ x. f x ≡ []) xs
none_each f [] e = tt
none_each f (x ∷ xs) e = let halves = both_none (f x) (flat_map f xs) e in (halves.0, none_each f xs halves.1)

pub none_from : {X : Type 0} (f : X → List ℕ) (xs : List X) → AllByRecursion (λ x. f x ≡ []) xs → flat_map f xs ≡ []
none_from f [] all = refl
none_from f (x ∷ xs) all = ap₂ (λ (a b : List ℕ). a ++ b) all.0 (none_from f xs all.1)

-- ---- something

pub if_said : (b : Bool) (xs ys : List ℕ) → b ≡ true → xs ≢ [] → (if b then xs else ys) ≢ []
if_said true xs ys e some = some
if_said false xs ys e some = absurd (true≢false (sym e))

pub else_said : (b : Bool) (xs ys : List ℕ) → b ≡ false → ys ≢ [] → (if b then xs else ys) ≢ []
else_said true xs ys e some = absurd (true≢false e)
else_said false xs ys e some = some

pub either_said : (b : Bool) (xs ys : List ℕ) → xs ≢ [] → ys ≢ [] → (if b then xs else ys) ≢ []
either_said true xs ys some more = some
either_said false xs ys some more = more

-- ---- lines of a text

pub lines_alone : (lines : List ℕ) → lines ≢ [] → AreWholeLines lines → AreLinesOf lines lines
lines_alone lines some whole = record { there = some; whole = whole; before = []; begins = refl; behind = []; is = sym (append-nil lines) }

pub lines_left : (a b lines : List ℕ) → AreLinesOf a lines → AreLinesOf (a ++ b) lines
lines_left a b lines l = record {
  there = l.there;
  whole = l.whole;
  before = l.before;
  begins = l.begins;
  behind = l.behind ++ b;
  is = ap (λ (x : List ℕ). x ++ b) l.is ∙ append_assoc (l.before ++ lines) l.behind b;
}

pub lines_right : (a b lines : List ℕ) → AreWholeLines a → AreLinesOf b lines → AreLinesOf (a ++ b) lines
lines_right a b lines whole l = record {
  there = l.there;
  whole = l.whole;
  before = a ++ l.before;
  begins = whole_append a l.before whole l.begins;
  behind = l.behind;
  is = ap (λ (x : List ℕ). a ++ x) l.is ∙ (sym (append_assoc a (l.before ++ lines) l.behind) ∙ ap (λ (x : List ℕ). x ++ l.behind) (sym (append_assoc a l.before lines)));
}

pub text_there : (text lines : List ℕ) → AreLinesOf text lines → text ≢ []
text_there text lines l none =
    let all = both_none (l.before ++ lines) l.behind (sym l.is ∙ none) in
    l.there ((both_none l.before lines all.0).1)

-- each of the texts that stand one after the other has its lines in the whole
pub lines_each : {X : Type 0} (f : X → List ℕ) → ((x : X) → AreWholeLines (f x)) → (xs : List X) → AllByRecursion (λ x. f x ≢ [] → AreLinesOf (flat_map f xs) (f x)) xs
lines_each f whole [] = tt
lines_each f whole (x ∷ xs) = (
  λ some. lines_left (f x) (flat_map f xs) (f x) (lines_alone (f x) some (whole x)),
  each_weaker (λ y. f y ≢ [] → AreLinesOf (flat_map f xs) (f y)) (λ y. f y ≢ [] → AreLinesOf (f x ++ flat_map f xs) (f y))
      (λ y h some. lines_right (f x) (flat_map f xs) (f y) (whole x) (h some)) xs (lines_each f whole xs),
)

pub lines_at : {X : Type 0} (f : X → List ℕ) → ((x : X) → AreWholeLines (f x)) → (xs : List X) (k : ℕ) (d : X) → k < length xs → f (get_or xs k d) ≢ [] → AreLinesOf (flat_map f xs) (f (get_or xs k d))
lines_at f whole xs k d h = one_of_all (λ x. f x ≢ [] → AreLinesOf (flat_map f xs) (f x)) xs (lines_each f whole xs) k d h

-- the second, the third and the fourth part of seven
pub lines_second : (a b c d e f g lines : List ℕ) → AreWholeLines a → AreLinesOf b lines → AreLinesOf (a ++ b ++ c ++ d ++ e ++ f ++ g) lines
lines_second a b c d e f g lines whole l =
    lines_left (a ++ b ++ c ++ d ++ e ++ f) g lines (lines_left (a ++ b ++ c ++ d ++ e) f lines (lines_left (a ++ b ++ c ++ d) e lines
    (lines_left (a ++ b ++ c) d lines (lines_left (a ++ b) c lines (lines_right a b lines whole l)))))

pub lines_third : (a b c d e f g lines : List ℕ) → AreWholeLines (a ++ b) → AreLinesOf c lines → AreLinesOf (a ++ b ++ c ++ d ++ e ++ f ++ g) lines
lines_third a b c d e f g lines whole l =
    lines_left (a ++ b ++ c ++ d ++ e ++ f) g lines (lines_left (a ++ b ++ c ++ d ++ e) f lines (lines_left (a ++ b ++ c ++ d) e lines
    (lines_left (a ++ b ++ c) d lines (lines_right (a ++ b) c lines whole l))))

pub lines_fourth : (a b c d e f g lines : List ℕ) → AreWholeLines (a ++ b ++ c) → AreLinesOf d lines → AreLinesOf (a ++ b ++ c ++ d ++ e ++ f ++ g) lines
lines_fourth a b c d e f g lines whole l =
    lines_left (a ++ b ++ c ++ d ++ e ++ f) g lines (lines_left (a ++ b ++ c ++ d ++ e) f lines (lines_left (a ++ b ++ c ++ d) e lines (lines_right (a ++ b ++ c) d lines whole l)))
