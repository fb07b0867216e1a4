-- Texts of lines of JSON, one behind the other.
use Rattle.std.proofs.Common.{◌≡◌, ◌∙◌, ℕ, ◌<◌, Bool, true, false, cond, ◌==◌, List, [], ◌∷◌, ◌++◌, Some, append_assoc, arith, ap, ap₂, length, length-append, map, refl, subst, sym}
use Rattle.std.specs.List.{onto_first, slice_split}
use Rattle.std.specs.Str.Lines.{lines, lines_of_parts, strip_carriage_return}
use Rattle.std.proofs.lemmas.List.{map-append}
use Rattle.std.proofs.lemmas.List.Splits.{length-slice_split}
use Rattle.json.specs.Json.{Json, document}
use Rattle.json.specs.Print.{print}
use Rattle.json.specs.Tree.{json_tokens}
use Rattle.edi_json.specs.Texts.{ReadsAs, json_line, json_text}

-- the pieces between line feeds
abbrev pieces : List ℕ → List (List ℕ)
pieces = slice_split (λ b. b == 10)

some_pieces : (text : List ℕ) → 0 < length (pieces text)
some_pieces text = omega (arith, length-slice_split (λ b. b == 10) text)

onto_more : (x : ℕ) (ps qs : List (List ℕ)) → 0 < length ps → onto_first x (ps ++ qs) ≡ onto_first x ps ++ qs
onto_more x [] qs h = absurd (omega (arith, h))
onto_more x (p ∷ ps) qs h = refl

by_feed : (feed : Bool) (x : ℕ) (ps qs : List (List ℕ)) → 0 < length ps → cond feed ([] ∷ (ps ++ qs)) (onto_first x (ps ++ qs)) ≡ cond feed ([] ∷ ps) (onto_first x ps) ++ qs
by_feed true x ps qs h = refl
by_feed false x ps qs h = onto_more x ps qs h

-- the pieces around a line feed
around_feed : (front behind : List ℕ) → pieces (front ++ 10 ∷ behind) ≡ pieces front ++ pieces behind
around_feed [] behind = refl
around_feed (x ∷ front) behind =
    ap (λ ps. cond (x == 10) ([] ∷ ps) (onto_first x ps)) (around_feed front behind)
    ∙ by_feed (x == 10) x (pieces front) (pieces behind) (some_pieces front)

one_more : (p : List ℕ) (ps : List (List ℕ)) → 0 < length ps → lines_of_parts (p ∷ ps) ≡ strip_carriage_return p ∷ lines_of_parts ps
one_more p [] h = absurd (omega (arith, h))
one_more p (q ∷ ps) h = refl

many_more : (ps qs : List (List ℕ)) → 0 < length qs → lines_of_parts (ps ++ qs) ≡ map strip_carriage_return ps ++ lines_of_parts qs
many_more [] qs h = refl
many_more (p ∷ ps) qs h =
    one_more p (ps ++ qs) (omega (arith, length-append ps qs, h))
    ∙ ap (λ ls. strip_carriage_return p ∷ ls) (many_more ps qs h)

-- the lines of a text that a line feed ends, and those behind it
lines_behind_feed : (front behind : List ℕ) → lines ((front ++ 10 ∷ []) ++ behind) ≡ map strip_carriage_return (pieces front) ++ lines behind
lines_behind_feed front behind =
    ap lines (append_assoc front (10 ∷ []) behind)
    ∙ (ap lines_of_parts (around_feed front behind) ∙ many_more (pieces front) (pieces behind) (some_pieces behind))

lines_in_turn : (values : List Json) (behind : List ℕ) → lines (json_text values ++ behind) ≡ lines (json_text values) ++ lines behind
lines_in_turn [] behind = refl
lines_in_turn (value ∷ values) behind =
    let line = print (json_tokens value) in
    let these = map strip_carriage_return (pieces line) in
    ap lines (append_assoc (json_line value) (json_text values) behind)
    ∙ (lines_behind_feed line (json_text values ++ behind)
    ∙ (ap (λ ls. these ++ ls) (lines_in_turn values behind)
    ∙ (sym (append_assoc these (lines (json_text values)) (lines behind))
    ∙ ap (λ ls. ls ++ lines behind) (sym (lines_behind_feed line (json_text values))))))

-- what a reader finds in lines of JSON, and then in another text
pub read_in_turn : (one two : List ℕ) (first second : List Json) → one ≡ json_text first → ReadsAs one first → ReadsAs two second → ReadsAs (one ++ two) (first ++ second)
read_in_turn one two first second is read other =
    let split = subst (λ (text : List ℕ). lines (text ++ two) ≡ lines text ++ lines two) (sym is) (lines_in_turn first two) in
    ap (map document) split
    ∙ (map-append document (lines one) (lines two) ∙ (ap₂ (λ xs ys. xs ++ ys) read other ∙ sym (map-append Some first second)))
