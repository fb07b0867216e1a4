-- How bytes are cut into lines.
use Rattle.std.proofs.Common.{◌≡◌, ◌≢◌, ℕ, ◌+◌, ◌<◌, ◌≤◌, ◌⊎◌, true, eqb, Some, None, List, [], ◌∷◌, ◌++◌, length, take, drop, get_or, refl, sym, ap, ◌∙◌, subst, inl, inr, arith, lit<}
use Rattle.std.specs.List.{concat, onto_first, position, position_or_len}
use Rattle.std.proofs.lemmas.Bool.{ne_eqb, eqb-true, eqb-false, cases_eq}
use Rattle.std.proofs.lemmas.List.{append-nil, append_assoc, take_all, drop_all, length-take-le, get_or-take, take_more, take-append-drop}
use Rattle.std.proofs.lemmas.List.Elements.{recursion_from_All, All-from_get_or}
use Rattle.std.proofs.lemmas.List.Sums.{fails_before_first, passes_at_first}
use Rattle.edi_line.specs.Lines.{HasNoFeed, IsEnded, AreLines, IsLinesOf}
use Rattle.edi_line.specs.inner.Lines.{lines_in}
use Rattle.edi_line.proofs.Numbers.{position_at_Some, position_at_None}

-- a line ends at the first feed
pub cut_at_feed : (front after : List ℕ) → HasNoFeed front → lines_in (front ++ 10 ∷ after) ≡ (front ++ 10 ∷ []) ∷ lines_in after
cut_at_feed [] after none = refl
cut_at_feed (c ∷ cs) after none = rw (ne_eqb c 10 none.0) (ap (onto_first c) (cut_at_feed cs after none.1))

-- bytes without a feed are one line
pub one_line : (line : List ℕ) → HasNoFeed line → 0 < length line → lines_in line ≡ line ∷ []
one_line [] none some = absurd (omega arith)
one_line (c ∷ []) none some = rw (ne_eqb c 10 none.0) refl
one_line (c ∷ d ∷ ds) none some = rw (ne_eqb c 10 none.0) (ap (onto_first c) (one_line (d ∷ ds) none.1 (omega arith)))

-- what `position` says of the first feed
no_feed_before : (bytes : List ℕ) (n : ℕ) → n ≤ length bytes → n ≤ position_or_len (λ c. eqb c 10) bytes → HasNoFeed (take n bytes)
no_feed_before bytes n within before =
    recursion_from_All (λ c. c ≢ 10) (take n bytes) (All-from_get_or (λ c. c ≢ 10) (take n bytes) 0 (λ i below e.
    let long : length (take n bytes) ≡ n = length-take-le n bytes within in
    let here : i < n = omega arith in
    let same : get_or (take n bytes) i 0 ≡ get_or bytes i 0 = get_or-take n bytes i 0 here in
    eqb-false _ _ (fails_before_first (λ c. eqb c 10) bytes i 0 (omega arith)) (sym same ∙ e)))

pub ended_at_feed : (bytes : List ℕ) (feed : ℕ) → position (λ c. eqb c 10) bytes ≡ Some feed → IsEnded (take (feed + 1) bytes)
ended_at_feed bytes feed e =
    let found = position_at_Some (λ c. eqb c 10) bytes feed e in
    let at : get_or bytes feed 0 ≡ 10 = eqb-true _ _ (subst (λ n. eqb (get_or bytes n 0) 10 ≡ true) found.0 (passes_at_first (λ c. eqb c 10) bytes 0 (omega arith))) in
    record {
      bytes = take feed bytes;
      no_feed = no_feed_before bytes feed (omega arith) (omega arith);
      ended = take_more bytes feed 0 found.1 ∙ ap (λ c. take feed bytes ++ c ∷ []) at;
    }

pub none_at_feed : (bytes : List ℕ) → position (λ c. eqb c 10) bytes ≡ None → HasNoFeed bytes
none_at_feed bytes e =
    let past = position_at_None (λ c. eqb c 10) bytes e in
    subst HasNoFeed (take_all (length bytes) bytes (omega arith)) (no_feed_before bytes (length bytes) (omega arith) past)

-- the lines of an ended line and of what follows it
pub line_first : (line after : List ℕ) → IsEnded line → lines_in (line ++ after) ≡ line ∷ lines_in after
line_first line after e =
    ap (λ l. lines_in (l ++ after)) e.ended ∙ ap lines_in (append_assoc e.bytes (10 ∷ []) after) ∙ cut_at_feed e.bytes after e.no_feed ∙ ap (λ l. l ∷ lines_in after) (sym e.ended)

pub first_at_feed : (bytes : List ℕ) (feed : ℕ) → position (λ c. eqb c 10) bytes ≡ Some feed → lines_in bytes ≡ take (feed + 1) bytes ∷ lines_in (drop (feed + 1) bytes)
first_at_feed bytes feed e =
    ap lines_in (sym (take-append-drop (feed + 1) bytes)) ∙ line_first (take (feed + 1) bytes) (drop (feed + 1) bytes) (ended_at_feed bytes feed e)

pub first_of_one : (bytes : List ℕ) → 0 < length bytes → position (λ c. eqb c 10) bytes ≡ None → lines_in bytes ≡ take (length bytes) bytes ∷ lines_in (drop (length bytes) bytes)
first_of_one bytes some e =
    let all : take (length bytes) bytes ≡ bytes = take_all (length bytes) bytes (omega arith) in
    let rest : drop (length bytes) bytes ≡ [] = drop_all (length bytes) bytes (omega arith) in
    one_line bytes (none_at_feed bytes e) some ∙ ap (λ line. line ∷ []) (sym all) ∙ ap (λ xs. take (length bytes) bytes ∷ lines_in xs) (sym rest)

-- ---- there is just one list of lines

pub lines_are_same : (lines : List (List ℕ)) → AreLines lines → lines_in (concat lines) ≡ lines
lines_are_same [] each = refl
lines_are_same (line ∷ []) (inl e) =
    ap lines_in (append-nil line ∙ e.ended) ∙ cut_at_feed e.bytes [] e.no_feed ∙ ap (λ l. l ∷ []) (sym e.ended)
lines_are_same (line ∷ []) (inr u) = ap lines_in (append-nil line) ∙ one_line line u.no_feed u.some
lines_are_same (line ∷ next ∷ lines) each =
    line_first line (concat (next ∷ lines)) each.0 ∙ ap (λ ls. line ∷ ls) (lines_are_same (next ∷ lines) each.1)

pub lines_unique : (bytes : List ℕ) (lines : List (List ℕ)) → IsLinesOf bytes lines → lines ≡ lines_in bytes
lines_unique bytes lines h = sym (lines_are_same lines h.each) ∙ ap lines_in h.joined

-- ---- and there is one

concat_onto : (c : ℕ) (lines : List (List ℕ)) → concat (onto_first c lines) ≡ c ∷ concat lines
concat_onto c [] = refl
concat_onto c (line ∷ lines) = refl

ended_before : (line : List ℕ) (lines : List (List ℕ)) → IsEnded line → AreLines lines → AreLines (line ∷ lines)
ended_before line [] e each = inl e
ended_before line (next ∷ lines) e each = (e, each)

longer_ended : (c : ℕ) (line : List ℕ) → c ≢ 10 → IsEnded line → IsEnded (c ∷ line)
longer_ended c line other e = record { bytes = c ∷ e.bytes; no_feed = (other, e.no_feed); ended = ap (λ l. c ∷ l) e.ended }

onto_lines : (c : ℕ) (lines : List (List ℕ)) → c ≢ 10 → AreLines lines → AreLines (onto_first c lines)
onto_lines c [] other each = inr (record { no_feed = (other, tt); some = lit< tt })
onto_lines c (line ∷ []) other (inl e) = inl (longer_ended c line other e)
onto_lines c (line ∷ []) other (inr u) = inr (record { no_feed = (other, u.no_feed); some = omega arith })
onto_lines c (line ∷ next ∷ lines) other each = (longer_ended c line other each.0, each.1)

step_lines : (c : ℕ) (cs : List ℕ) → (c ≡ 10) ⊎ (c ≡ 10 → ⊥) → IsLinesOf cs (lines_in cs) → IsLinesOf (c ∷ cs) (lines_in (c ∷ cs))
step_lines c cs (inl feed) h = rw feed (record {
  joined = ap (λ xs. 10 ∷ xs) h.joined;
  each = ended_before (10 ∷ []) (lines_in cs) (record { bytes = []; no_feed = tt; ended = refl }) h.each;
})
step_lines c cs (inr other) h = rw (ne_eqb c 10 other) (record {
  joined = concat_onto c (lines_in cs) ∙ ap (λ xs. c ∷ xs) h.joined;
  each = onto_lines c (lines_in cs) other h.each;
})

pub lines_exist : (bytes : List ℕ) → IsLinesOf bytes (lines_in bytes)
lines_exist [] = record { joined = refl; each = tt }
lines_exist (c ∷ cs) = step_lines c cs (cases_eq c 10) (lines_exist cs)
