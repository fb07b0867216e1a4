-- Where the lines that have ended end.
use Rattle.std.proofs.Common.{◌≡◌, ℕ, ◌+◌, ◌≤◌, ◌<◌, true, false, Bool, cond, eqb, List, [], ◌∷◌, ◌++◌, length, map, refl, sym, ap, ◌∙◌, subst, inl, inr, arith}
use Rattle.std.specs.List.{AllByRecursion, concat, onto_first}
use Rattle.std.proofs.lemmas.List.{append-nil, append_assoc, map-append, length-map}
use Rattle.edi_line.specs.Lines.{HasNoFeed, IsEnded, AreLines, content_of}
use Rattle.edi_line.specs.inner.Lines.{lines_in}
use Rattle.edi_line.specs.inner.Spelling.{reading_of}
use Rattle.edi_line.specs.inner.Zones.{readings_of}
use Rattle.edi_line.specs.Feeding.{EndedPart}
use Rattle.edi_line.proofs.Cut.{one_line, line_first, lines_exist}

lines_append : (lines : List (List ℕ)) (rest : List ℕ) → AllByRecursion IsEnded lines → lines_in (concat lines ++ rest) ≡ lines ++ lines_in rest
lines_append [] rest h = refl
lines_append (line ∷ lines) rest h =
    ap lines_in (append_assoc line (concat lines) rest) ∙ line_first line (concat lines ++ rest) h.0 ∙ ap (λ ls. line ∷ ls) (lines_append lines rest h.1)

abbrev AllEnded : List ℕ → Type 0
AllEnded bytes = AllByRecursion IsEnded (lines_in bytes)

pub ended_append : (ended rest : List ℕ) → AllEnded ended → lines_in (ended ++ rest) ≡ lines_in ended ++ lines_in rest
ended_append ended rest h = ap (λ bytes. lines_in (bytes ++ rest)) (sym (lines_exist ended).joined) ∙ lines_append (lines_in ended) rest h

pub readings_append : (ended rest : List ℕ) → AllEnded ended → readings_of (ended ++ rest) ≡ readings_of ended ++ readings_of rest
readings_append ended rest h =
    ap (λ lines. map reading_of (map content_of lines)) (ended_append ended rest h)
    ∙ ap (map reading_of) (map-append content_of (lines_in ended) (lines_in rest))
    ∙ map-append reading_of (map content_of (lines_in ended)) (map content_of (lines_in rest))

pub readings_first : (line after : List ℕ) → IsEnded line → readings_of (line ++ after) ≡ reading_of (content_of line) ∷ readings_of after
readings_first line after e = ap (λ lines. map reading_of (map content_of lines)) (line_first line after e)

pub readings_last : (line : List ℕ) → HasNoFeed line → 0 < length line → readings_of line ≡ reading_of (content_of line) ∷ []
readings_last line none some = ap (λ lines. map reading_of (map content_of lines)) (one_line line none some)

all_append : (xs ys : List (List ℕ)) → AllByRecursion IsEnded xs → AllByRecursion IsEnded ys → AllByRecursion IsEnded (xs ++ ys)
all_append [] ys h k = k
all_append (x ∷ xs) ys h k = (h.0, all_append xs ys h.1 k)

-- the lines of what has ended are its lines
pub all_ended : {bytes ended pending : List ℕ} → EndedPart bytes ended pending → AllEnded ended
all_ended {ended = ended} cut =
    let lines : lines_in (concat cut.lines ++ []) ≡ cut.lines ++ [] = lines_append cut.lines [] cut.each_ended in
    let same : cut.lines ≡ lines_in ended = sym (append-nil cut.lines) ∙ sym lines ∙ ap lines_in (append-nil (concat cut.lines) ∙ cut.are_lines) in
    subst (AllByRecursion IsEnded) same cut.each_ended

concat_append : (xs ys : List (List ℕ)) → concat (xs ++ ys) ≡ concat xs ++ concat ys
concat_append [] ys = refl
concat_append (x ∷ xs) ys = ap (λ t. x ++ t) (concat_append xs ys) ∙ sym (append_assoc x (concat xs) (concat ys))

-- a piece more
pub cut_on : (bytes ended pending piece more rest : List ℕ) → EndedPart bytes ended pending → EndedPart (pending ++ piece) more rest → EndedPart (bytes ++ piece) (ended ++ more) rest
cut_on bytes ended pending piece more rest old new = record {
  joined = ap (λ b. b ++ piece) old.joined ∙ append_assoc ended pending piece ∙ ap (λ b. ended ++ b) new.joined ∙ sym (append_assoc ended more rest);
  no_feed = new.no_feed;
  lines = old.lines ++ new.lines;
  are_lines = concat_append old.lines new.lines ∙ ap (λ b. b ++ concat new.lines) old.are_lines ∙ ap (λ b. ended ++ b) new.are_lines;
  each_ended = all_append old.lines new.lines old.each_ended new.each_ended;
}

-- a line more, in front
pub cut_before : (line after ended rest : List ℕ) → IsEnded line → EndedPart after ended rest → EndedPart (line ++ after) (line ++ ended) rest
cut_before line after ended rest e cut = record {
  joined = ap (λ b. line ++ b) cut.joined ∙ sym (append_assoc line ended rest);
  no_feed = cut.no_feed;
  lines = line ∷ cut.lines;
  are_lines = ap (λ b. line ++ b) cut.are_lines;
  each_ended = (e, cut.each_ended);
}

-- where no line has ended
pub cut_none : (bytes : List ℕ) → HasNoFeed bytes → EndedPart bytes [] bytes
cut_none bytes none = record { joined = refl; no_feed = none; lines = []; are_lines = refl; each_ended = tt }

-- all bytes have such a place
pub record IsCut (bytes : List ℕ) : Type 0 where
  pub ended : List ℕ
  pub rest : List ℕ
  pub cut : EndedPart bytes ended rest

one_more : (line after : List ℕ) → IsEnded line → IsCut after → IsCut (line ++ after)
one_more line after e c = record { ended = line ++ c.ended; rest = c.rest; cut = cut_before line after c.ended c.rest e c.cut }

cut_lines : (lines : List (List ℕ)) → AreLines lines → IsCut (concat lines)
cut_lines [] each = record { ended = []; rest = []; cut = cut_none [] tt }
cut_lines (line ∷ []) (inl e) = one_more line [] e (record { ended = []; rest = []; cut = cut_none [] tt })
cut_lines (line ∷ []) (inr u) = record { ended = []; rest = line; cut = record { joined = append-nil line; no_feed = u.no_feed; lines = []; are_lines = refl; each_ended = tt } }
cut_lines (line ∷ next ∷ lines) each = one_more line (concat (next ∷ lines)) each.0 (cut_lines (next ∷ lines) each.1)

pub cut_exists : (bytes : List ℕ) → IsCut bytes
cut_exists bytes = let lines = lines_exist bytes in subst IsCut lines.joined (cut_lines (lines_in bytes) lines.each)

-- a line of what is pending and of the bytes that end it
pub pending_ended : (pending line : List ℕ) → HasNoFeed pending → IsEnded line → IsEnded (pending ++ line)
pending_ended pending line none e = record {
  bytes = pending ++ e.bytes;
  no_feed = no_feeds pending e.bytes none e.no_feed;
  ended = ap (λ l. pending ++ l) e.ended ∙ sym (append_assoc pending e.bytes (10 ∷ []));
}
  where
    no_feeds : (xs ys : List ℕ) → HasNoFeed xs → HasNoFeed ys → HasNoFeed (xs ++ ys)
    no_feeds [] ys h k = k
    no_feeds (x ∷ xs) ys h k = (h.0, no_feeds xs ys h.1 k)

-- ---- no more lines than bytes

onto_few : (c : ℕ) (lines : List (List ℕ)) → length (onto_first c lines) ≤ length lines + 1
onto_few c [] = omega arith
onto_few c (line ∷ lines) = omega arith

lines_few : (bytes : List ℕ) → length (lines_in bytes) ≤ length bytes
lines_few [] = omega arith
lines_few (c ∷ cs) = few (eqb c 10) (lines_few cs)
  where
    few : (b : Bool) → length (lines_in cs) ≤ length cs → length (cond b ((c ∷ []) ∷ lines_in cs) (onto_first c (lines_in cs))) ≤ length (c ∷ cs)
    few true h = omega arith
    few false h = omega (arith, h, onto_few c (lines_in cs))

pub readings_few : (bytes : List ℕ) → length (readings_of bytes) ≤ length bytes
readings_few bytes = omega (arith, lines_few bytes, length-map (lines_in bytes) content_of, length-map (map content_of (lines_in bytes)) reading_of)
