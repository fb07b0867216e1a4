-- Pieces of a text, and lines of words.
use Rattle.std.proofs.Common.{◌≡◌, ◌∙◌, ℕ, suc, ◌+◌, ◌-◌, ◌<◌, true, false, cond, ◌==◌, Bor, List, [], ◌∷◌, Some, arith, ap, get_or, length, map, refl, subst, sym, take, unwrap_or}
use Rattle.std.specs.List.{slice_get}
use Rattle.std.proofs.lemmas.Bool.{false≢true}
use Rattle.std.proofs.lemmas.List.{map-append, map_more}
use Rattle.std.proofs.lemmas.Option.{slice_get_within}
use Rattle.edi_outcome.specs.Words.{texts}
use Rattle.edi_json.specs.inner.Lines.{HasLines}
use Rattle.edi_json.proofs.LineLemmas.{more_lines}
use Rattle.edi_json.proofs.PlainTexts.{plain_decimal}
use Rattle.edi_json_answers.specs.Told.{without_empty_end, words_value}
use Rattle.edi_json_answers.specs.inner.Told.{ends_empty}
use Rattle.edi_json_answers.proofs.Values.{IsFit}

-- this piece is the last
pub at_end : (ps : List (Bor (List ℕ))) (piece : Bor (List ℕ)) → slice_get ps (length ps - 1) ≡ Some piece → ends_empty (texts ps) ≡ (length piece.now == 0)
at_end [] piece h = absurd (omega (arith, slice_get_within [] (0 - 1) piece h))
at_end (p ∷ []) piece h = ap (λ o. length (unwrap_or o p).now == 0) h
at_end (p ∷ q ∷ ps) piece h =
    let one_on : suc (length (q ∷ ps) - 1) ≡ length (p ∷ q ∷ ps) - 1 = omega arith in
    at_end (q ∷ ps) piece (ap (slice_get (p ∷ q ∷ ps)) one_on ∙ h)

-- without its last piece, where that is empty
pub popped : (ps : List (Bor (List ℕ))) → ends_empty (texts ps) ≡ true → texts (take (length ps - 1) ps) ≡ without_empty_end (texts ps)
popped [] h = absurd (false≢true h)
popped (p ∷ []) h = sym (ap (λ b. cond b [] (p.now ∷ [])) h)
popped (p ∷ q ∷ ps) h =
    let one_on : length (p ∷ q ∷ ps) - 1 ≡ suc (length (q ∷ ps) - 1) = omega arith in
    ap (λ n. texts (take n (p ∷ q ∷ ps))) one_on ∙ ap (λ qs. p.now ∷ qs) (popped (q ∷ ps) h)

-- as it is, where the last piece isn't empty
pub kept : (ps : List (List ℕ)) → ends_empty ps ≡ false → ps ≡ without_empty_end ps
kept [] h = refl
kept (p ∷ []) h = sym (ap (λ b. cond b [] (p ∷ [])) h)
kept (p ∷ q ∷ ps) h = ap (λ qs. p ∷ qs) (kept (q ∷ ps) h)

pub words_fit : (words : List ℕ) → IsFit (words_value words)
words_fit words = record { shallow = omega arith; plain = (tt, (tt, (plain_decimal 1, (tt, (tt, (tt, (tt, (tt, tt)))))))) }

-- those of one line more
pub words_more : (lines : List (Bor (List ℕ))) (k : ℕ) (d : Bor (List ℕ)) (old mid new : List ℕ) → k < length lines → HasLines old mid (map words_value (texts (take k lines)))
    → HasLines mid new (words_value (get_or lines k d).now ∷ []) → HasLines old new (map words_value (texts (take (k + 1) lines)))
words_more lines k d old mid new less h more =
    let these = texts (take k lines) in
    let split = ap (map words_value) (map_more (λ (t : Bor (List ℕ)). t.now) lines k d less) ∙ map-append words_value these ((get_or lines k d).now ∷ []) in
    subst (HasLines old new) (sym split) (more_lines old mid new (map words_value these) (words_value (get_or lines k d).now ∷ []) h more)
