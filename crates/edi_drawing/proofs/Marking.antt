-- Marks of records, one by one.
use Rattle.std.proofs.Common.{◌≡◌, ℕ, ◌+◌, ◌<◌, ◌||◌, Bool, true, false, List, [], ◌∷◌, ◌++◌, length, get_or, map, take, Option, None, refl, sym, ap, ◌∙◌, subst, arith, if◌then◌else◌}
use Rattle.std.proofs.lemmas.List.{ext_get_or, take_more}
use Rattle.std.proofs.lemmas.List.Folds.{list_any-append}
use Rattle.std.proofs.lemmas.List.FromFn.{get_or-map-range_with_len, length-map-range_with_len}
use Rattle.std.specs.List.{list_any, range_with_len}
use Rattle.edi_matching.specs.declared.matching.Matching.{Matching}
use Rattle.edi_report.specs.Lines.{is_reached, went_to}
use Rattle.edi_drawing.specs.Marked.{second_mark}
use Rattle.edi_picture.specs.declared.mark.Mark.{Mark}
use Rattle.edi_picture.specs.declared.mark.Mark.TheVariants.{OnlySecond, After, Hidden}

or_none : (a b : Bool) (m x : Mark) → (if a || (b || false) then m else x) ≡ (if b then m else (if a then m else x))
or_none true true m x = refl
or_none true false m x = refl
or_none false true m x = refl
or_none false false m x = refl

pub stamped_more : (to : List (Option ℕ)) (k : ℕ) (old marks new : List Mark) (went : Option ℕ) (m : Mark) → k < length to → went ≡ get_or to k None → length marks ≡ length old
    → ((j : ℕ) → j < length old → get_or marks j Hidden ≡ (if is_reached (take k to) j then m else get_or old j Hidden))
    → ((j : ℕ) → j < length marks → get_or new j Hidden ≡ (if went_to j went then m else get_or marks j Hidden))
    → (j : ℕ) → j < length old → get_or new j Hidden ≡ (if is_reached (take (k + 1) to) j then m else get_or old j Hidden)
stamped_more to k old marks new went m less is long done each j h =
    each j (subst (λ n. j < n) (sym long) h)
    ∙ (ap (λ x. if went_to j went then m else x) (done j h)
    ∙ (sym (or_none (is_reached (take k to) j) (went_to j went) m (get_or old j Hidden))
    ∙ ap (λ b. if b then m else get_or old j Hidden)
    (sym (list_any-append (went_to j) (take k to) (went ∷ [])) ∙ ap (list_any (went_to j)) (ap (λ v. take k to ++ v ∷ []) is ∙ sym (take_more to k None less)))))

pub second_marked : (unchanged became : Matching) (n : ℕ) (start mid marks : List Mark) → start ≡ map (λ k. OnlySecond) (range_with_len 0 n) → length mid ≡ length start → length marks ≡ length mid
    → ((j : ℕ) → j < length start → get_or mid j Hidden ≡ (if is_reached became.to j then After else get_or start j Hidden))
    → ((j : ℕ) → j < length mid → get_or marks j Hidden ≡ (if is_reached unchanged.to j then Hidden else get_or mid j Hidden))
    → marks ≡ map (second_mark unchanged became) (range_with_len 0 n)
second_marked unchanged became n start mid marks begun long longer first second =
    ext_get_or Hidden marks (map (second_mark unchanged became) (range_with_len 0 n)) (all ∙ sym (length-map-range_with_len (second_mark unchanged became) 0 n)) each
  where
    started : length start ≡ n
    started = ap length begun ∙ length-map-range_with_len (λ k. OnlySecond) 0 n

    all : length marks ≡ n
    all = longer ∙ (long ∙ started)

    each : (i : ℕ) → i < length marks → get_or marks i Hidden ≡ get_or (map (second_mark unchanged became) (range_with_len 0 n)) i Hidden
    each i h =
        let less : i < n = subst (λ k. i < k) all h in
        let in_mid : i < length mid = subst (λ k. i < k) longer h in
        let in_start : i < length start = subst (λ k. i < k) long in_mid in
        second i in_mid
        ∙ (ap (λ x. if is_reached unchanged.to i then Hidden else x)
        (first i in_start ∙ ap (λ x. if is_reached became.to i then After else x) (ap (λ ms. get_or ms i Hidden) begun ∙ get_or-map-range_with_len (λ k. OnlySecond) 0 n i i Hidden less (omega arith)))
        ∙ sym (get_or-map-range_with_len (second_mark unchanged became) 0 n i i Hidden less (omega arith)))
