-- What is written line by line, and marked place by place.
use Rattle.std.proofs.Common.{◌≡◌, ℕ, ◌+◌, ◌<◌, Bool, ◌||◌, false, not, List, [], ◌∷◌, ◌++◌, append_assoc, codes, length, take, get_or, map, count_by, Option, None, sym, ap, ◌∙◌, subst, arith}
use Rattle.std.specs.List.{flat_map, list_any, range_with_len}
use Rattle.std.proofs.Math.Bool.{or-false}
use Rattle.std.proofs.lemmas.List.{ext_get_or, flat_map_more, take_more}
use Rattle.std.proofs.lemmas.List.Folds.{list_any-append}
use Rattle.std.proofs.lemmas.List.FromFn.{get_or-map-range_with_len, length-map-range_with_len}
use Rattle.edi_record.specs.declared.record.Kind.{Kind}
use Rattle.edi_plan.specs.Places.{places_of}
use Rattle.edi_plan.specs.Plans.{PlanData, IsPlace}
use Rattle.edi_plan.proofs.PlaceLemmas.{place_there}
use Rattle.edi_rank.proofs.KeysPreserved.{count_by-map}
use Rattle.edi_line.specs.Bytes.{line_feed}
use Rattle.edi_report.specs.Lines.{added_count, changed_count, counted, gone_count, is_reached, totals_line, went_to}
use Rattle.edi_report.specs.Reports.{Report}
use Rattle.edi_report.specs.Tables.{AreMarks}

-- one line more
pub lines_more : (f : ℕ → List ℕ) (xs old text new : List ℕ) (k : ℕ) → k < length xs → text ≡ old ++ flat_map f (take k xs) → new ≡ text ++ f (get_or xs k 0) → new ≡ old ++ flat_map f (take (k + 1) xs)
lines_more f xs old text new k less done more =
    more ∙ (ap (λ t. t ++ f (get_or xs k 0)) done ∙ (flat_map_more f old (take k xs) (get_or xs k 0) ∙ ap (λ ys. old ++ flat_map f ys) (sym (take_more xs k 0 less))))

-- the places of a type are places
pub places_there : (kind : Kind) (p : PlanData) (places : List ℕ) (k : ℕ) → places ≡ places_of kind p → k < length places → IsPlace p (get_or places k 0)
places_there kind p places k is less =
    subst (λ (ps : List ℕ). IsPlace p (get_or ps k 0)) (sym is) (place_there kind p k (subst (λ (ps : List ℕ). k < length ps) is less))

-- the places that the first k records went to are marked
pub record MarkedSoFar (became : List (Option ℕ)) (n : ℕ) (marks : List Bool) (k : ℕ) : Type 0 where
  pub long : length marks ≡ n
  pub each : (j : ℕ) → j < n → get_or marks j false ≡ is_reached (take k became) j

one_test : (j : ℕ) (w : Option ℕ) → list_any (went_to j) (w ∷ []) ≡ went_to j w
one_test j w = or-false (went_to j w)

pub marked_more : (became : List (Option ℕ)) (n k : ℕ) (marks new : List Bool) (w : Option ℕ) → k < length became → w ≡ get_or became k None → MarkedSoFar became n marks k
    → length new ≡ length marks → ((j : ℕ) → j < length marks → get_or new j false ≡ (get_or marks j false || went_to j w)) → MarkedSoFar became n new (k + 1)
marked_more became n k marks new w less is done long each = record {
  long = long ∙ done.long;
  each = λ j h.
      each j (subst (λ (m : ℕ). j < m) (sym done.long) h)
      ∙ (ap (λ b. b || went_to j w) (done.each j h)
      ∙ (ap (λ b. list_any (went_to j) (take k became) || b) (sym (one_test j w))
      ∙ (sym (list_any-append (went_to j) (take k became) (w ∷ []))
      ∙ ap (list_any (went_to j)) (ap (λ v. take k became ++ v ∷ []) is ∙ sym (take_more became k None less)))));
}

-- the marks are what they say of each place
pub marks_are : (became : List (Option ℕ)) (n : ℕ) (marks : List Bool) → AreMarks became n marks → marks ≡ map (is_reached became) (range_with_len 0 n)
marks_are became n marks are = ext_get_or false marks (map (is_reached became) (range_with_len 0 n)) (are.long ∙ sym (length-map-range_with_len (is_reached became) 0 n))
    (λ i h. let less : i < n = omega (arith, are.long, h) in are.each i less ∙ sym (get_or-map-range_with_len (is_reached became) 0 n i i false less (omega arith)))

pub added_counted : (became : List (Option ℕ)) (n : ℕ) (marks : List Bool) → AreMarks became n marks → count_by not marks ≡ count_by (λ j. not (is_reached became j)) (range_with_len 0 n)
added_counted became n marks are = ap (count_by not) (marks_are became n marks are) ∙ count_by-map not (is_reached became) (range_with_len 0 n)

-- ---- counts

pub counts_joined : (r : Report) (old t u v : List ℕ) (gone added changed : ℕ) → gone ≡ gone_count r → added ≡ added_count r → changed ≡ changed_count r
    → t ≡ old ++ counted gone (codes " only in A, ") → u ≡ t ++ counted added (codes " only in B, ") → v ≡ u ++ counted changed (codes " changed" ++ line_feed ∷ [])
    → v ≡ old ++ totals_line r
counts_joined r old t u v gone added changed is_gone is_added is_changed first second third =
    let a = counted (gone_count r) (codes " only in A, ") in
    let b = counted (added_count r) (codes " only in B, ") in
    let d = counted (changed_count r) (codes " changed" ++ line_feed ∷ []) in
    let one : t ≡ old ++ a = first ∙ ap (λ n. old ++ counted n (codes " only in A, ")) is_gone in
    let two : u ≡ (old ++ a) ++ b = second ∙ (ap (λ x. x ++ counted added (codes " only in B, ")) one ∙ ap (λ n. (old ++ a) ++ counted n (codes " only in B, ")) is_added) in
    third ∙ (ap (λ x. x ++ counted changed (codes " changed" ++ line_feed ∷ [])) two ∙ (ap (λ n. ((old ++ a) ++ b) ++ counted n (codes " changed" ++ line_feed ∷ [])) is_changed
    ∙ (ap (λ x. x ++ d) (append_assoc old a b) ∙ append_assoc old (a ++ b) d)))
