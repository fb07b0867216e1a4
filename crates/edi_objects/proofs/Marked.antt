-- What is marked of the records of two sheets.
use Rattle.std.proofs.Common.{◌≡◌, ◌∙◌, ◌+◌, ◌<◌, ◌≤◌, ℕ, Bool, true, false, ◌&&◌, ◌||◌, not, List, [], ◌∷◌, ◌++◌, Option, drop, length, map, map-id, get_or, refl, sym, ap, ap₂, arith, ltb, subst, take}
use Rattle.std.specs.List.{flat_map, list_any, range_with_len}
use Rattle.std.proofs.Math.Bool.{or-false}
use Rattle.std.proofs.Math.Path.{fun_ext}
use Rattle.std.proofs.lemmas.Bool.{le-ltb, ltb-false, ltb-true}
use Rattle.std.proofs.lemmas.List.{append-nil, flat_map_more, get_or_past, get_or-map, length-map}
use Rattle.std.proofs.lemmas.List.Folds.{list_any-append}
use Rattle.std.proofs.lemmas.List.FromFn.{get_or-map-range_with_len, length-map-range_with_len, map-range_with_len_more}
use Rattle.edi_line.proofs.Truths.{or_assoc}
use Rattle.edi_report.specs.Lines.{is_reached, went_to}
use Rattle.edi_report.specs.Reports.{Report}
use Rattle.edi_report.specs.Tables.{AreMarks}
use Rattle.edi_objects.specs.Differing.{arrives, is_differing, moved_to, outline_differs}
use Rattle.edi_objects.specs.LinksOf.{index_of}
use Rattle.edi_plan.specs.Plans.{PlanData}
use Rattle.edi_objects.specs.inner.Marks.{is_moved_onto}
use Rattle.edi_objects.specs.declared.account.Notes.{Notes}
use Rattle.edi_objects.specs.inner.Sheets.{AreNotes, AreTested, is_marked_place}

-- one number more
range_more : (k : ℕ) → range_with_len 0 (k + 1) ≡ range_with_len 0 k ++ k ∷ []
range_more k = sym (map-id (range_with_len 0 (k + 1))) ∙ (map-range_with_len_more (λ (i : ℕ). i) 0 k k (omega arith) ∙ ap (λ (xs : List ℕ). xs ++ k ∷ []) (map-id (range_with_len 0 k)))

-- one record more that may have moved
pub onto_more : (r : Report) (k j : ℕ) (old marks new : List Bool) (went : Option ℕ) → get_or marks j false ≡ (get_or old j false || is_moved_onto r k j) → went ≡ moved_to r k
    → get_or new j false ≡ (get_or marks j false || went_to j went) → get_or new j false ≡ (get_or old j false || is_moved_onto r (k + 1) j)
onto_more r k j old marks new went so_far is more =
    let f : ℕ → Bool = λ (i : ℕ). went_to j (moved_to r i) in
    more ∙ (ap₂ (λ (b : Bool) (w : Option ℕ). b || went_to j w) so_far is ∙ (or_assoc (get_or old j false) (is_moved_onto r k j) (f k)
    ∙ ap (λ b. get_or old j false || b)
    (ap (λ b. is_moved_onto r k j || b) (sym (or-false (f k))) ∙ (sym (list_any-append f (range_with_len 0 k) (k ∷ [])) ∙ ap (list_any f) (sym (range_more k))))))

-- one line more, for one number more
pub lines_more : (f : ℕ → List ℕ) (k : ℕ) (old text new : List ℕ) → text ≡ old ++ flat_map f (range_with_len 0 k) → new ≡ text ++ f k → new ≡ old ++ flat_map f (range_with_len 0 (k + 1))
lines_more f k old text new so_far more =
    more ∙ (ap (λ (t : List ℕ). t ++ f k) so_far ∙ (flat_map_more f old (range_with_len 0 k) k ∙ ap (λ (ys : List ℕ). old ++ flat_map f ys) (sym (range_more k))))

-- the notes on a plan
pub notes_are : (test : ℕ → Bool) (p : PlanData) (marks : List Bool) (notes : Notes) → AreTested test (length p.list) marks
    → notes.index.items ≡ index_of p → notes.marks.items ≡ marks
    → notes.outlines.items ≡ map (outline_differs (is_marked_place marks) p) (range_with_len 0 (length p.list)) → AreNotes test p notes
notes_are test p marks notes tested indexed same outlined = record {
  indexed = indexed;
  marked = subst (AreTested test (length p.list)) (sym same) tested;
  outlined = λ i h.
      ap (λ (ms : List Bool). get_or ms i false) outlined
      ∙ (get_or-map-range_with_len (outline_differs (is_marked_place marks) p) 0 (length p.list) i i false h (omega arith)
      ∙ ap (λ (t : ℕ → Bool). outline_differs t p i) (fun_ext tested.each));
}

drop_all : (xs : List Bool) → drop (length xs) xs ≡ []
drop_all [] = refl
drop_all (x ∷ xs) = drop_all xs

take_all : (xs : List Bool) → take (length xs) xs ≡ xs
take_all [] = refl
take_all (x ∷ xs) = ap (λ (ys : List Bool). x ∷ ys) (take_all xs)

-- what was written into a vector's elements
pub written_back : (n : ℕ) (new items : List Bool) → length new ≡ length items → length items ≡ n → take n (new ++ drop (length new) items) ≡ new
written_back n new items same is =
    ap (λ (xs : List Bool). take n (new ++ xs)) (ap (λ k. drop k items) same ∙ drop_all items) ∙ (ap (take n) (append-nil new) ∙ (ap (λ k. take k new) (sym is ∙ sym same) ∙ take_all new))

-- nothing behind the records differs
pub guarded : (b : Bool) (i n : ℕ) → n ≤ i → (ltb i n && b) ≡ false
guarded b i n h = ap (λ c. c && b) (le-ltb i n h)

-- marks that were made from the test, which holds of no place behind them
pub tested_mapped : (test : ℕ → Bool) (n : ℕ) → ((i : ℕ) → n ≤ i → test i ≡ false) → (marks : List Bool) → marks ≡ map test (range_with_len 0 n) → AreTested test n marks
tested_mapped test n none marks is = record {
  long = ap length is ∙ length-map-range_with_len test 0 n;
  each = λ i. ap (λ (ms : List Bool). get_or ms i false) is ∙ each i (ltb i n) refl;
}
  where
    each : (i : ℕ) (b : Bool) → ltb i n ≡ b → get_or (map test (range_with_len 0 n)) i false ≡ test i
    each i true less = get_or-map-range_with_len test 0 n i i false (ltb-true i n less) (omega arith)
    each i false more = get_or_past (map test (range_with_len 0 n)) i false (omega (arith, ltb-false i n more, length-map-range_with_len test 0 n)) ∙ sym (none i (ltb-false i n more))

pub tested_differing : (r : Report) (marks : List Bool) → marks ≡ map (is_differing r) (range_with_len 0 (length r.first.accepted.list)) → AreTested (is_differing r) (length r.first.accepted.list) marks
tested_differing r marks is = tested_mapped (is_differing r) (length r.first.accepted.list) (λ i h. guarded _ i (length r.first.accepted.list) h) marks is

-- marks of those that none became, and of those onto which one moved
pub tested_arriving : (r : Report) (reached free marks : List Bool) → AreMarks r.became (length r.second.accepted.list) reached → free ≡ map not reached → length marks ≡ length free
    → ((j : ℕ) → j < length free → get_or marks j false ≡ (get_or free j false || is_moved_onto r (length r.became) j)) → AreTested (arrives r) (length r.second.accepted.list) marks
tested_arriving r reached free marks are is long each = record {
  long = whole;
  each = λ j. one j (ltb j n) refl;
}
  where
    n : ℕ
    n = length r.second.accepted.list

    all_free : length free ≡ n
    all_free = ap length is ∙ (length-map reached not ∙ are.long)

    whole : length marks ≡ n
    whole = long ∙ all_free

    free_at : (j : ℕ) → j < n → get_or free j false ≡ not (is_reached r.became j)
    free_at j h = ap (λ (ms : List Bool). get_or ms j false) is ∙ (get_or-map not reached j false false (omega (arith, h, are.long)) ∙ ap not (are.each j h))

    one : (j : ℕ) (b : Bool) → ltb j n ≡ b → get_or marks j false ≡ arrives r j
    one j true less =
        let h = ltb-true j n less in
        each j (omega (arith, h, all_free)) ∙ (ap (λ b. b || is_moved_onto r (length r.became) j) (free_at j h)
        ∙ ap (λ b. b && (not (is_reached r.became j) || is_moved_onto r (length r.became) j)) (sym less))
    one j false more = get_or_past marks j false (omega (arith, ltb-false j n more, whole)) ∙ sym (guarded _ j n (ltb-false j n more))
