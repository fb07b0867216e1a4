-- Where the plans are the same the text of objects tells of no record.
use Rattle.std.proofs.Common.{◌≡◌, ◌++◌, ◌<◌, ◌&&◌, ◌||◌, ℕ, Bool, true, false, List, [], ◌∷◌, Option, Some, None, ap, ap₂, arith, codes, get_or, if◌then◌else◌, length, ltb, ltb-true, not, refl, subst, sym}
use Rattle.std.specs.List.{flat_map, list_any, range_with_len}
use Rattle.std.proofs.lemmas.Bool.{and_right, or_from}
use Rattle.std.proofs.lemmas.List.FromFn.{get_or-range_with_len, length-range_with_len}
use Rattle.std.proofs.lemmas.Slice.Eq.{bytes_eq-Decides}
use Rattle.edi_line.specs.Bytes.{line_feed}
use Rattle.edi_line.proofs.EachElement.{each_from_places}
use Rattle.edi_record.specs.declared.record.Kind.{Kind}
use Rattle.edi_record.specs.declared.record.Kind.TheVariants.{Pno, Par, Pfe, Fea, Lnk}
use Rattle.edi_schema.specs.Classes.{Classes}
use Rattle.edi_plan.specs.Places.{places_of}
use Rattle.edi_plan.specs.Plans.{PlanData, IsPlace, is_object, record_at}
use Rattle.edi_plan.specs.Sides.{targets}
use Rattle.edi_plan.proofs.PlaceLemmas.{place_of_kind, place_there}
use Rattle.edi_rank.specs.Same.{Same}
use Rattle.edi_compare.specs.Rules.{IsAccepted}
use Rattle.edi_matching.specs.Matchings.{IsTotal}
use Rattle.edi_report.specs.Lines.{charset_change, charset_change_line, charsets_line, is_reached, totals_line, went_to}
use Rattle.edi_report.specs.Reports.{Report, parts_at}
use Rattle.edi_report.specs.declared.parts.DifferingParts.{DifferingParts}
use Rattle.edi_objects.specs.Accounts.{bare_link, bare_link_by, bare_links, first_bare_link, is_told_beside, objects_of, record_line_text, second_bare_link, shapes_of}
use Rattle.edi_objects.specs.Counts.{class_totals}
use Rattle.edi_objects.specs.Differing.{arrives, became_of, bounds_anew, bounds_type, differs_by, is_differing, moved_by, moved_to, outline_differs, same_of}
use Rattle.edi_objects.specs.Elements.{element_text, elements_of, first_element, line_of_element, lone_element, second_element}
use Rattle.edi_objects.specs.LinksOf.{links_of}
use Rattle.edi_objects.specs.Names.{Naming}
use Rattle.edi_objects.specs.Objects.{first_object, has_other_outline, outline_there, second_object}
use Rattle.edi_objects.specs.Telling.{IsSoundReport}
use Rattle.edi_objects.proofs.NothingHidden.{any_none, untouched_silent}
use Rattle.edi_objects.proofs.TextLines.{none_from}
use Rattle.edi_diff.specs.Differences.{IsDifference}
use Rattle.edi_diff.specs.Laws.{TellsOfNone, report_in}
use Rattle.edi_diff.specs.declared.differing.Difference.{Difference}
use Rattle.edi_diff.specs.declared.form.TextForm.{TextForm}
use Rattle.edi_diff.proofs.Carried.{difference_sound}
use Rattle.edi_diff.proofs.Outcomes.{goes_reached}

none_of_any : (test : ℕ → Bool) → ((k : ℕ) → test k ≡ false) → (xs : List ℕ) → list_any test xs ≡ false
none_of_any test none [] = refl
none_of_any test none (x ∷ xs) = or_from (test x) (list_any test xs) (none x) (none_of_any test none xs)

no_outline : (test : ℕ → Bool) → ((k : ℕ) → test k ≡ false) → (p : PlanData) (k : ℕ) → outline_differs test p k ≡ false
no_outline test none p k = or_from (test k) (list_any (bounds_anew test p k) (links_of p k)) (none k) (none_of_any (bounds_anew test p k) one (links_of p k))
  where
    one : (link : ℕ) → bounds_anew test p k link ≡ false
    one link = and_right (bounds_type (record_at p link).role (record_at p k).kind) (test link || list_any test (targets (record_at p link)))
        (or_from (test link) (list_any test (targets (record_at p link))) (none link) (none_of_any test none (targets (record_at p link))))

text_none : (f : ℕ → List ℕ) (kind : Kind) (p : PlanData) → ((k : ℕ) → IsPlace p k → (record_at p k).kind ≡ kind → f k ≡ []) → flat_map f (places_of kind p) ≡ []
text_none f kind p each = none_from f (places_of kind p) (each_from_places (λ (k : ℕ). f k ≡ []) (places_of kind p) 0 (λ m h. each (get_or (places_of kind p) m 0) (place_there kind p m h) (place_of_kind kind p m h)))

none_any_within : (test : ℕ → Bool) (n : ℕ) → ((i : ℕ) → i < n → test i ≡ false) → list_any test (range_with_len 0 n) ≡ false
none_any_within test n none = any_none test (range_with_len 0 n) (each_from_places (λ (i : ℕ). test i ≡ false) (range_with_len 0 n) 0 (λ k h.
    let less : k < n = omega (arith, h, length-range_with_len 0 n) in
    let at : get_or (range_with_len 0 n) k 0 ≡ k = omega (arith, get_or-range_with_len 0 n k 0 less) in
    subst (λ (i : ℕ). test i ≡ false) (sym at) (none k less)))

-- where no record of the first sheet differs and none of the second is new
module _ (n : Naming) (r : Report) (sound : IsSoundReport r) (rests : (i : ℕ) → is_differing r i ≡ false) (stays : (j : ℕ) → arrives r j ≡ false)
    (went : (i : ℕ) → IsPlace r.first.accepted i → (j : ℕ) × (became_of r i ≡ Some j)) (reached : (j : ℕ) → IsPlace r.second.accepted j → is_reached r.became j ≡ true) (charset : charsets_line r ≡ []) where
  no_other_outline : (k : ℕ) → has_other_outline r k ≡ false
  unfolding has_other_outline
  no_other_outline k = and_right (not (is_object (record_at r.first.accepted k).kind)) (outline_differs (is_differing r) r.first.accepted k || outline_there r (became_of r k))
      (or_from (outline_differs (is_differing r) r.first.accepted k) (outline_there r (became_of r k)) (no_outline (is_differing r) rests r.first.accepted k) (beyond (became_of r k)))
    where
      beyond : (o : Option ℕ) → outline_there r o ≡ false
      beyond None = refl
      beyond (Some j) = no_outline (arrives r) stays r.second.accepted j

  old_object : (i : ℕ) → IsPlace r.first.accepted i → (record_at r.first.accepted i).kind ≡ Fea → first_object n r i ≡ []
  old_object i there is = untouched_silent n r sound i there (went i there).0 (went i there).1
      (record { itself = rests i; links = λ link names. rests link; outlines = λ link other names its. no_other_outline other; new_links = λ link names. stays link })

  new_object : (j : ℕ) → IsPlace r.second.accepted j → (record_at r.second.accepted j).kind ≡ Fea → second_object n r j ≡ []
  new_object j there is = ap (λ (b : Bool). if b then [] else codes "+ " ++ element_text n r.second j ++ line_feed ∷ []) (reached j there)

  old_element : (kind : Kind) (i : ℕ) → IsPlace r.first.accepted i → (record_at r.first.accepted i).kind ≡ kind → first_element n r i ≡ []
  old_element kind i there is = ap (λ (b : Bool). if b then line_of_element n r i (became_of r i) else []) (rests i)

  new_element : (kind : Kind) (j : ℕ) → IsPlace r.second.accepted j → (record_at r.second.accepted j).kind ≡ kind → second_element n r j ≡ []
  new_element kind j there is = ap (λ (b : Bool). if b then [] else lone_element (codes "+ ") n r.second j) (reached j there)

  old_link : (i : ℕ) → IsPlace r.first.accepted i → (record_at r.first.accepted i).kind ≡ Lnk → first_bare_link n r i ≡ []
  old_link i there is = ap (λ (b : Bool). if b then (if is_told_beside (is_differing r) r.first.accepted i then [] else bare_link_by n r i (became_of r i)) else []) (rests i)

  new_link : (j : ℕ) → IsPlace r.second.accepted j → (record_at r.second.accepted j).kind ≡ Lnk → second_bare_link n r j ≡ []
  new_link j there is = ap (λ (b : Bool). if b || is_told_beside (arrives r) r.second.accepted j then [] else codes "+ " ++ bare_link n r.second j ++ record_line_text r.second j) (reached j there)

  both_texts : (f g : ℕ → List ℕ) (kind : Kind) → ((i : ℕ) → IsPlace r.first.accepted i → (record_at r.first.accepted i).kind ≡ kind → f i ≡ [])
      → ((j : ℕ) → IsPlace r.second.accepted j → (record_at r.second.accepted j).kind ≡ kind → g j ≡ []) → flat_map f (places_of kind r.first.accepted) ++ flat_map g (places_of kind r.second.accepted) ≡ []
  both_texts f g kind old new = ap₂ (λ (xs ys : List ℕ). xs ++ ys) (text_none f kind r.first.accepted old) (text_none g kind r.second.accepted new)

  no_elements : (kind : Kind) → elements_of n r kind ≡ []
  no_elements kind = both_texts (first_element n r) (second_element n r) kind (old_element kind) (new_element kind)

  pub tells_of_none : TellsOfNone n r
  tells_of_none =
      let objects = both_texts (first_object n r) (second_object n r) Fea old_object new_object in
      let shapes : shapes_of n r ≡ [] = ap₂ (λ (xs ys : List ℕ). xs ++ ys) (ap₂ (λ (xs ys : List ℕ). xs ++ ys) (no_elements Pfe) (no_elements Par)) (no_elements Pno) in
      let links = both_texts (first_bare_link n r) (second_bare_link n r) Lnk old_link new_link in
      let front : charsets_line r ++ objects_of n r ++ shapes_of n r ++ bare_links n r ≡ [] =
      ap₂ (λ (xs ys : List ℕ). xs ++ ys) (ap₂ (λ (xs ys : List ℕ). xs ++ ys) (ap₂ (λ (xs ys : List ℕ). xs ++ ys) charset objects) shapes) links in
      ap (λ (xs : List ℕ). xs ++ class_totals n r ++ codes "records: " ++ totals_line r) front

same_charset_line : (one other : Option (List ℕ)) → other ≡ one → charset_change_line one other ≡ []
same_charset_line None None e = refl
same_charset_line (Some a) None e = absurd cc
same_charset_line None (Some b) e = absurd cc
same_charset_line (Some a) (Some b) e = let one : a ≡ b = cc in ap (λ (t : Bool). if t then [] else charset_change a b) ((bytes_eq-Decides a b).1 one)

differs_not : (same : Option ℕ) (j : ℕ) (went : Option ℕ) (parts : DifferingParts) → same ≡ Some j → differs_by same went parts ≡ false
differs_not None j went parts e = absurd cc
differs_not (Some k) j went parts e = refl

moves_not : (same : Option ℕ) (j : ℕ) (went : Option ℕ) (parts : DifferingParts) → same ≡ Some j → moved_by same went parts ≡ None
moves_not None j went parts e = absurd cc
moves_not (Some k) j went parts e = refl

pub silent_if_same : (n : Naming) (s : Classes) (a b : List ℕ) (form : TextForm) (found : Difference) → IsAccepted s a → IsAccepted s b → (d : IsDifference s a b form found) → Same s d.first.accepted d.second.accepted
    → TellsOfNone n (report_in s a b form found d)
silent_if_same n s a b form found accepted accepted' d same = tells_of_none n r sound rests stays went reached (same_charset_line p.cse q.cse total.1)
  where
    r : Report
    r = report_in s a b form found d

    p : PlanData
    p = d.first.accepted

    q : PlanData
    q = d.second.accepted

    sound : IsSoundReport r
    sound = difference_sound s a b form found accepted accepted' d

    total : IsTotal p q d.unchanged × (q.cse ≡ p.cse)
    total = d.total.1 same

    rests : (i : ℕ) → is_differing r i ≡ false
    rests i = go (ltb i (length p.list)) refl
      where
        go : (t : Bool) → ltb i (length p.list) ≡ t → (t && differs_by (same_of r i) (became_of r i) (parts_at r.parts i)) ≡ false
        go true less = let w = total.0.each i (ltb-true i (length p.list) less) in differs_not (same_of r i) w.0 (became_of r i) (parts_at r.parts i) w.1
        go false more = refl

    went : (i : ℕ) → IsPlace p i → (j : ℕ) × (became_of r i ≡ Some j)
    went i there = let w = total.0.each i there in (w.0, d.is_text.changes.keeps i w.0 w.1)

    reached : (j : ℕ) → IsPlace q j → is_reached r.became j ≡ true
    reached j there = let w = total.0.onto j there in goes_reached d.is_text.became.to w.0 j (d.is_text.changes.keeps w.0 j w.1)

    unmoved : (j : ℕ) → list_any (λ (i : ℕ). went_to j (moved_to r i)) (range_with_len 0 (length r.became)) ≡ false
    unmoved j = none_any_within (λ (i : ℕ). went_to j (moved_to r i)) (length r.became)
        (λ i h. let w = total.0.each i (subst (λ (m : ℕ). i < m) d.is_text.changes.all_entered h) in ap (went_to j) (moves_not (same_of r i) w.0 (became_of r i) (parts_at r.parts i) w.1))

    stays : (j : ℕ) → arrives r j ≡ false
    stays j = go (ltb j (length q.list)) refl
      where
        go : (t : Bool) → ltb j (length q.list) ≡ t → (t && (not (is_reached r.became j) || list_any (λ (i : ℕ). went_to j (moved_to r i)) (range_with_len 0 (length r.became)))) ≡ false
        go true less = or_from (not (is_reached r.became j)) (list_any (λ (i : ℕ). went_to j (moved_to r i)) (range_with_len 0 (length r.became))) (ap not (reached j (ltb-true j (length q.list) less))) (unmoved j)
        go false more = refl
