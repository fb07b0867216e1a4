-- Where the text of objects tells of no record the plans are the same.
use Rattle.std.proofs.Common.{◌≡◌, ◌∙◌, ◌++◌, ◌<◌, ℕ, Bool, true, false, List, [], Option, Some, None, ap, bytes_eq, codes, if◌then◌else◌, refl, slice_index, slice_index_or, subst, sym}
use Rattle.std.specs.List.{flat_map}
use Rattle.std.proofs.lemmas.Bool.{false_from_ne_true}
use Rattle.std.proofs.lemmas.List.{append_cancel_right}
use Rattle.std.proofs.lemmas.Slice.Eq.{bytes_eq-Decides}
use Rattle.edi_line.proofs.EachElement.{each_weaker}
use Rattle.edi_record.specs.declared.record.Kind.{Kind}
use Rattle.edi_record.specs.declared.record.Kind.TheVariants.{Pno, Par, Pfe, Fea, Lnk}
use Rattle.edi_schema.specs.Classes.{Classes}
use Rattle.edi_plan.specs.Places.{places_of}
use Rattle.edi_plan.specs.Plans.{PlanData, IsPlace, record_at}
use Rattle.edi_plan.specs.declared.record.PlanEnd.{PlanEnd}
use Rattle.edi_plan.proofs.PlaceLemmas.{has_place}
use Rattle.edi_rank.specs.Labelling.{turned_at}
use Rattle.edi_rank.specs.Same.{CarriesRecord, Same}
use Rattle.edi_compare.specs.Rules.{IsAccepted}
use Rattle.edi_matching.specs.Matchings.{GoesTo, IsMatched, IsTotal, MatchingHolds, targets_of}
use Rattle.edi_matching.specs.declared.matching.Matching.{Matching}
use Rattle.edi_matching.proofs.Totals.{goes_within, total_carries}
use Rattle.edi_report.specs.Lines.{charset_change, charset_change_line, charsets_line, is_reached, totals_line}
use Rattle.edi_report.specs.Reports.{Report}
use Rattle.edi_objects.specs.Accounts.{bare_links, first_bare_link, objects_of, second_bare_link, shapes_of}
use Rattle.edi_objects.specs.Counts.{class_totals}
use Rattle.edi_objects.specs.Differing.{is_differing}
use Rattle.edi_objects.specs.Elements.{elements_of, first_element, second_element}
use Rattle.edi_objects.specs.Names.{Naming}
use Rattle.edi_objects.specs.Objects.{first_object, second_object}
use Rattle.edi_objects.specs.Telling.{FirstIsTold, IsSoundReport, SecondIsTold, by_joined, by_lines, by_object, first_account_by, new_by_joined, new_by_lines, new_by_object, second_account_by}
use Rattle.edi_objects.proofs.AttributeLists.{one_of_all}
use Rattle.edi_objects.proofs.NothingHidden.{differing_told, named_place, new_told, source_place}
use Rattle.edi_objects.proofs.TextLines.{both_none, none_each}
use Rattle.edi_diff.specs.Differences.{IsDifference}
use Rattle.edi_diff.specs.declared.differing.Difference.{Difference}
use Rattle.edi_diff.specs.declared.form.TextForm.{TextForm}
use Rattle.edi_diff.specs.Laws.{GoesUnchanged, TellsOfNone, report_in}
use Rattle.edi_diff.proofs.Carried.{difference_sound, rest_carried}
use Rattle.edi_diff.proofs.Outcomes.{reached_goes}

-- where a text made place by place is none, so is that of each place
place_none : (f : ℕ → List ℕ) (kind : Kind) (p : PlanData) (k : ℕ) → IsPlace p k → (record_at p k).kind ≡ kind → flat_map f (places_of kind p) ≡ [] → f k ≡ []
place_none f kind p k there is none =
    let found = has_place kind p k there is in
    subst (λ (x : ℕ). f x ≡ []) found.2 (one_of_all (λ (x : ℕ). f x ≡ []) (places_of kind p) (none_each f (places_of kind p) none) found.0 0 found.1)

charset_same : (one other : Option (List ℕ)) → charset_change_line one other ≡ [] → other ≡ one
charset_same None None e = refl
charset_same (Some a) None e = absurd cc
charset_same None (Some b) e = absurd cc
charset_same (Some a) (Some b) e = go (bytes_eq a b) refl e
  where
    go : (t : Bool) → bytes_eq a b ≡ t → (if t then [] else charset_change a b) ≡ [] → Some b ≡ Some a
    go true is h = ap Some (sym ((bytes_eq-Decides a b).0 is))
    go false is h = absurd cc

module _ (n : Naming) (r : Report) (sound : IsSoundReport r) (silent : TellsOfNone n r) where
  front : charsets_line r ++ objects_of n r ++ shapes_of n r ++ bare_links n r ≡ []
  front = append_cancel_right (charsets_line r ++ objects_of n r ++ shapes_of n r ++ bare_links n r) [] (class_totals n r)
      (append_cancel_right (charsets_line r ++ objects_of n r ++ shapes_of n r ++ bare_links n r ++ class_totals n r) (class_totals n r) (codes "records: ")
      (append_cancel_right (charsets_line r ++ objects_of n r ++ shapes_of n r ++ bare_links n r ++ class_totals n r ++ codes "records: ") (class_totals n r ++ codes "records: ") (totals_line r) silent))

  parts : (charsets_line r ≡ []) × (objects_of n r ≡ []) × (shapes_of n r ≡ []) × (bare_links n r ≡ [])
  parts =
      let three = both_none (charsets_line r ++ objects_of n r ++ shapes_of n r) (bare_links n r) front in
      let two = both_none (charsets_line r ++ objects_of n r) (shapes_of n r) three.0 in
      let one = both_none (charsets_line r) (objects_of n r) two.0 in
      (one.0, one.1, two.1, three.1)

  elements : (elements_of n r Pfe ≡ []) × (elements_of n r Par ≡ []) × (elements_of n r Pno ≡ [])
  elements =
      let two = both_none (elements_of n r Pfe ++ elements_of n r Par) (elements_of n r Pno) parts.2 in
      let one = both_none (elements_of n r Pfe) (elements_of n r Par) two.0 in
      (one.0, one.1, two.1)

  pub same_charset : r.second.accepted.cse ≡ r.first.accepted.cse
  same_charset = charset_same r.first.accepted.cse r.second.accepted.cse parts.0

  in_first : (f g : ℕ → List ℕ) (kind : Kind) (i : ℕ) → IsPlace r.first.accepted i → (record_at r.first.accepted i).kind ≡ kind
      → flat_map f (places_of kind r.first.accepted) ++ flat_map g (places_of kind r.second.accepted) ≡ [] → f i ≡ []
  in_first f g kind i there is none = place_none f kind r.first.accepted i there is (both_none (flat_map f (places_of kind r.first.accepted)) (flat_map g (places_of kind r.second.accepted)) none).0

  in_second : (f g : ℕ → List ℕ) (kind : Kind) (j : ℕ) → IsPlace r.second.accepted j → (record_at r.second.accepted j).kind ≡ kind
      → flat_map f (places_of kind r.first.accepted) ++ flat_map g (places_of kind r.second.accepted) ≡ [] → g j ≡ []
  in_second f g kind j there is none = place_none g kind r.second.accepted j there is (both_none (flat_map f (places_of kind r.first.accepted)) (flat_map g (places_of kind r.second.accepted)) none).1

  first_none : (i : ℕ) → IsPlace r.first.accepted i → (kind : Kind) → (record_at r.first.accepted i).kind ≡ kind → first_account_by kind n r i ≡ []
  first_none i there Pno is = in_first (first_element n r) (second_element n r) Pno i there is elements.2
  first_none i there Par is = in_first (first_element n r) (second_element n r) Par i there is elements.1
  first_none i there Pfe is = in_first (first_element n r) (second_element n r) Pfe i there is elements.0
  first_none i there Fea is = in_first (first_object n r) (second_object n r) Fea i there is parts.1
  first_none i there Lnk is = in_first (first_bare_link n r) (second_bare_link n r) Lnk i there is parts.3

  second_none : (j : ℕ) → IsPlace r.second.accepted j → (kind : Kind) → (record_at r.second.accepted j).kind ≡ kind → second_account_by kind n r j ≡ []
  second_none j there Pno is = in_second (first_element n r) (second_element n r) Pno j there is elements.2
  second_none j there Par is = in_second (first_element n r) (second_element n r) Par j there is elements.1
  second_none j there Pfe is = in_second (first_element n r) (second_element n r) Pfe j there is elements.0
  second_none j there Fea is = in_second (first_object n r) (second_object n r) Fea j there is parts.1
  second_none j there Lnk is = in_second (first_bare_link n r) (second_bare_link n r) Lnk j there is parts.3

  untold : (i : ℕ) → IsPlace r.first.accepted i → FirstIsTold n r i → ⊥
  untold i there (by_lines lines) = lines.there (first_none i there (record_at r.first.accepted i).kind refl)
  untold i there (by_object object told) =
      told.stands.there (first_none object (named_place r.first.accepted sound.first_whole object i told.names) (record_at r.first.accepted object).kind refl)
  untold i there (by_joined other told) =
      told.stands.there (first_none other (named_place r.first.accepted sound.first_whole other i told.names) (record_at r.first.accepted other).kind refl)

  not_new : (j : ℕ) → IsPlace r.second.accepted j → SecondIsTold n r j → ⊥
  not_new j there (new_by_lines lines) = lines.there (second_none j there (record_at r.second.accepted j).kind refl)
  not_new j there (new_by_object object told) =
      told.stands.there (first_none told.source (source_place n r sound told.source object told.went) (record_at r.first.accepted told.source).kind refl)
  not_new j there (new_by_joined other told) =
      told.stands.there (second_none other (named_place r.second.accepted sound.second_whole other j told.names) (record_at r.second.accepted other).kind refl)

  pub none_differs : (i : ℕ) → IsPlace r.first.accepted i → is_differing r i ≡ false
  none_differs i there = false_from_ne_true (is_differing r i) (λ e. untold i there (differing_told n r sound i there e (record_at r.first.accepted i).kind refl))

  pub none_new : (j : ℕ) → IsPlace r.second.accepted j → is_reached r.became j ≡ true
  none_new j there = go (is_reached r.became j) refl
    where
      go : (b : Bool) → is_reached r.became j ≡ b → b ≡ true
      go true e = refl
      go false e = absurd (not_new j there (new_told n r sound j there e (record_at r.second.accepted j).kind refl))

pub same_if_silent : (n : Naming) (s : Classes) (a b : List ℕ) (form : TextForm) (found : Difference) → IsAccepted s a → IsAccepted s b → (d : IsDifference s a b form found) → TellsOfNone n (report_in s a b form found d)
    → Same s d.first.accepted d.second.accepted
same_if_silent n s a b form found accepted accepted' d silent =
    let carries = total_carries s p q became holds total (same_charset n r sound silent) in
    (slice_index (targets_of became.to), turned_at became.turned, carries.carries)
  where
    r : Report
    r = report_in s a b form found d

    p : PlanData
    p = d.first.accepted

    q : PlanData
    q = d.second.accepted

    became : Matching
    became = d.is_text.became

    sound : IsSoundReport r
    sound = difference_sound s a b form found accepted accepted' d

    carried : (i : ℕ) → IsPlace p i → GoesUnchanged s p q became i
    carried i there = rest_carried s a b form found d i there (none_differs n r sound silent i there)

    matched : (i : ℕ) → IsPlace p i → IsMatched became.to i
    matched i there = let c = carried i there in (c.target, c.goes)

    place : (i j : ℕ) → GoesTo became.to i j → IsPlace p i
    place i j goes = subst (λ (k : ℕ). i < k) d.is_text.changes.all_entered (goes_within became.to i j goes)

    one_target : (o : Option ℕ) (x y : ℕ) → o ≡ Some x → o ≡ Some y → x ≡ y
    one_target o x y e f = let z = sym e ∙ f in cc

    each : (i j : ℕ) → GoesTo became.to i j → CarriesRecord s (slice_index (targets_of became.to)) (turned_at became.turned) i (record_at p i) (record_at q j)
    each i j goes =
        let c = carried i (place i j goes) in
        subst (λ (k : ℕ). CarriesRecord s (slice_index (targets_of became.to)) (turned_at became.turned) i (record_at p i) (record_at q k)) (one_target (slice_index_or became.to i None) c.target j c.goes goes) c.carried

    holds : MatchingHolds s p q became
    holds = record {
      all_entered = d.is_text.changes.all_entered;
      all_directed = d.is_text.changes.all_directed;
      within = d.is_text.changes.within;
      apart = d.is_text.changes.apart;
      arcs = λ i there turned. (matched i there, d.is_text.changes.arcs i there turned);
      ends = λ i j goes. each_weaker (λ (e : PlanEnd). IsPlace p e.target) (λ (e : PlanEnd). IsMatched became.to e.target) (λ e there. matched e.target there) (record_at p i).ends (sound.first_whole.there i (place i j goes));
      each = each;
    }

    total : IsTotal p q became
    total = record { each = matched; onto = λ j there. reached_goes became.to j (none_new n r sound silent j there) }
