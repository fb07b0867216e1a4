-- What became of the records carries those that don't differ.
use Rattle.std.proofs.Common.{◌≡◌, ◌∙◌, ◌&&◌, ◌||◌, ℕ, Bool, true, false, List, [], ◌∷◌, Option, Some, None, IsPermutation, ap, ap₂, get_or, if◌then◌else◌, length, lt-ltb, map, option_map, refl, slice_index, subst, sym, true≢false}
use Rattle.std.specs.List.{AllByRecursion, list_any}
use Rattle.std.proofs.lemmas.Bool.{or_parts}
use Rattle.std.proofs.lemmas.List.Sorted.{IsPermutation-refl}
use Rattle.edi_line.proofs.EachElement.{each_weaker}
use Rattle.edi_schema.specs.Classes.{Classes, partner_of}
use Rattle.edi_schema.specs.Roles.{is_plain}
use Rattle.edi_plan.specs.Plans.{PlanData, IsPlace, first_of, record_at, rest_of}
use Rattle.edi_plan.specs.Whole.{IsWholePlan}
use Rattle.edi_plan.specs.declared.record.PlanEnd.{PlanEnd}
use Rattle.edi_plan.specs.declared.record.PlanRecord.{PlanRecord}
use Rattle.edi_plan.proofs.Built.{plans_whole}
use Rattle.edi_rank.specs.Labelling.{turned_at}
use Rattle.edi_rank.specs.Same.{CarriesRecord, directed, moved}
use Rattle.edi_compare.proofs.Headline.{records_hold, references_hold}
use Rattle.edi_compare.proofs.Phases.{sheet_whole}
use Rattle.edi_compare.specs.PlanOfFile.{IsPlanOfFile}
use Rattle.edi_compare.specs.Rules.{IsAccepted}
use Rattle.edi_matching.specs.Matchings.{GoesTo, IsMatched, MatchingHolds, targets_of}
use Rattle.edi_matching.specs.declared.matching.Matching.{Matching}
use Rattle.edi_matching.proofs.RecordsAdded.{carried_later}
use Rattle.edi_report.specs.Lines.{some_differ}
use Rattle.edi_report.specs.Reports.{parts_at}
use Rattle.edi_report.specs.declared.parts.DifferingParts.{DifferingParts}
use Rattle.edi_report.specs.declared.sheet.LocatedSheet.{LocatedSheet}
use Rattle.edi_objects.specs.Differing.{differs_by, is_differing}
use Rattle.edi_objects.specs.Telling.{AreSoundParts, IsSoundReport}
use Rattle.edi_objects.proofs.NothingHidden.{hides_nothing}
use Rattle.edi_diff.specs.Changes.{AreChangedParts, AreChanges, ArePartsOfEach, HasEndsOf}
use Rattle.edi_diff.specs.Differences.{IsDifference, report_by}
use Rattle.edi_diff.specs.Laws.{GoesUnchanged, RestIsCarried, TextHidesNothing, report_in}
use Rattle.edi_diff.specs.declared.differing.Difference.{Difference}
use Rattle.edi_diff.specs.declared.form.TextForm.{TextForm}

-- ---- the report is sound

none_directed : (turned : Bool) → directed turned [] ≡ []
none_directed true = refl
none_directed false = refl

endless : (m : Matching) (a b : PlanRecord) → a.ends ≡ [] → b.ends ≡ [] → HasEndsOf m a b
endless m a b p q = record {
  all = subst (λ (es : List PlanEnd). AllByRecursion (λ e. IsMatched m.to e.target) es) (sym p) tt;
  origin = ap (λ (es : List PlanEnd). first_of es) q ∙ sym (ap (λ (es : List PlanEnd). option_map (moved (slice_index (targets_of m.to))) (first_of es)) p);
  others = subst (λ (es : List PlanEnd). IsPermutation (map (moved (slice_index (targets_of m.to))) (rest_of es)) (rest_of b.ends)) (sym p)
      (subst (λ (es : List PlanEnd). IsPermutation [] (rest_of es)) (sym q) (IsPermutation-refl []));
}

parts_sound : (s : Classes) (m : Matching) (i : ℕ) (a b : PlanRecord) (parts : DifferingParts) → AreChangedParts s m i a b parts → AreSoundParts a b parts
parts_sound s m i a b parts are = record {
  attributes = λ said same. true≢false (sym said ∙ are.attributes.1 same);
  points = λ p q. are.points.1 (q ∙ sym (ap (directed (turned_at m.turned i)) p ∙ none_directed (turned_at m.turned i)));
  ends = λ p q. are.ends.1 (endless m a b p q);
}

unmatched : (to : List (Option ℕ)) (i : ℕ) → get_or to i None ≡ None → ¬ (IsMatched to i)
unmatched to i none matched = let e = sym none ∙ matched.1 in cc

pub report_sound : (s : Classes) (first second : LocatedSheet) (unchanged became : Matching) (parts : List DifferingParts) → IsWholePlan first.accepted → IsWholePlan second.accepted
    → AreChanges first.accepted second.accepted unchanged became → ArePartsOfEach s first.accepted second.accepted unchanged became parts → IsSoundReport (report_by first second unchanged became parts)
report_sound s first second unchanged became parts whole whole' are each = record {
  first_whole = whole;
  second_whole = whole';
  all_became = are.all_entered;
  within = are.within;
  types = are.types;
  parts = λ i j same went. parts_sound s became i (record_at first.accepted i) (record_at second.accepted j) (parts_at parts i) (each i j (unmatched unchanged.to i same) went);
}

accepted_whole : (s : Classes) (b : List ℕ) (p : PlanData) → IsAccepted s b → IsPlanOfFile s b p → IsWholePlan p
accepted_whole s b p accepted states = plans_whole s states.0 p states.2 (sheet_whole s b (records_hold s b accepted) states.0 states.1) (references_hold s b accepted states.0 states.1)

pub difference_sound : (s : Classes) (a b : List ℕ) (form : TextForm) (found : Difference) → IsAccepted s a → IsAccepted s b → (d : IsDifference s a b form found) → IsSoundReport (report_in s a b form found d)
difference_sound s a b form found accepted accepted' d =
    report_sound s d.first d.second d.unchanged d.is_text.became d.is_text.parts (accepted_whole s a d.first.accepted accepted d.is_first.plan) (accepted_whole s b d.second.accepted accepted' d.is_second.plan)
    d.is_text.changes d.is_text.are_parts

pub hidden_by_none : TextHidesNothing
hidden_by_none n s a b form found accepted accepted' d = hides_nothing n (report_in s a b form found d) (difference_sound s a b form found accepted accepted' d)

-- ---- records that don't differ

arcs_alike : (t u : ℕ → Bool) (xs : List PlanEnd) → AllByRecursion (λ (e : PlanEnd). t e.target ≡ u e.target) xs → list_any (λ (e : PlanEnd). t e.target) xs ≡ list_any (λ (e : PlanEnd). u e.target) xs
arcs_alike t u [] all = refl
arcs_alike t u (x ∷ xs) all = ap₂ (λ (a b : Bool). a || b) all.0 (arcs_alike t u xs all.1)

-- a record is carried under all reversals that agree on it and on what it names
carried_turned : (s : Classes) (to : ℕ → ℕ) (t u : ℕ → Bool) (i : ℕ) (a b : PlanRecord) → t i ≡ u i → AllByRecursion (λ (e : PlanEnd). t e.target ≡ u e.target) a.ends → CarriesRecord s to t i a b → CarriesRecord s to u i a b
carried_turned s to t u i a b same all c = record {
  kind = c.kind;
  attributes = c.attributes;
  extras = c.extras;
  class = c.class ∙ ap (λ (turned : Bool). if is_plain a.role then a.class else (if turned then partner_of s a.class else a.class)) (arcs_alike t u a.ends all);
  points = c.points ∙ ap (λ (turned : Bool). directed turned a.points) same;
  origin = c.origin;
  others = c.others;
}

module _ (s : Classes) (first second : LocatedSheet) (unchanged became : Matching) (parts : List DifferingParts) (holds : MatchingHolds s first.accepted second.accepted unchanged)
    (are : AreChanges first.accepted second.accepted unchanged became) (each : ArePartsOfEach s first.accepted second.accepted unchanged became parts) where
  abbrev p : PlanData
  p = first.accepted

  abbrev q : PlanData
  q = second.accepted

  matched_carried : (i j : ℕ) → GoesTo unchanged.to i j → GoesUnchanged s p q became i
  matched_carried i j goes = record {
    target = j;
    goes = are.keeps i j goes;
    carried = carried_later s unchanged.to became.to are.keeps (turned_at became.turned) i (record_at p i) (record_at q j) (holds.ends i j goes)
        (carried_turned s (slice_index (targets_of unchanged.to)) (turned_at unchanged.turned) (turned_at became.turned) i (record_at p i) (record_at q j) (sym (are.directions i (j, goes)))
        (each_weaker (λ (e : PlanEnd). IsMatched unchanged.to e.target) (λ (e : PlanEnd). turned_at unchanged.turned e.target ≡ turned_at became.turned e.target)
        (λ e matched. sym (are.directions e.target matched)) (record_at p i).ends (holds.ends i j goes)) (holds.each i j goes));
  }

  changed_carried : (i j : ℕ) → ¬ (IsMatched unchanged.to i) → GoesTo became.to i j → some_differ (parts_at parts i) ≡ false → GoesUnchanged s p q became i
  changed_carried i j free goes none =
      let its = parts_at parts i in
      let class = or_parts its.class (its.attributes || (its.extras || (its.points || its.ends))) none in
      let attributes = or_parts its.attributes (its.extras || (its.points || its.ends)) class.1 in
      let extras = or_parts its.extras (its.points || its.ends) attributes.1 in
      let points = or_parts its.points its.ends extras.1 in
      let has = each i j free goes in
      let ends = has.ends.0 points.1 in
      record {
        target = j;
        goes = goes;
        carried = record {
          kind = are.types i j goes;
          attributes = has.attributes.0 attributes.0;
          extras = has.extras.0 extras.0;
          class = has.class.0 class.0;
          points = has.points.0 points.0;
          origin = ends.origin;
          others = ends.others;
        };
      }

  carried_by : (i : ℕ) (same went : Option ℕ) → get_or unchanged.to i None ≡ same → get_or became.to i None ≡ went → differs_by same went (parts_at parts i) ≡ false → GoesUnchanged s p q became i
  carried_by i (Some j) went is to none = matched_carried i j is
  carried_by i None None is to none = absurd (true≢false none)
  carried_by i None (Some j) is to none = changed_carried i j (unmatched unchanged.to i is) to none

  pub unless_differing : (i : ℕ) → IsPlace p i → is_differing (report_by first second unchanged became parts) i ≡ false → GoesUnchanged s p q became i
  unless_differing i place none =
      let r = report_by first second unchanged became parts in
      carried_by i (get_or unchanged.to i None) (get_or became.to i None) refl refl
      (sym (ap (λ (b : Bool). b && differs_by (get_or unchanged.to i None) (get_or became.to i None) (parts_at parts i)) (lt-ltb i (length p.list) place)) ∙ none)

pub rest_carried : RestIsCarried
rest_carried s a b form found d i place none =
    unless_differing s d.first d.second d.unchanged d.is_text.became d.is_text.parts d.holds d.is_text.changes d.is_text.are_parts i place none
