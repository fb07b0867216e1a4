-- Matchings as changes, and what leaves nothing out.
use Rattle.std.proofs.Common.{◌≡◌, ℕ, zero, suc, ◌<◌, Bool, ◌||◌, true, false, IsTrue, List, [], ◌∷◌, length, get_or, Option, None, Some, refl, sym, ap, ◌∙◌, subst, eq-eqb}
use Rattle.std.proofs.lemmas.Bool.{eqb-true, or_left, or_right}
use Rattle.std.specs.Option.{is_some}
use Rattle.edi_schema.specs.Classes.{Classes}
use Rattle.edi_plan.specs.Plans.{PlanData}
use Rattle.edi_matching.specs.Matchings.{GoesTo, IsMatched, IsTotal, MatchingHolds}
use Rattle.edi_matching.specs.declared.matching.Matching.{Matching}
use Rattle.edi_report.specs.Lines.{is_reached, went_to}
use Rattle.edi_report.specs.Reports.{HasSites, Report}
use Rattle.edi_report.specs.declared.parts.DifferingParts.{DifferingParts}
use Rattle.edi_report.specs.declared.sheet.LocatedSheet.{LocatedSheet}
use Rattle.edi_report.specs.Tables.{AreMarks, IsFitting}
use Rattle.edi_diff.specs.Changes.{AreChanges, ArePartsOfEach}
use Rattle.edi_diff.specs.Differences.{IsDifferenceText, report_by}
use Rattle.edi_diff.specs.declared.form.TextForm.{TextForm}
use Rattle.edi_diff.specs.Forms.{IsReadByForm, text_of_form}

-- nothing but the records that are the same
pub no_changes : (s : Classes) (p q : PlanData) (m : Matching) → MatchingHolds s p q m → AreChanges p q m m
no_changes s p q m h = record {
  all_entered = h.all_entered;
  all_directed = h.all_directed;
  keeps = λ i j goes. goes;
  directions = λ i matched. refl;
  arcs = λ i place turned. (h.arcs i place turned).1;
  turns = λ i j left goes. absurd (left (j, goes));
  within = h.within;
  apart = h.apart;
  types = λ i j goes. (h.each i j goes).kind;
}

pub fits : (first second : LocatedSheet) (unchanged became : Matching) (parts : List DifferingParts) → HasSites first → HasSites second → length unchanged.to ≡ length first.accepted.list
    → AreChanges first.accepted second.accepted unchanged became → IsFitting (record { first = first; second = second; unchanged = unchanged.to; became = became.to; parts = parts })
fits first second unchanged became parts here there long are = record {
  first_sites = here;
  second_sites = there;
  all_unchanged = long;
  all_became = are.all_entered;
  within = are.within;
}

-- ---- what leaves nothing out

pub goes_reached : (to : List (Option ℕ)) (i j : ℕ) → GoesTo to i j → is_reached to j ≡ true
goes_reached [] i j e = cc
goes_reached (None ∷ to) zero j e = cc
goes_reached (Some k ∷ to) zero j e = let same : k ≡ j = cc in or_left (went_to j (Some k)) (is_reached to j) (eq-eqb k j same)
goes_reached (x ∷ to) (suc i) j e = or_right (went_to j x) (is_reached to j) (goes_reached to i j e)

here_or_there : (k : ℕ) (to : List (Option ℕ)) (j : ℕ) → (is_reached to j ≡ true → (i : ℕ) × GoesTo to i j) → is_reached (Some k ∷ to) j ≡ true → (i : ℕ) × GoesTo (Some k ∷ to) i j
here_or_there k to j more e = go (went_to j (Some k)) refl e
  where
    go : (b : Bool) → went_to j (Some k) ≡ b → (b || is_reached to j) ≡ true → (i : ℕ) × GoesTo (Some k ∷ to) i j
    go true is h = (zero, ap Some (eqb-true k j is))
    go false is h = let w = more h in (suc w.0, w.1)

pub reached_goes : (to : List (Option ℕ)) (j : ℕ) → is_reached to j ≡ true → (i : ℕ) × GoesTo to i j
reached_goes [] j e = cc
reached_goes (None ∷ to) j e = let w = reached_goes to j e in (suc w.0, w.1)
reached_goes (Some k ∷ to) j e = here_or_there k to j (reached_goes to j) e

pub total_reported : (p q : PlanData) (m : Matching) (marks : List Bool) → length m.to ≡ length p.list → AreMarks m.to (length q.list) marks
    → ((i : ℕ) → i < length m.to → IsMatched m.to i) → ((j : ℕ) → j < length marks → get_or marks j false ≡ true) → IsTotal p q m
total_reported p q m marks long are went marked = record {
  each = λ i h. went i (subst (λ (n : ℕ). i < n) (sym long) h);
  onto = λ j h. reached_goes m.to j (sym (are.each j h) ∙ marked j (subst (λ (n : ℕ). j < n) (sym are.long) h));
}

pub total_went : (p q : PlanData) (m : Matching) → length m.to ≡ length p.list → IsTotal p q m → (i : ℕ) → i < length m.to → IsMatched m.to i
total_went p q m long total i h = total.each i (subst (λ (n : ℕ). i < n) long h)

pub total_marked : (p q : PlanData) (m : Matching) (marks : List Bool) → AreMarks m.to (length q.list) marks → IsTotal p q m → (j : ℕ) → j < length marks → get_or marks j false ≡ true
total_marked p q m marks are total j h =
    let less : j < length q.list = subst (λ (n : ℕ). j < n) are.long h in
    let w = total.onto j less in
    are.each j less ∙ goes_reached m.to w.0 j w.1

-- ---- the text

pub text_by : (s : Classes) (first second : LocatedSheet) (m became : Matching) (parts : List DifferingParts) (form : TextForm) (text : List ℕ)
    (unchanged went : List (Option ℕ)) (reported_parts : List DifferingParts) → AreChanges first.accepted second.accepted m became → ArePartsOfEach s first.accepted second.accepted m became parts
    → unchanged ≡ m.to → went ≡ became.to → reported_parts ≡ parts
    → text ≡ text_of_form s form (record { first = first; second = second; unchanged = unchanged; became = went; parts = reported_parts })
    → IsReadByForm form (record { first = first; second = second; unchanged = unchanged; became = went; parts = reported_parts }) text
    → (x : IsDifferenceText s first second m form text) × (x.became ≡ became)
text_by s first second m became parts form text unchanged went reported_parts are are_parts is_kept is_went is_parts reporter read =
    let told : List (Option ℕ) → List (Option ℕ) → List DifferingParts → Report = λ kept to ps. record { first = first; second = second; unchanged = kept; became = to; parts = ps } in
    let same : told unchanged went reported_parts ≡ report_by first second m became parts =
    ap (λ to. told to went reported_parts) is_kept ∙ (ap (λ to. told m.to to reported_parts) is_went ∙ ap (λ ps. told m.to became.to ps) is_parts) in (
      record {
        became = became;
        parts = parts;
        changes = are;
        are_parts = are_parts;
        is_text = reporter ∙ ap (text_of_form s form) same;
        is_read = subst (λ (r : Report). IsReadByForm form r text) same read;
      },
      refl,
    )

pub none_gone : (o : Option ℕ) (j : ℕ) → o ≡ Some j → is_some o ≡ false → ⊥
none_gone None j is none = cc
none_gone (Some k) j is none = cc

pub all_matched : (to others : List (Option ℕ)) → others ≡ to → ((i : ℕ) → i < length to → IsMatched to i) → (i : ℕ) → i < length others → IsMatched others i
all_matched to others same h = subst (λ (xs : List (Option ℕ)). (i : ℕ) → i < length xs → IsMatched xs i) (sym same) h

pub not_true : (b : Bool) → b ≡ false → IsTrue b → ⊥
not_true true e t = cc
not_true false e t = cc
