-- One change more.
use Rattle.std.proofs.Common.{◌≡◌, ◌≢◌, ℕ, zero, suc, ◌<◌, [], ◌∷◌, ◌⊎◌, inl, inr, Bool, true, false, true≢false, List, Option, None, Some, length, get_or, set, refl, sym, ap, ◌∙◌, subst, arith}
use Rattle.std.proofs.lemmas.Bool.{cases_eq}
use Rattle.std.proofs.lemmas.List.{get_or-set_other, get_or-set_same, length-set}
use Rattle.edi_record.specs.declared.record.Kind.TheVariants.{Par}
use Rattle.std.specs.Option.{is_some}
use Rattle.edi_schema.specs.Classes.{Classes}
use Rattle.edi_plan.specs.Plans.{PlanData, IsPlace, record_at}
use Rattle.edi_matching.specs.Matchings.{GoesTo, IsMatched, MatchingHolds}
use Rattle.edi_matching.specs.declared.matching.Matching.{Matching}
use Rattle.edi_report.specs.Lines.{is_reached}
use Rattle.edi_report.specs.Tables.{AreMarks}
use Rattle.edi_diff.specs.Changes.{AreChanges}
use Rattle.edi_diff.specs.Directions.{RunsBackwards}
use Rattle.edi_diff.specs.inner.Steps.{AreSteps, MayGo}
use Rattle.edi_diff.proofs.Outcomes.{goes_reached, no_changes, reached_goes}

module _ (p q : PlanData) (unchanged : Matching) (to : List (Option ℕ)) (turned reached : List Bool) (are : AreSteps p q unchanged to turned reached)
    (i j : ℕ) (t : Bool) (may : MayGo p q i j) (arc : t ≡ true → (record_at p i).kind ≡ Par)
    (turn : (record_at p i).kind ≡ Par → RunsBackwards (record_at p i).points (record_at q j).points t) (free : get_or to i None ≡ None) (unmet : get_or reached j false ≡ false) where
  here : i < length to
  here = subst (λ (n : ℕ). i < n) (sym are.changes.all_entered) may.here

  here_turned : i < length turned
  here_turned = subst (λ (n : ℕ). i < n) (sym are.changes.all_directed) may.here

  nowhere : (k l : ℕ) → k ≡ i → GoesTo to k l → ⊥
  nowhere k l same goes = let f : get_or to i None ≡ Some l = ap (λ m. get_or to m None) (sym same) ∙ goes in cc

  -- nothing went to the place
  unreached : (k : ℕ) → GoesTo to k j → ⊥
  unreached k goes = true≢false (sym (goes_reached to k j goes) ∙ (sym (are.marks.each j may.there) ∙ unmet))

  new_other : (k : ℕ) → k ≢ i → get_or (set to i (Some j)) k None ≡ get_or to k None
  new_other k ne = get_or-set_other to i k (Some j) None ne

  new_here : get_or (set to i (Some j)) i None ≡ Some j
  new_here = get_or-set_same to i (Some j) None here

  pub went_before : (k l : ℕ) → GoesTo to k l → GoesTo (set to i (Some j)) k l
  went_before k l goes = new_other k (λ same. nowhere k l same goes) ∙ goes

  pub went_after : (k l : ℕ) → GoesTo (set to i (Some j)) k l → ((k ≡ i) × (l ≡ j)) ⊎ GoesTo to k l
  went_after k l goes = go (cases_eq k i)
    where
      go : (k ≡ i) ⊎ (k ≡ i → ⊥) → ((k ≡ i) × (l ≡ j)) ⊎ GoesTo to k l
      go (inl same) = let e : Some j ≡ Some l = sym new_here ∙ (ap (λ m. get_or (set to i (Some j)) m None) (sym same) ∙ goes) in inl (same, cc)
      go (inr ne) = inr (sym (new_other k ne) ∙ goes)

  apart_more : (k m l : ℕ) → ((k ≡ i) × (l ≡ j)) ⊎ GoesTo to k l → ((m ≡ i) × (l ≡ j)) ⊎ GoesTo to m l → k ≡ m
  apart_more k m l (inl a) (inl b) = a.0 ∙ sym b.0
  apart_more k m l (inl a) (inr b) = absurd (unreached m (subst (λ (x : ℕ). GoesTo to m x) a.1 b))
  apart_more k m l (inr a) (inl b) = absurd (unreached k (subst (λ (x : ℕ). GoesTo to k x) b.1 a))
  apart_more k m l (inr a) (inr b) = are.changes.apart k m l a b

  within_more : (k l : ℕ) → ((k ≡ i) × (l ≡ j)) ⊎ GoesTo to k l → IsPlace q l
  within_more k l (inl a) = subst (λ (x : ℕ). IsPlace q x) (sym a.1) may.there
  within_more k l (inr a) = are.changes.within k l a

  types_more : (k l : ℕ) → ((k ≡ i) × (l ≡ j)) ⊎ GoesTo to k l → (record_at q l).kind ≡ (record_at p k).kind
  types_more k l (inl a) = ap (λ x. (record_at q x).kind) a.1 ∙ (may.type ∙ ap (λ x. (record_at p x).kind) (sym a.0))
  types_more k l (inr a) = are.changes.types k l a

  turned_other : (k : ℕ) → k ≢ i → get_or (set turned i t) k false ≡ get_or turned k false
  turned_other k ne = get_or-set_other turned i k t false ne

  arcs_more : (k : ℕ) → IsPlace p k → get_or (set turned i t) k false ≡ true → (k ≡ i) ⊎ (k ≡ i → ⊥) → (record_at p k).kind ≡ Par
  arcs_more k place is (inl same) =
      let there : get_or (set turned i t) i false ≡ true = ap (λ x. get_or (set turned i t) x false) (sym same) ∙ is in
      ap (λ x. (record_at p x).kind) same ∙ arc (sym (get_or-set_same turned i t false here_turned) ∙ there)
  arcs_more k place is (inr ne) = are.changes.arcs k place (sym (turned_other k ne) ∙ is)

  turns_more : (k l : ℕ) → ¬ (IsMatched unchanged.to k) → ((k ≡ i) × (l ≡ j)) ⊎ GoesTo to k l → (record_at p k).kind ≡ Par
      → RunsBackwards (record_at p k).points (record_at q l).points (get_or (set turned i t) k false)
  turns_more k l left (inl a) par =
      subst (λ (m : ℕ). RunsBackwards (record_at p m).points (record_at q l).points (get_or (set turned i t) m false)) (sym a.0)
      (subst (λ (m : ℕ). RunsBackwards (record_at p i).points (record_at q m).points (get_or (set turned i t) i false)) (sym a.1)
      (subst (λ (b : Bool). RunsBackwards (record_at p i).points (record_at q j).points b) (sym (get_or-set_same turned i t false here_turned))
      (turn (ap (λ m. (record_at p m).kind) (sym a.0) ∙ par))))
  turns_more k l left (inr a) par =
      subst (λ (b : Bool). RunsBackwards (record_at p k).points (record_at q l).points b) (sym (turned_other k (λ same. nowhere k l same a)))
      (are.changes.turns k l left a par)

  pub changed_more : AreChanges p q unchanged (record { to = set to i (Some j); turned = set turned i t })
  changed_more = record {
    all_entered = length-set to i (Some j) ∙ are.changes.all_entered;
    all_directed = length-set turned i t ∙ are.changes.all_directed;
    keeps = λ k l goes. went_before k l (are.changes.keeps k l goes);
    directions = λ k matched. turned_other k (λ same. nowhere k matched.0 same (are.changes.keeps k matched.0 matched.1)) ∙ are.changes.directions k matched;
    arcs = λ k place is. arcs_more k place is (cases_eq k i);
    turns = λ k l left goes. turns_more k l left (went_after k l goes);
    within = λ k l goes. within_more k l (went_after k l goes);
    apart = λ k m l a b. apart_more k m l (went_after k l a) (went_after m l b);
    types = λ k l goes. types_more k l (went_after k l goes);
  }

  there : j < length reached
  there = subst (λ (n : ℕ). j < n) (sym are.marks.long) may.there

  same_truth : (a b : Bool) → (a ≡ true → b ≡ true) → (b ≡ true → a ≡ true) → a ≡ b
  same_truth true b f g = sym (f refl)
  same_truth false true f g = g refl
  same_truth false false f g = refl

  mark_true : (l : ℕ) → l < length q.list → (l ≡ j) ⊎ (l ≡ j → ⊥) → get_or (set reached j true) l false ≡ true → is_reached (set to i (Some j)) l ≡ true
  mark_true l less (inl same) e = goes_reached (set to i (Some j)) i l (new_here ∙ ap Some (sym same))
  mark_true l less (inr ne) e =
      let w = reached_goes to l (sym (are.marks.each l less) ∙ (sym (get_or-set_other reached j l true false ne) ∙ e)) in
      goes_reached (set to i (Some j)) w.0 l (went_before w.0 l w.1)

  true_mark : (l : ℕ) → l < length q.list → (l ≡ j) ⊎ (l ≡ j → ⊥) → is_reached (set to i (Some j)) l ≡ true → get_or (set reached j true) l false ≡ true
  true_mark l less (inl same) e = ap (λ x. get_or (set reached j true) x false) same ∙ get_or-set_same reached j true false there
  true_mark l less (inr ne) e = go (went_after w.0 l w.1)
    where
      w : (k : ℕ) × GoesTo (set to i (Some j)) k l
      w = reached_goes (set to i (Some j)) l e

      go : ((w.0 ≡ i) × (l ≡ j)) ⊎ GoesTo to w.0 l → get_or (set reached j true) l false ≡ true
      go (inl a) = absurd (ne a.1)
      go (inr a) = get_or-set_other reached j l true false ne ∙ (are.marks.each l less ∙ goes_reached to w.0 l a)

  pub one_step : AreSteps p q unchanged (set to i (Some j)) (set turned i t) (set reached j true)
  one_step = record {
    changes = changed_more;
    marks = record {
      long = length-set reached j true ∙ are.marks.long;
      each = λ l less. same_truth (get_or (set reached j true) l false) (is_reached (set to i (Some j)) l) (mark_true l less (cases_eq l j)) (true_mark l less (cases_eq l j));
    };
  }

pub none_there : (o : Option ℕ) → is_some o ≡ false → o ≡ None
none_there None none = refl
none_there (Some j) none = cc

pub no_steps : (s : Classes) (p q : PlanData) (unchanged : Matching) (to : List (Option ℕ)) (turned reached : List Bool) → MatchingHolds s p q unchanged
    → to ≡ unchanged.to → turned ≡ unchanged.turned → AreMarks unchanged.to (length q.list) reached → AreSteps p q unchanged to turned reached
no_steps s p q unchanged to turned reached h is_to is_turned marks = record {
  changes = subst (λ (ts : List Bool). AreChanges p q unchanged (record { to = to; turned = ts })) (sym is_turned)
      (subst (λ (os : List (Option ℕ)). AreChanges p q unchanged (record { to = os; turned = unchanged.turned })) (sym is_to) (no_changes s p q unchanged h));
  marks = subst (λ (os : List (Option ℕ)). AreMarks os (length q.list) reached) (sym is_to) marks;
}

same_default : {X : Type 0} (xs : List X) (i : ℕ) (d e : X) → i < length xs → get_or xs i d ≡ get_or xs i e
same_default [] i d e h = absurd (omega arith)
same_default (x ∷ xs) zero d e h = refl
same_default (x ∷ xs) (suc i) d e h = same_default xs i d e (omega arith)

pub free_there : (to : List (Option ℕ)) (i : ℕ) (r : Option ℕ) → i < length to → r ≡ get_or to i r → false ≡ is_some r → get_or to i None ≡ None
free_there to i r less is none = same_default to i None r less ∙ (sym is ∙ none_there r (sym none))

pub unmet_there : (reached : List Bool) (j : ℕ) (r : Bool) → j < length reached → r ≡ get_or reached j r → r ≡ false → get_or reached j false ≡ false
unmet_there reached j r less is none = same_default reached j false r less ∙ (sym is ∙ none)
