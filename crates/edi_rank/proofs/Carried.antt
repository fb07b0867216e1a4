-- What carries one plan onto another is determined by its values at the places of the first.
use Rattle.std.proofs.Common.{◌≡◌, ℕ, ◌<◌, Bool, List, [], ◌∷◌, length, Some, option_map, refl, sym, ap, ◌∙◌, subst, IsPermutation}
use Rattle.std.specs.List.{AllByRecursion}
use Rattle.edi_schema.specs.Classes.{Classes}
use Rattle.edi_plan.specs.Plans.{PlanData, IsPlace, record_at, first_of, others_of}
use Rattle.edi_plan.specs.Whole.{IsWholePlan}
use Rattle.edi_plan.specs.declared.record.PlanRecord.{PlanRecord}
use Rattle.edi_plan.specs.declared.record.PlanEnd.{PlanEnd}
use Rattle.edi_rank.specs.Laws.{IsPlanUnder}
use Rattle.edi_rank.specs.Same.{has_turned_arc, directed, moved, CarriesRecord, Carries}
use Rattle.edi_rank.proofs.SameLaws.{differ, after, passes_alike, map_alike, all_others, from, from-to, carries_back, carries_on}

moved_alike : (to on : ℕ → ℕ) (n : ℕ) → ((k : ℕ) → k < n → to k ≡ on k) → (x : PlanEnd) → x.target < n → moved to x ≡ moved on x
moved_alike to on n same x h = ap (λ k. record { target = k; sns = x.sns }) (same x.target h)

origin_alike : (to on : ℕ → ℕ) (n : ℕ) → ((k : ℕ) → k < n → to k ≡ on k) → (xs : List PlanEnd) → AllByRecursion (λ x. x.target < n) xs
    → option_map (moved to) (first_of xs) ≡ option_map (moved on) (first_of xs)
origin_alike to on n same [] h = refl
origin_alike to on n same (x ∷ xs) h = ap Some (moved_alike to on n same x h.0)

record_alike : (s : Classes) (to on : ℕ → ℕ) (turned turned' : ℕ → Bool) (n : ℕ) → ((k : ℕ) → k < n → to k ≡ on k) → ((k : ℕ) → k < n → turned k ≡ turned' k)
    → (i : ℕ) (a b : PlanRecord) → AllByRecursion (λ x. x.target < n) a.ends → turned i ≡ turned' i → CarriesRecord s to turned i a b → CarriesRecord s on turned' i a b
record_alike s to on turned turned' n same same' i a b there here c = record {
  kind = c.kind;
  attributes = c.attributes;
  extras = c.extras;
  class = c.class ∙ ap (λ t. after s a.role t a.class) tests;
  points = c.points ∙ ap (λ t. directed t a.points) here;
  origin = c.origin ∙ origin_alike to on n same a.ends there;
  others = subst (λ xs. IsPermutation xs (others_of b))
      (map_alike (λ (x : PlanEnd). x.target < n) (moved to) (moved on) (moved_alike to on n same) (others_of a) (all_others _ a.ends there)) c.others;
}
  where
    tests : has_turned_arc turned a ≡ has_turned_arc turned' a
    tests = passes_alike (λ (x : PlanEnd). x.target < n) (λ x. turned x.target) (λ x. turned' x.target) (λ x h. same' x.target h) a.ends there

-- maps with the same values carry the same
pub carries_alike : (s : Classes) (p q : PlanData) → IsWholePlan p → (to on : ℕ → ℕ) (turned turned' : ℕ → Bool)
    → ((i : ℕ) → IsPlace p i → to i ≡ on i) → ((i : ℕ) → IsPlace p i → turned i ≡ turned' i) → Carries s to turned p q → Carries s on turned' p q
carries_alike s p q whole to on turned turned' same same' c = record {
  places = record {
    within = λ i h. subst (λ k. k < length q.list) (same i h) (c.places.within i h);
    apart = λ i k h g e. c.places.apart i k h g (same i h ∙ (e ∙ sym (same k g)));
    onto = λ j h. let w = c.places.onto j h in (w.0, w.1, sym (same w.0 w.1) ∙ w.2);
  };
  arcs = λ i h e. c.arcs i h (same' i h ∙ e);
  cse = c.cse;
  each = λ i h. subst (λ k. CarriesRecord s on turned' i (record_at p i) (record_at q k)) (same i h)
      (record_alike s to on turned turned' (length p.list) same same' i (record_at p i) (record_at q (to i)) (whole.there i h) (same' i h) (c.each i h));
}

-- Of two plans that are carried onto one, the first is carried onto the second by what takes each record to the one with the same image.
pub carries_between : (s : Classes) (p q r : PlanData) → IsPlanUnder s p → IsPlanUnder s q → IsPlanUnder s r → (first second : ℕ → ℕ) (turned turned' : ℕ → Bool)
    → Carries s first turned p r → Carries s second turned' q r → (to : ℕ → ℕ) (flags : ℕ → Bool)
    → ((i : ℕ) → IsPlace p i → IsPlace q (to i)) → ((i : ℕ) → IsPlace p i → second (to i) ≡ first i) → ((i : ℕ) → IsPlace p i → flags i ≡ differ (turned i) (turned' (to i)))
    → Carries s to flags p q
carries_between s p q r under under' under'' first second turned turned' c d to flags there image flag =
    carries_alike s p q under.whole (λ i. back (first i)) to (λ i. differ (turned i) (turned' (back (first i)))) flags
    met (λ i h. ap (λ k. differ (turned i) (turned' k)) (met i h) ∙ sym (flag i h))
    (carries_on s p r q under under'' under' first back turned (λ j. turned' (back j)) c (carries_back s q r under' under'' second turned' d))
  where
    back : ℕ → ℕ
    back = from second (length q.list) (length r.list) d.places

    met : (i : ℕ) → IsPlace p i → back (first i) ≡ to i
    met i h = ap back (sym (image i h)) ∙ from-to second (length q.list) (length r.list) d.places (to i) (there i h)
