-- A matching that holds and is total is a pairing that carries, and the other way round.
use Rattle.std.proofs.Common.{◌≡◌, ℕ, zero, suc, ◌<◌, List, [], ◌∷◌, map, map-id, length, slice_index, unwrap_or, Option, None, Some, sym, ap, ◌∙◌, subst, arith}
use Rattle.std.proofs.lemmas.List.{get_or-map, length-map}
use Rattle.edi_line.proofs.EachElement.{each_weaker}
use Rattle.edi_schema.specs.Classes.{Classes}
use Rattle.edi_plan.specs.Plans.{PlanData, IsPlace, record_at}
use Rattle.edi_plan.specs.Whole.{IsWholePlan}
use Rattle.edi_plan.specs.declared.record.PlanEnd.{PlanEnd}
use Rattle.edi_rank.specs.Labelling.{turned_at}
use Rattle.edi_rank.specs.Same.{CarriesRecord}
use Rattle.edi_rank.proofs.SameLaws.{map-map}
use Rattle.edi_compare.specs.Pairings.{PairingCarries}
use Rattle.edi_compare.specs.declared.pairing.Pairing.{Pairing}
use Rattle.edi_matching.specs.Matchings.{GoesTo, IsMatched, MatchingHolds, IsTotal, targets_of}
use Rattle.edi_matching.specs.Laws.{pairing_of, matching_of, TotalIsPairing, PairingIsTotal}
use Rattle.edi_matching.specs.declared.matching.Matching.{Matching}

abbrev target : Option ℕ → ℕ
target o = unwrap_or o 0

abbrev target_some : ℕ → Option ℕ
target_some j = Some j

-- the target of a record is where it goes
pub target_is : (to : List (Option ℕ)) (i j : ℕ) → GoesTo to i j → slice_index (targets_of to) i ≡ j
target_is [] i j e = cc
target_is (o ∷ to) zero j e = ap target e
target_is (o ∷ to) (suc i) j e = target_is to i j e

-- no record past the last goes anywhere
pub goes_within : (to : List (Option ℕ)) (i j : ℕ) → GoesTo to i j → i < length to
goes_within [] i j e = cc
goes_within (o ∷ to) zero j e = omega arith
goes_within (o ∷ to) (suc i) j e = let less = goes_within to i j e in omega arith

module _ (s : Classes) (p q : PlanData) (m : Matching) (holds : MatchingHolds s p q m) (total : IsTotal p q m) where
  goes : (i : ℕ) → IsPlace p i → GoesTo m.to i (slice_index (targets_of m.to) i)
  goes i h = let w = total.each i h in w.1 ∙ ap Some (sym (target_is m.to i w.0 w.1))

  onto : (j : ℕ) → IsPlace q j → (i : ℕ) × (i < length p.list) × (slice_index (targets_of m.to) i ≡ j)
  onto j h =
      let w = total.onto j h in
      let less = goes_within m.to w.0 j w.1 in
      (w.0, omega (arith, less, holds.all_entered), target_is m.to w.0 j w.1)

  pub total_carries : q.cse ≡ p.cse → PairingCarries s p q (pairing_of m)
  total_carries cse = record {
    all_paired = length-map m.to target ∙ holds.all_entered;
    all_directed = holds.all_directed;
    carries = record {
      places = record {
        within = λ i h. holds.within i _ (goes i h);
        apart = λ i k h g e. holds.apart i k _ (goes i h) (goes k g ∙ ap Some (sym e));
        onto = onto;
      };
      arcs = λ i h e. (holds.arcs i h e).1;
      cse = cse;
      each = λ i h. holds.each i _ (goes i h);
    };
  }

pub total_is_pairing : TotalIsPairing
total_is_pairing s p q m holds total cse = total_carries s p q m holds total cse

-- back

targets_back : (to : List ℕ) → targets_of (map Some to) ≡ to
targets_back to = map-map target Some to ∙ map-id to

goes_there : (to : List ℕ) (i : ℕ) → i < length to → GoesTo (map Some to) i (slice_index to i)
goes_there to i h = get_or-map Some to i 0 None h

module _ (s : Classes) (p q : PlanData) (pairing : Pairing) (whole : IsWholePlan p) (c : PairingCarries s p q pairing) where
  abbrev to : List (Option ℕ)
  to = map Some pairing.to

  place : (i j : ℕ) → GoesTo to i j → IsPlace p i
  place i j e = let less = goes_within to i j e in omega (arith, less, length-map pairing.to target_some, c.all_paired)

  is_there : (i j : ℕ) → GoesTo to i j → slice_index pairing.to i ≡ j
  is_there i j e = ap (λ ys. slice_index ys i) (sym (targets_back pairing.to)) ∙ target_is to i j e

  matched : (i : ℕ) → IsPlace p i → IsMatched to i
  matched i h = (slice_index pairing.to i, goes_there pairing.to i (omega (arith, h, c.all_paired)))

  pub pairing_holds : MatchingHolds s p q (matching_of pairing)
  pairing_holds = record {
    all_entered = length-map pairing.to Some ∙ c.all_paired;
    all_directed = c.all_directed;
    within = λ i j e. subst (IsPlace q) (is_there i j e) (c.carries.places.within i (place i j e));
    apart = λ i k j e f. c.carries.places.apart i k (place i j e) (place k j f) (is_there i j e ∙ sym (is_there k j f));
    arcs = λ i h e. (matched i h, c.carries.arcs i h e);
    ends = λ i j e. each_weaker (λ (x : PlanEnd). IsPlace p x.target) (λ (x : PlanEnd). IsMatched to x.target) (λ x h. matched x.target h) (record_at p i).ends (whole.there i (place i j e));
    each = λ i j e. subst (λ k. CarriesRecord s (slice_index (targets_of to)) (turned_at pairing.turned) i (record_at p i) (record_at q k)) (is_there i j e)
        (subst (λ (ys : List ℕ). CarriesRecord s (slice_index ys) (turned_at pairing.turned) i (record_at p i) (record_at q (slice_index pairing.to i))) (sym (targets_back pairing.to)) (c.carries.each i (place i j e)));
  }

  pub pairing_total : IsTotal p q (matching_of pairing)
  pairing_total = record {
    each = matched;
    onto = λ j h. let w = c.carries.places.onto j h in (w.0, goes_there pairing.to w.0 (omega (arith, w.1, c.all_paired)) ∙ ap Some w.2);
  }

pub pairing_is_total : PairingIsTotal
pairing_is_total s p q pairing whole c =
    (pairing_holds s p q pairing whole c, pairing_total s p q pairing whole c, c.carries.cse, λ i. record { to = targets_back pairing.to i; turned = pairing.turned })
