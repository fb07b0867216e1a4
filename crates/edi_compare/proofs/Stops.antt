-- Why a pairing doesn't carry, and that it doesn't.
use Rattle.std.proofs.Common.{◌≡◌, ◌≢◌, ℕ, ◌<◌, ◌≤◌, ◌⊎◌, inl, inr, Bool, true, false, true≢false, List, length, slice_index, get_or, refl, sym, ap, ◌∙◌, arith, Option, Some, None, MatchOption, Result, Ok, Err, IfOk}
use Rattle.std.proofs.lemmas.Bool.{cases_lt}
use Rattle.edi_schema.specs.Classes.{Classes}
use Rattle.edi_plan.specs.Plans.{PlanData, IsPlace}
use Rattle.edi_compare.specs.Pairings.{PairingCarries}
use Rattle.edi_compare.specs.Uncarried.{HasEntries}
use Rattle.edi_compare.specs.declared.pairing.Pairing.{Pairing}
use Rattle.edi_compare.specs.declared.uncarried.RecordPart.{RecordPart}
use Rattle.edi_compare.specs.declared.uncarried.RecordPart.TheVariants.{Reversal, Kind, Class, Points, Extras, Attributes, Ends}
use Rattle.edi_compare.specs.declared.uncarried.Uncarried.{Uncarried}
use Rattle.edi_compare.specs.declared.uncarried.Uncarried.TheVariants.{Entries, CharacterSets, Record, Unmet}
use Rattle.edi_compare.specs.declared.uncarried.WrongPartner.TheVariants.{Nowhere, Shared, Unlike}
use Rattle.edi_compare.specs.inner.Checking.{PairedPlans, AgreeAt, AreCarried, AreMarked, IsCarriedAt, FailsBy}

-- ---- where all records of the first plan are carried

module _ (m : PairedPlans) (marks : List Bool) (are : AreMarked (slice_index m.to) marks (length m.other.list) (length m.plan.list)) (each : (i : ℕ) → IsPlace m.plan i → IsCarriedAt m i) where
  pub all_met : ((j : ℕ) → IsPlace m.other j → get_or marks j false ≡ true) → AreCarried m
  all_met all = record { each = each; onto = λ j h. are.found j (all j h) }

  pub one_unmet : (j : ℕ) → IsPlace m.other j → get_or marks j false ≡ false → ((l : ℕ) → l < j → get_or marks l false ≡ true) → FailsBy m (Unmet j)
  one_unmet j there unmarked before = record {
    carried = each;
    there = there;
    unmet = λ i h e. true≢false (sym (are.marked i h) ∙ (ap (λ l. get_or marks l false) e ∙ unmarked));
    before = λ l h. are.found l (before l h);
  }

-- ---- what is found, of the pairing

module _ (s : Classes) (p q : PlanData) (pairing : Pairing) where
  abbrev pub matching_of : PairedPlans
  matching_of = record { classes = s; plan = p; other = q; to = pairing.to; turned = pairing.turned }

  apart : AreCarried matching_of → (i k : ℕ) → IsPlace p i → IsPlace p k → slice_index pairing.to i ≡ slice_index pairing.to k → i ≡ k
  apart h i k there there' e = go (cases_lt i k) (cases_lt k i)
    where
      go : (i < k) ⊎ (k ≤ i) → (k < i) ⊎ (i ≤ k) → i ≡ k
      go (inl less) c = absurd ((h.each k there').alone i less e)
      go (inr b) (inl less) = absurd ((h.each i there).alone k less (sym e))
      go (inr b) (inr c) = omega arith

  pub all_carried : HasEntries p pairing → q.cse ≡ p.cse → AreCarried matching_of → PairingCarries s p q pairing
  all_carried entries cse h = record {
    all_paired = entries.all_paired;
    all_directed = entries.all_directed;
    carries = record {
      places = record { within = λ i l. (h.each i l).within; apart = apart h; onto = h.onto };
      arcs = λ i l. (h.each i l).agrees Reversal;
      cse = cse;
      each = λ i l. let a = (h.each i l).agrees in record {
        kind = a Kind;
        attributes = a Attributes;
        extras = a Extras;
        class = a Class;
        points = a Points;
        origin = (a Ends).0;
        others = (a Ends).1;
      };
    };
  }

  -- a record that is carried agrees with the one that it goes to
  agrees : PairingCarries s p q pairing → (i : ℕ) → IsPlace p i → (part : RecordPart) → AgreeAt matching_of i (slice_index pairing.to i) part
  agrees h i there Reversal = h.carries.arcs i there
  agrees h i there Kind = (h.carries.each i there).kind
  agrees h i there Class = (h.carries.each i there).class
  agrees h i there Points = (h.carries.each i there).points
  agrees h i there Extras = (h.carries.each i there).extras
  agrees h i there Attributes = (h.carries.each i there).attributes
  agrees h i there Ends = ((h.carries.each i there).origin, (h.carries.each i there).others)

  pub stop_denies : (u : Uncarried) → FailsBy matching_of u → ¬ (PairingCarries s p q pairing)
  stop_denies Entries h carries = h
  stop_denies CharacterSets h carries = h
  stop_denies (Record i Nowhere) h carries = let fits : slice_index pairing.to i < length q.list = carries.carries.places.within i h.there in omega (arith, h.wrong, fits)
  stop_denies (Record i (Shared k)) h carries =
      let same : k ≡ i = carries.carries.places.apart k i (omega (arith, h.wrong.1, h.there)) h.there h.wrong.2 in
      omega (arith, h.wrong.1, same)
  stop_denies (Record i (Unlike part)) h carries = h.wrong.2.here (agrees carries i h.there part)
  stop_denies (Unmet j) h carries = let w = carries.carries.places.onto j h.there in h.unmet w.0 w.1 w.2

  pub found : {E : Type 0} (r : Result (Option Uncarried) E) → HasEntries p pairing → q.cse ≡ p.cse → IfOk r (λ why. MatchOption why (AreCarried matching_of) (FailsBy matching_of))
      → IfOk r (λ why. MatchOption why (PairingCarries s p q pairing) (λ _. ¬ (PairingCarries s p q pairing)))
  found (Ok None) entries cse h = all_carried entries cse h
  found (Ok (Some u)) entries cse h = stop_denies u h
  found (Err e) entries cse h = tt

-- what is said where there is no value
pub where_none : {A : Type 0} (o : Option A) (P : Type 0) (Q : A → Type 0) → ((x : A) → o ≢ Some x) → MatchOption o P Q → P
where_none None P Q none h = h
where_none (Some x) P Q none h = absurd (none x refl)
