-- Links that are added to a matching one by one.
use Rattle.std.proofs.Common.{◌≡◌, ℕ, ◌+◌, ◌<◌, ◌≤◌, ◌⊎◌, inl, inr, Bool, true, false, true≢false, List, [], ◌∷◌, Option, None, Some, length, slice_index, get_or, set, sym, ap, ◌∙◌, subst, arith, refl}
use Rattle.std.specs.List.{AllByRecursion}
use Rattle.edi_record.specs.declared.record.Kind.TheVariants.{Lnk}
use Rattle.edi_record.specs.Records.{is_link}
use Rattle.edi_plan.specs.Places.{places_of}
use Rattle.edi_plan.specs.Plans.{IsPlace, record_at}
use Rattle.edi_plan.specs.Whole.{IsWholePlan}
use Rattle.edi_plan.specs.declared.record.PlanEnd.{PlanEnd}
use Rattle.edi_plan.proofs.PlaceLemmas.{has_place}
use Rattle.edi_rank.specs.Labelling.{turned_at}
use Rattle.edi_rank.specs.Same.{CarriesRecord}
use Rattle.edi_matching.specs.Differences.{MatchesLinks}
use Rattle.edi_matching.specs.Matchings.{IsMatched, MatchingHolds, targets_of}
use Rattle.edi_matching.specs.inner.Links.{AreReached, IsFreeFor, matching_so}
use Rattle.edi_matching.specs.inner.Proposals.{ProposedMatching}
use Rattle.edi_matching.proofs.RecordsAdded.{AreAdded, carried_before, last_or, matched_after, none_added, one_added, unmarked, went_here}

-- the links so far were looked at: none that is left has a free one
pub record AreLinksAdded (m : ProposedMatching) (before : List Bool) (to : List (Option ℕ)) (reached : List Bool) (done : ℕ) : Type 0 where
  pub added : AreAdded Lnk m before to reached
  pub none_left : (n i : ℕ) → n < done → get_or (places_of Lnk m.plan) n 0 ≡ i → ¬ (IsMatched to i) → (j : ℕ) → ¬ (IsFreeFor m reached i j)

-- nothing is added yet
pub no_links : (m : ProposedMatching) (reached : List Bool) → MatchingHolds m.classes m.plan m.other (matching_so m m.to) → AreReached m.to (length m.other.list) reached → AreLinksAdded m reached m.to reached 0
no_links m reached holds are = record { added = none_added Lnk m reached holds are; none_left = λ n i h at left j free. absurd (omega (arith, h)) }

-- one link more
module _ (m : ProposedMatching) (before : List Bool) (to : List (Option ℕ)) (reached : List Bool) (done : ℕ) (are : AreLinksAdded m before to reached done) (i : ℕ) (at : get_or (places_of Lnk m.plan) done 0 ≡ i) where
  same_place : (n k : ℕ) → n ≡ done → get_or (places_of Lnk m.plan) n 0 ≡ k → i ≡ k
  same_place n k same there = sym at ∙ (ap (λ x. get_or (places_of Lnk m.plan) x 0) (sym same) ∙ there)

  -- it stays as it is
  pub no_more : (¬ (IsMatched to i) → (j : ℕ) → ¬ (IsFreeFor m reached i j)) → AreLinksAdded m before to reached (done + 1)
  no_more none = record { added = are.added; none_left = λ n k h here left j. go n k (last_or n done h) here left j }
    where
      go : (n k : ℕ) → (n < done) ⊎ (n ≡ done) → get_or (places_of Lnk m.plan) n 0 ≡ k → ¬ (IsMatched to k) → (j : ℕ) → ¬ (IsFreeFor m reached k j)
      go n k (inl less) here left j = are.none_left n k less here left j
      go n k (inr same) here left j =
          let is = same_place n k same here in
          λ missed. none (λ matched. left (subst (IsMatched to) is matched)) j (subst (λ (x : ℕ). IsFreeFor m reached x j) (sym is) missed)

  -- it goes to a free one
  pub one_link : m.targets ≡ targets_of m.to → length m.to ≡ length m.plan.list → IsPlace m.plan i → (record_at m.plan i).kind ≡ Lnk → get_or to i None ≡ None → (j : ℕ) → IsFreeFor m reached i j
      → AreLinksAdded m before (set to i (Some j)) (set reached j true) (done + 1)
  one_link targets entered here link left j missed = record {
    added = one_added Lnk m before to reached are.added targets entered i here link left j missed;
    none_left = λ n k h there alone l. go n k (last_or n done h) there alone l;
  }
    where
      go : (n k : ℕ) → (n < done) ⊎ (n ≡ done) → get_or (places_of Lnk m.plan) n 0 ≡ k → ¬ (IsMatched (set to i (Some j)) k) → (l : ℕ) → ¬ (IsFreeFor m (set reached j true) k l)
      go n k (inl less) there alone l free =
          are.none_left n k less there (λ matched. alone (matched_after Lnk m before to reached are.added targets entered i here link left j missed k matched)) l
          (record { there = free.there; free = unmarked Lnk m before to reached are.added targets entered i here link left j missed l free.free; ends = free.ends; carried = free.carried })
      go n k (inr same) there alone l free =
          alone (subst (IsMatched (set to i (Some j))) (same_place n k same there) (j, went_here Lnk m before to reached are.added targets entered i here link left j missed))

-- all were looked at
pub all_links : (m : ProposedMatching) (before : List Bool) (to : List (Option ℕ)) (reached : List Bool) (done : ℕ) → AreLinksAdded m before to reached done → length (places_of Lnk m.plan) ≤ done
    → IsWholePlan m.plan → m.targets ≡ targets_of m.to → MatchesLinks m.classes m.plan m.other (matching_so m to)
all_links m before to reached done are whole plan targets i j link missed =
    let place = has_place Lnk m.plan i missed.here link in
    are.none_left place.0 i (let h = place.1 in omega (arith, h, whole)) place.2 missed.left j (record {
      there = missed.there;
      free = go (get_or reached j true) refl;
      ends = ends;
      carried = subst (λ (ts : List ℕ). CarriesRecord m.classes (slice_index ts) (turned_at m.turned) i (record_at m.plan i) (record_at m.other j)) (sym targets)
          (carried_before m.classes m.to to are.added.adds.keeps (turned_at m.turned) i (record_at m.plan i) (record_at m.other j) ends missed.carried);
    })
  where
    go : (b : Bool) → get_or reached j true ≡ b → get_or reached j true ≡ false
    go true e = absurd (missed.free (are.added.free j e missed.there))
    go false e = e

    matched_before : (xs : List PlanEnd) → AllByRecursion (λ e. IsMatched to e.target) xs → AllByRecursion (λ e. is_link (record_at m.plan e.target).kind ≡ false) xs
        → AllByRecursion (λ e. IsMatched m.to e.target) xs
    matched_before [] all none = tt
    matched_before (x ∷ xs) all none = (one (are.added.adds.only x.target all.0), matched_before xs all.1 none.1)
      where
        one : IsMatched m.to x.target ⊎ ((record_at m.plan x.target).kind ≡ Lnk) → IsMatched m.to x.target
        one (inl matched) = matched
        one (inr link) = absurd (true≢false (sym (ap is_link link) ∙ none.0))

    ends : AllByRecursion (λ e. IsMatched m.to e.target) (record_at m.plan i).ends
    ends = matched_before (record_at m.plan i).ends missed.ends (plan.no_link i missed.here)
