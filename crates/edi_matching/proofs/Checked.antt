-- A matching holds exactly if what is asked of each record holds.
use Rattle.std.proofs.Common.{◌≡◌, ◌↔◌, ℕ, ◌+◌, ◌<◌, Bool, true, IsTrue, List, ◌∷◌, drop, length, Option, Some, Result, Ok, Err, IfOk, get_or, sym, ap, ◌∙◌, subst, arith, add-one, drop-cons}
use Rattle.std.specs.List.{AllByRecursion}
use Rattle.edi_record.specs.declared.record.Kind.TheVariants.{Par}
use Rattle.edi_schema.specs.Classes.{Classes}
use Rattle.edi_plan.specs.Plans.{PlanData, IsPlace, record_at}
use Rattle.edi_plan.specs.declared.record.PlanEnd.{PlanEnd}
use Rattle.edi_rank.specs.Labelling.{turned_at}
use Rattle.edi_matching.specs.Matchings.{GoesTo, IsMatched, MatchingHolds}
use Rattle.edi_matching.specs.inner.Marks.{GoApart}
use Rattle.edi_matching.specs.inner.Proposals.{ProposedMatching, HoldsAt, IsCarriedOnto, proposal_of}
use Rattle.edi_matching.specs.declared.matching.Matching.{Matching}
use Rattle.edi_matching.proofs.Totals.{goes_within}

-- one end more
pub matched_more : (to : List (Option ℕ)) (ends : List PlanEnd) (i : ℕ) (x : PlanEnd) → i < length ends → x ≡ get_or ends i x → IsMatched to x.target
    → (AllByRecursion (λ e. IsMatched to e.target) (drop i ends) ↔ AllByRecursion (λ e. IsMatched to e.target) ends)
    → AllByRecursion (λ e. IsMatched to e.target) (drop (i + 1) ends) ↔ AllByRecursion (λ e. IsMatched to e.target) ends
matched_more to ends i x h is matched all = (λ left. all.0 (back (here, left)), λ whole. (forth (all.1 whole)).1)
  where
    All : List PlanEnd → Type 0
    All = AllByRecursion (λ (e : PlanEnd). IsMatched to e.target)

    split : drop i ends ≡ get_or ends i x ∷ drop (i + 1) ends
    split = drop-cons ends i x h ∙ ap (λ k. get_or ends i x ∷ drop k ends) (sym (add-one i))

    here : IsMatched to (get_or ends i x).target
    here = subst (λ (e : PlanEnd). IsMatched to e.target) is matched

    back : IsMatched to (get_or ends i x).target × AllByRecursion (λ e. IsMatched to e.target) (drop (i + 1) ends) → AllByRecursion (λ e. IsMatched to e.target) (drop i ends)
    back both = subst (AllByRecursion (λ (e : PlanEnd). IsMatched to e.target)) (sym split) both

    forth : AllByRecursion (λ e. IsMatched to e.target) (drop i ends) → IsMatched to (get_or ends i x).target × AllByRecursion (λ e. IsMatched to e.target) (drop (i + 1) ends)
    forth some = subst (AllByRecursion (λ (e : PlanEnd). IsMatched to e.target)) split some

-- what is asked of a record that goes somewhere

pub holds_known : {E : Type 0} (m : ProposedMatching) (i j : ℕ) → GoesTo m.to i j → (turned_at m.turned i ≡ true → (record_at m.plan i).kind ≡ Par)
    → AllByRecursion (λ e. IsMatched m.to e.target) (record_at m.plan i).ends → (r : Result Bool E)
    → IfOk r (λ answer. IsTrue answer ↔ IsCarriedOnto m i j) → IfOk r (λ answer. IsTrue answer ↔ HoldsAt m i)
holds_known m i j goes arc ends (Err e) contents = tt
holds_known m i j goes arc ends (Ok answer) contents = (λ t. holds (contents.0 t), λ h. contents.1 (h.carries j goes))
  where
    one : (k : ℕ) → GoesTo m.to i k → j ≡ k
    one k e = let f : Some j ≡ Some k = sym goes ∙ e in cc

    holds : IsCarriedOnto m i j → HoldsAt m i
    holds carried = record {
      arc = λ e. ((j, goes), arc e);
      ends = λ k e. ends;
      carries = λ k e. subst (IsCarriedOnto m i) (one k e) carried;
    }

-- all of them

module _ (s : Classes) (p q : PlanData) (m : Matching) where
  all_hold : length m.to ≡ length p.list → length m.turned ≡ length p.list → GoApart m.to (length q.list)
      → ((i : ℕ) → IsPlace p i → HoldsAt (proposal_of s p q m) i) → MatchingHolds s p q m
  all_hold entered directed apart each = record {
    all_entered = entered;
    all_directed = directed;
    within = apart.within;
    apart = apart.apart;
    arcs = λ i h. (each i h).arc;
    ends = λ i j e. (each i (place i j e)).ends j e;
    each = λ i j e. (each i (place i j e)).carries j e;
  }
    where
      place : (i j : ℕ) → GoesTo m.to i j → IsPlace p i
      place i j e = let less = goes_within m.to i j e in omega (arith, less, entered)

  each_holds : MatchingHolds s p q m → (i : ℕ) → IsPlace p i → HoldsAt (proposal_of s p q m) i
  each_holds holds i h = record { arc = holds.arcs i h; ends = holds.ends i; carries = holds.each i }

  pub all_reported : {E : Type 0} → length m.to ≡ length p.list → length m.turned ≡ length p.list → GoApart m.to (length q.list) → (r : Result Bool E)
      → IfOk r (λ answer. IsTrue answer ↔ ((i : ℕ) → IsPlace p i → HoldsAt (proposal_of s p q m) i)) → IfOk r (λ answer. IsTrue answer ↔ MatchingHolds s p q m)
  all_reported entered directed apart (Err e) contents = tt
  all_reported entered directed apart (Ok answer) contents = (λ t. all_hold entered directed apart (contents.0 t), λ holds. contents.1 (each_holds holds))
