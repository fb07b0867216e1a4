-- Marks of the members that follow one with their key.
use Rattle.std.proofs.Common.{◌≡◌, ◌≢◌, ℕ, ◌+◌, ◌-◌, ◌<◌, ◌≤◌, ◌⊎◌, inl, inr, Bool, true, false, true≢false, List, [], ◌∷◌, length, get_or, set, sym, ap, ◌∙◌, subst, arith, length-set, All, Ordering, Equal}
use Rattle.std.proofs.lemmas.Bool.{cases_eq}
use Rattle.edi_topo.specs.Marks.{AreMarksOf}
use Rattle.edi_topo.specs.inner.Keyed.{FollowsItsKey}
use Rattle.edi_topo.proofs.Marked.{marked}

-- an element of a list that has one
element : {X : Type 0} (xs : List X) → 0 < length xs → X
element [] h = absurd (omega arith)
element (x ∷ xs) h = x

module _ {K : Type 0} (cmp : K → K → Ordering) (pairs : List (K × ℕ)) where
  -- the member at a place is one of the marks
  pub member_fits : (i : ℕ) → i < length pairs → All (λ pair. pair.1 < length pairs) pairs → (member : ℕ) → ((d : K × ℕ) → (get_or pairs i d).1 ≡ member) → member < length pairs
  member_fits i here within member is = let d = element pairs (omega (arith, here)) in subst (λ k. k < length pairs) (is d) (within i d here)

  pub none_marked : (marks : List Bool) → length marks ≡ length pairs → ((m : ℕ) → get_or marks m false ≡ false) → AreMarksOf (length pairs) (FollowsItsKey cmp pairs 1) marks
  none_marked marks long none = record {
    all = long;
    each = λ m. (λ t. absurd (true≢false (sym t ∙ none m)), λ r. absurd (omega (arith, r.seen)));
  }

  -- a place more
  more : (i m : ℕ) → FollowsItsKey cmp pairs i m → FollowsItsKey cmp pairs (i + 1) m
  more i m r = record { place = r.place; within = r.within; seen = omega (arith, r.seen); repeats = r.repeats; is = r.is }

  fewer : (i m : ℕ) (r : FollowsItsKey cmp pairs (i + 1) m) → r.place + 1 ≢ i → FollowsItsKey cmp pairs i m
  fewer i m r apart = record { place = r.place; within = r.within; seen = below (r.place + 1) r.seen apart; repeats = r.repeats; is = r.is }
    where
      below : (k : ℕ) → k < i + 1 → k ≢ i → k < i
      below k h ne = grind arith

  module _ (i : ℕ) (low : 1 ≤ i) (here : i < length pairs) (marks : List Bool) (before : AreMarksOf (length pairs) (FollowsItsKey cmp pairs i) marks) where
    back : (k : ℕ) → k + 1 ≡ i → k ≡ i - 1
    back k e = omega (arith, e)

    pub not_marked : ((d : K × ℕ) → cmp (get_or pairs (i - 1) d).0 (get_or pairs i d).0 ≢ Equal) → AreMarksOf (length pairs) (FollowsItsKey cmp pairs (i + 1)) marks
    not_marked apart = record { all = before.all; each = λ m. (λ t. more i m ((before.each m).0 t), λ r. (before.each m).1 (fewer i m r (elsewhere m r))) }
      where
        d : K × ℕ
        d = element pairs (omega (arith, here))

        elsewhere : (m : ℕ) (r : FollowsItsKey cmp pairs (i + 1) m) → r.place + 1 ≢ i
        elsewhere m r e = apart d (subst (λ j. cmp (get_or pairs (i - 1) d).0 (get_or pairs j d).0 ≡ Equal) e
            (subst (λ j. cmp (get_or pairs j d).0 (get_or pairs (r.place + 1) d).0 ≡ Equal) (back r.place e) (r.repeats d)))

    pub one_marked : (member : ℕ) → ((d : K × ℕ) → cmp (get_or pairs (i - 1) d).0 (get_or pairs i d).0 ≡ Equal) → ((d : K × ℕ) → (get_or pairs i d).1 ≡ member) → member < length pairs
        → AreMarksOf (length pairs) (FollowsItsKey cmp pairs (i + 1)) (set marks member true)
    one_marked member tied is fits = record {
      all = length-set marks member true ∙ before.all;
      each = λ m. let both = marked marks member m (omega (arith, before.all, fits)) in (λ t. there m (both.0 t), λ r. both.1 (onto m r (cases_eq (r.place + 1) i)));
    }
      where
        round : i - 1 + 1 ≡ i
        round = omega arith

        new : FollowsItsKey cmp pairs (i + 1) member
        new = record {
          place = i - 1;
          within = omega (arith, here);
          seen = omega arith;
          repeats = λ d. subst (λ j. cmp (get_or pairs (i - 1) d).0 (get_or pairs j d).0 ≡ Equal) (sym round) (tied d);
          is = λ d. ap (λ j. (get_or pairs j d).1) round ∙ is d;
        }

        there : (m : ℕ) → (get_or marks m false ≡ true) ⊎ (m ≡ member) → FollowsItsKey cmp pairs (i + 1) m
        there m (inl t) = more i m ((before.each m).0 t)
        there m (inr e) = subst (FollowsItsKey cmp pairs (i + 1)) (sym e) new

        onto : (m : ℕ) (r : FollowsItsKey cmp pairs (i + 1) m) → (r.place + 1 ≡ i) ⊎ (r.place + 1 ≡ i → ⊥) → (get_or marks m false ≡ true) ⊎ (m ≡ member)
        onto m r (inl e) = let d = element pairs (omega (arith, here)) in inr (sym (r.is d) ∙ (ap (λ j. (get_or pairs j d).1) e ∙ is d))
        onto m r (inr ne) = inl ((before.each m).1 (fewer i m r ne))

  -- past the last place none is left
  pub all_marked : (i : ℕ) → length pairs ≤ i → (marks : List Bool) → AreMarksOf (length pairs) (FollowsItsKey cmp pairs i) marks → AreMarksOf (length pairs) (FollowsItsKey cmp pairs (length pairs)) marks
  all_marked i past marks are = record {
    all = are.all;
    each = λ m. (
      λ t. let r = (are.each m).0 t in record { place = r.place; within = r.within; seen = r.within; repeats = r.repeats; is = r.is },
      λ r. (are.each m).1 (record { place = r.place; within = r.within; seen = omega (arith, r.within, past); repeats = r.repeats; is = r.is }),
    );
  }
