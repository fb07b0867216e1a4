-- What a loop over keyed members keeps.
use Rattle.std.proofs.Common.{◌≡◌, ◌≢◌, ℕ, ◌+◌, ◌<◌, ◌≤◌, ◌⊎◌, inl, inr, List, length, get_or, set, Option, Some, None, MatchOption, sym, ap, ◌∙◌, subst, arith, ⊎_elim, ◌-◌, All, AllPairs, Ordering, Equal, get_or-set_same, get_or-set_other}
use Rattle.std.proofs.lemmas.Bool.{cases_eq}
use Rattle.edi_topo.specs.declared.fault.Tied.{Tied}
use Rattle.edi_topo.specs.inner.Keyed.{IsLeastRepeat, IsLeastRepeatIfAny}
use Rattle.std.proofs.lemmas.List.{get_or_read}

pub places_more : {K : Type 0} (pairs : List (K × ℕ)) (numbers : List ℕ) (index : ℕ) (pair : K × ℕ) → index < length pairs → pair ≡ get_or pairs index pair
    → All (λ x. x.1 < length pairs) pairs → AllPairs (λ x y. x.1 ≢ y.1) pairs → length numbers ≡ length pairs
    → ((i : ℕ) (d : K × ℕ) → i < index → get_or numbers (get_or pairs i d).1 0 ≡ i + 1)
    → (i : ℕ) (d : K × ℕ) → i < index + 1 → get_or (set numbers pair.1 (index + 1)) (get_or pairs i d).1 0 ≡ i + 1
places_more {K} pairs numbers index pair here read within apart long before i d h = go (cases_eq i index)
  where
    is : (e : K × ℕ) → pair ≡ get_or pairs index e
    is e = get_or_read pairs index pair here read e

    fits : pair.1 < length numbers
    fits = subst (λ (x : K × ℕ). x.1 < length numbers) (sym (is d)) (omega (arith, within index d here))

    go : (i ≡ index) ⊎ (i ≡ index → ⊥) → get_or (set numbers pair.1 (index + 1)) (get_or pairs i d).1 0 ≡ i + 1
    go (inl e) = subst (λ k. get_or (set numbers pair.1 (index + 1)) (get_or pairs k d).1 0 ≡ k + 1) (sym e)
        (subst (λ (x : K × ℕ). get_or (set numbers pair.1 (index + 1)) x.1 0 ≡ index + 1) (is d) (get_or-set_same numbers pair.1 (index + 1) 0 fits))
    go (inr ne) =
        let other : (get_or pairs i d).1 ≢ pair.1 = λ e. apart i index d (omega arith) here (e ∙ ap (λ (x : K × ℕ). x.1) (is d)) in
        get_or-set_other numbers pair.1 (get_or pairs i d).1 (index + 1) 0 other ∙ before i d (omega arith)

-- a tie at k, for each default
abbrev pub TiedAt : {K : Type 0} → (K → K → Ordering) → List (K × ℕ) → ℕ → Type 0
TiedAt {K} cmp pairs k = (d : K × ℕ) → cmp (get_or pairs k d).0 (get_or pairs (k + 1) d).0 ≡ Equal

module _ {K : Type 0} (cmp : K → K → Ordering) (pairs : List (K × ℕ)) (i : ℕ) (low : 1 ≤ i) (here : i < length pairs) where
  -- k is a place seen before, or the one before i
  cases_seen : (k : ℕ) → k + 1 < i + 1 → (k + 1 < i) ⊎ (k + 1 ≡ i)
  cases_seen k h = grind arith

  at_last : (P : ℕ → Type 0) → P (i - 1 + 1) → P i
  at_last P h = let e : i - 1 + 1 ≡ i = omega arith in subst P e h

  at_place : (P : ℕ → Type 0) (k : ℕ) → k + 1 ≡ i → P (i - 1) → P k
  at_place P k e h = let f : i - 1 ≡ k = omega arith in subst P f h

  pub untied_more : (least : Option Tied) → ((d : K × ℕ) → cmp (get_or pairs (i - 1) d).0 (get_or pairs i d).0 ≡ Equal → ⊥)
      → IsLeastRepeatIfAny cmp pairs i least → IsLeastRepeatIfAny cmp pairs (i + 1) least
  untied_more None apart before = λ k d h e. ⊎_elim (λ less. before k d less e) (λ last. apart d (tied_last k d last e)) (cases_seen k h)
    where
      tied_last : (k : ℕ) (d : K × ℕ) → k + 1 ≡ i → cmp (get_or pairs k d).0 (get_or pairs (k + 1) d).0 ≡ Equal → cmp (get_or pairs (i - 1) d).0 (get_or pairs i d).0 ≡ Equal
      tied_last k d last e = let f : k ≡ i - 1 = omega arith in subst (λ j. cmp (get_or pairs (i - 1) d).0 (get_or pairs j d).0 ≡ Equal) last (subst (λ j. cmp (get_or pairs j d).0 (get_or pairs (k + 1) d).0 ≡ Equal) f e)
  untied_more (Some m) apart before = record {
    place = before.place;
    within = before.within;
    seen = omega (arith, before.seen);
    repeats = before.repeats;
    is = before.is;
    before = before.before;
    least = λ k d h e. ⊎_elim (λ less. before.least k d less e) (λ last. absurd (apart d (tied_last k d last e))) (cases_seen k h);
  }
    where
      tied_last : (k : ℕ) (d : K × ℕ) → k + 1 ≡ i → cmp (get_or pairs k d).0 (get_or pairs (k + 1) d).0 ≡ Equal → cmp (get_or pairs (i - 1) d).0 (get_or pairs i d).0 ≡ Equal
      tied_last k d last e = let f : k ≡ i - 1 = omega arith in subst (λ j. cmp (get_or pairs (i - 1) d).0 (get_or pairs j d).0 ≡ Equal) last (subst (λ j. cmp (get_or pairs j d).0 (get_or pairs (k + 1) d).0 ≡ Equal) f e)

  module _ (tied : (d : K × ℕ) → cmp (get_or pairs (i - 1) d).0 (get_or pairs i d).0 ≡ Equal) (here_is : Tied) (is : (d : K × ℕ) → (get_or pairs i d).1 ≡ here_is.member)
      (is_before : (d : K × ℕ) → (get_or pairs (i - 1) d).1 ≡ here_is.earlier) where
    round : i - 1 + 1 ≡ i
    round = omega arith

    tied_here : (d : K × ℕ) → cmp (get_or pairs (i - 1) d).0 (get_or pairs (i - 1 + 1) d).0 ≡ Equal
    tied_here d = subst (λ j. cmp (get_or pairs (i - 1) d).0 (get_or pairs j d).0 ≡ Equal) (sym round) (tied d)

    member_last : (k : ℕ) (d : K × ℕ) → k + 1 ≡ i → (get_or pairs (k + 1) d).1 ≡ here_is.member
    member_last k d last = ap (λ j. (get_or pairs j d).1) last ∙ is d

    new_least : ((k : ℕ) (d : K × ℕ) → k + 1 < i → cmp (get_or pairs k d).0 (get_or pairs (k + 1) d).0 ≡ Equal → here_is.member ≤ (get_or pairs (k + 1) d).1) → IsLeastRepeat cmp pairs (i + 1) here_is
    new_least below = record {
      place = i - 1;
      within = subst (λ j. j < length pairs) (sym round) here;
      seen = omega arith;
      repeats = tied_here;
      is = λ d. ap (λ j. (get_or pairs j d).1) round ∙ is d;
      before = is_before;
      least = λ k d h t. ⊎_elim (λ less. below k d less t) (λ last. omega (arith, member_last k d last)) (cases_seen k h);
    }

    old_least : (other : Tied) → IsLeastRepeat cmp pairs i other → other.member ≤ here_is.member → IsLeastRepeat cmp pairs (i + 1) other
    old_least other found le = record {
      place = found.place;
      within = found.within;
      seen = omega (arith, found.seen);
      repeats = found.repeats;
      is = found.is;
      before = found.before;
      least = λ k d h t. ⊎_elim (λ l. found.least k d l t) (λ last. omega (arith, le, member_last k d last)) (cases_seen k h);
    }

    pub tied_more : (least : Option Tied) (r : Tied) → MatchOption least (r ≡ here_is) (λ other. ((r ≡ other) × (other.member ≤ here_is.member)) ⊎ ((r ≡ here_is) × (here_is.member ≤ other.member)))
        → IsLeastRepeatIfAny cmp pairs i least → IsLeastRepeatIfAny cmp pairs (i + 1) (Some r)
    tied_more None r e found = subst (IsLeastRepeat cmp pairs (i + 1)) (sym e) (new_least (λ k d h t. absurd (found k d h t)))
    tied_more (Some other) r (inl e) found = subst (IsLeastRepeat cmp pairs (i + 1)) (sym e.0) (old_least other found e.1)
    tied_more (Some other) r (inr e) found = subst (IsLeastRepeat cmp pairs (i + 1)) (sym e.0) (new_least (λ k d h t. omega (arith, e.1, found.least k d h t)))
