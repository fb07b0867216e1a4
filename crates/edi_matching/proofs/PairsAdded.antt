-- Pairs that are added to a matching one after the other.
use Rattle.std.proofs.Common.{◌≡◌, ℕ, ◌<◌, ◌≤◌, ◌⊎◌, inl, inr, Bool, true, false, true≢false, List, Option, None, Some, length, get_or, set, refl, sym, ap, ◌∙◌, subst, take, ◌++◌, Result, Ok, Err, OnOk}
use Rattle.std.proofs.lemmas.Bool.{cases_eq, cases_lt}
use Rattle.std.proofs.lemmas.List.{get_or-set_other, get_or-set_same, get_or_past, length-set, take_at}
use Rattle.edi_plan.specs.Plans.{PlanData}
use Rattle.edi_matching.specs.Matchings.{GoesTo}
use Rattle.edi_matching.specs.inner.Inverses.{Grows}
use Rattle.edi_matching.specs.inner.Additions.{AddsPairs, AreAlike, AreFree, IsAdded, IsKept, IsAddedPair, PairsIfAlike, PairsIfBoth, PairsIfFree}

-- a place that isn't taken is one of those that there are
pub free_within : (taken : List Bool) (j : ℕ) → get_or taken j true ≡ false → j < length taken
free_within taken j free = go (cases_lt j (length taken))
  where
    go : (j < length taken) ⊎ (length taken ≤ j) → j < length taken
    go (inl less) = less
    go (inr past) = absurd (true≢false (sym (get_or_past taken j true past) ∙ free))

-- nothing was added
pub adds_none : (Pair : ℕ → ℕ → Type 0) (to : List (Option ℕ)) (taken : List Bool) → AddsPairs Pair to taken to taken
adds_none Pair to taken = record {
  long = refl;
  wide = refl;
  keeps = λ i j goes. goes;
  only = λ i j goes. inl goes;
  apart = λ i k j goes other new another. absurd (new goes);
  stays = λ j e. e;
  marked = λ j e. inl e;
}

pub adds_kept : (Pair : ℕ → ℕ → Type 0) (to : List (Option ℕ)) (taken : List Bool) (more : List (Option ℕ)) (marks : List Bool) → IsKept to taken more marks → AddsPairs Pair to taken more marks
adds_kept Pair to taken more marks kept =
    subst (λ (ts : List (Option ℕ)). AddsPairs Pair to taken ts marks) (sym kept.places) (subst (λ (bs : List Bool). AddsPairs Pair to taken to bs) (sym kept.marked) (adds_none Pair to taken))

-- one pair was added
module _ (Pair : ℕ → ℕ → Type 0) (to : List (Option ℕ)) (taken : List Bool) (i j : ℕ) (free : AreFree to taken i j) (pair : Pair i j) where
  abbrev after : List (Option ℕ)
  after = set to i (Some j)

  abbrev taken_after : List Bool
  taken_after = set taken j true

  went_here : GoesTo after i j
  went_here = get_or-set_same to i (Some j) None free.here

  marked_here : get_or taken_after j true ≡ true
  marked_here = get_or-set_same taken j true true (free_within taken j free.free)

  nowhere : (k l : ℕ) → k ≡ i → GoesTo to k l → ⊥
  nowhere k l same goes = let f : get_or to i None ≡ Some l = ap (λ x. get_or to x None) (sym same) ∙ goes in let e : None ≡ Some l = sym free.left ∙ f in cc

  went_before : (k l : ℕ) → GoesTo to k l → GoesTo after k l
  went_before k l goes = get_or-set_other to i k (Some j) None (λ same. nowhere k l same goes) ∙ goes

  went_after : (k l : ℕ) → GoesTo after k l → ((k ≡ i) × (l ≡ j)) ⊎ GoesTo to k l
  went_after k l goes = go (cases_eq k i)
    where
      go : (k ≡ i) ⊎ (k ≡ i → ⊥) → ((k ≡ i) × (l ≡ j)) ⊎ GoesTo to k l
      go (inl same) = let e : Some j ≡ Some l = sym went_here ∙ (ap (λ x. get_or after x None) (sym same) ∙ goes) in inl (same, cc)
      go (inr ne) = inr (sym (get_or-set_other to i k (Some j) None ne) ∙ goes)

  only_here : (k l : ℕ) → ((k ≡ i) × (l ≡ j)) ⊎ GoesTo to k l → GoesTo to k l ⊎ IsAdded Pair taken taken_after k l
  only_here k l (inr goes) = inl goes
  only_here k l (inl a) = inr (record {
    pair = subst (λ (x : ℕ). Pair x l) (sym a.0) (subst (λ (y : ℕ). Pair i y) (sym a.1) pair);
    free = ap (λ x. get_or taken x true) a.1 ∙ free.free;
    marked = ap (λ x. get_or taken_after x true) a.1 ∙ marked_here;
  })

  apart_here : (k n l : ℕ) → ((k ≡ i) × (l ≡ j)) ⊎ GoesTo to k l → ((n ≡ i) × (l ≡ j)) ⊎ GoesTo to n l → ¬ (GoesTo to k l) → ¬ (GoesTo to n l) → k ≡ n
  apart_here k n l (inl a) (inl b) new another = a.0 ∙ sym b.0
  apart_here k n l (inl a) (inr b) new another = absurd (another b)
  apart_here k n l (inr a) b new another = absurd (new a)

  stays_here : (l : ℕ) → (l ≡ j) ⊎ (l ≡ j → ⊥) → get_or taken l true ≡ true → get_or taken_after l true ≡ true
  stays_here l (inl same) e = ap (λ x. get_or taken_after x true) same ∙ marked_here
  stays_here l (inr ne) e = get_or-set_other taken j l true true ne ∙ e

  new_mark : (l : ℕ) → (l ≡ j) ⊎ (l ≡ j → ⊥) → get_or taken_after l true ≡ true → get_or taken l true ≡ true ⊎ ((k : ℕ) × GoesTo after k l)
  new_mark l (inl same) e = inr (i, went_here ∙ ap Some (sym same))
  new_mark l (inr ne) e = inl (sym (get_or-set_other taken j l true true ne) ∙ e)

  pub adds_one : AddsPairs Pair to taken after taken_after
  adds_one = record {
    long = length-set to i (Some j);
    wide = length-set taken j true;
    keeps = went_before;
    only = λ k l goes. only_here k l (went_after k l goes);
    apart = λ k n l a b new another. apart_here k n l (went_after k l a) (went_after n l b) new another;
    stays = λ l e. stays_here l (cases_eq l j) e;
    marked = λ l e. new_mark l (cases_eq l j) e;
  }

pub adds_paired : (Pair : ℕ → ℕ → Type 0) (i j : ℕ) (to : List (Option ℕ)) (taken : List Bool) (more : List (Option ℕ)) (marks : List Bool) → Pair i j → IsAddedPair i j to taken more marks
    → AddsPairs Pair to taken more marks
adds_paired Pair i j to taken more marks pair paired =
    subst (λ (ts : List (Option ℕ)). AddsPairs Pair to taken ts marks) (sym paired.goes)
    (subst (λ (bs : List Bool). AddsPairs Pair to taken (set to i (Some j)) bs) (sym paired.marked) (adds_one Pair to taken i j paired.free pair))

pub adds_if_free : (Pair : ℕ → ℕ → Type 0) (i j : ℕ) (to : List (Option ℕ)) (taken : List Bool) (more : List (Option ℕ)) (marks : List Bool) → Pair i j → PairsIfFree i j to taken more marks
    → AddsPairs Pair to taken more marks
adds_if_free Pair i j to taken more marks pair (inl paired) = adds_paired Pair i j to taken more marks pair paired
adds_if_free Pair i j to taken more marks pair (inr kept) = adds_kept Pair to taken more marks kept.1

pub adds_if_alike : (Pair : ℕ → ℕ → Type 0) (p q : PlanData) (i j : ℕ) (to : List (Option ℕ)) (taken : List Bool) (more : List (Option ℕ)) (marks : List Bool) → (AreAlike p q i j → Pair i j)
    → PairsIfAlike p q i j to taken more marks → AddsPairs Pair to taken more marks
adds_if_alike Pair p q i j to taken more marks pair (inl alike) = adds_paired Pair i j to taken more marks (pair alike.0) alike.1
adds_if_alike Pair p q i j to taken more marks pair (inr kept) = adds_kept Pair to taken more marks kept.1

pub adds_if_both : (Pair : ℕ → ℕ → Type 0) (p q : PlanData) (place target : Option ℕ) (to : List (Option ℕ)) (taken : List Bool) (more : List (Option ℕ)) (marks : List Bool)
    → ((i j : ℕ) → place ≡ Some i → target ≡ Some j → AreAlike p q i j → Pair i j) → PairsIfBoth p q place target to taken more marks → AddsPairs Pair to taken more marks
adds_if_both Pair p q None target to taken more marks pair kept = adds_kept Pair to taken more marks kept
adds_if_both Pair p q (Some i) None to taken more marks pair kept = adds_kept Pair to taken more marks kept
adds_if_both Pair p q (Some i) (Some j) to taken more marks pair both = adds_if_alike Pair p q i j to taken more marks (pair i j refl refl) both

-- pairs of one kind are pairs of a wider one
added_wider : (Pair Wider : ℕ → ℕ → Type 0) (taken marks : List Bool) (i j : ℕ) → ((i j : ℕ) → Pair i j → Wider i j) → IsAdded Pair taken marks i j → IsAdded Wider taken marks i j
added_wider Pair Wider taken marks i j wider new = record { pair = wider i j new.pair; free = new.free; marked = new.marked }

pub adds_wider : (Pair Wider : ℕ → ℕ → Type 0) (to : List (Option ℕ)) (taken : List Bool) (more : List (Option ℕ)) (marks : List Bool) → ((i j : ℕ) → Pair i j → Wider i j)
    → AddsPairs Pair to taken more marks → AddsPairs Wider to taken more marks
adds_wider Pair Wider to taken more marks wider adds = record {
  long = adds.long;
  wide = adds.wide;
  keeps = adds.keeps;
  only = λ i j goes. go i j (adds.only i j goes);
  apart = adds.apart;
  stays = adds.stays;
  marked = adds.marked;
}
  where
    go : (i j : ℕ) → GoesTo to i j ⊎ IsAdded Pair taken marks i j → GoesTo to i j ⊎ IsAdded Wider taken marks i j
    go i j (inl goes) = inl goes
    go i j (inr new) = inr (added_wider Pair Wider taken marks i j wider new)

-- pairs were added, and then more
module _ (Pair : ℕ → ℕ → Type 0) (to : List (Option ℕ)) (taken : List Bool) (more : List (Option ℕ)) (marks : List Bool) (most : List (Option ℕ)) (all : List Bool)
    (one : AddsPairs Pair to taken more marks) (two : AddsPairs Pair more marks most all) where
  was_free : (j : ℕ) → get_or marks j true ≡ false → get_or taken j true ≡ false
  was_free j free = go (get_or taken j true) refl
    where
      go : (b : Bool) → get_or taken j true ≡ b → get_or taken j true ≡ false
      go true e = absurd (true≢false (sym (one.stays j e) ∙ free))
      go false e = e

  -- what is new and goes where it went between was marked then
  went_between : (i j : ℕ) → ¬ (GoesTo to i j) → GoesTo more i j → get_or marks j true ≡ true
  went_between i j new goes = go (one.only i j goes)
    where
      go : GoesTo to i j ⊎ IsAdded Pair taken marks i j → get_or marks j true ≡ true
      go (inl before) = absurd (new before)
      go (inr added) = added.marked

  only_both : (i j : ℕ) → GoesTo more i j ⊎ IsAdded Pair marks all i j → GoesTo to i j ⊎ IsAdded Pair taken all i j
  only_both i j (inr added) = inr (record { pair = added.pair; free = was_free j added.free; marked = added.marked })
  only_both i j (inl goes) = go (one.only i j goes)
    where
      go : GoesTo to i j ⊎ IsAdded Pair taken marks i j → GoesTo to i j ⊎ IsAdded Pair taken all i j
      go (inl before) = inl before
      go (inr added) = inr (record { pair = added.pair; free = added.free; marked = two.stays j added.marked })

  apart_both : (i k j : ℕ) → GoesTo most i j → GoesTo most k j → GoesTo more i j ⊎ IsAdded Pair marks all i j → GoesTo more k j ⊎ IsAdded Pair marks all k j
      → ¬ (GoesTo to i j) → ¬ (GoesTo to k j) → i ≡ k
  apart_both i k j a b (inl goes) (inl other) new another = one.apart i k j goes other new another
  apart_both i k j a b (inl goes) (inr added) new another = absurd (true≢false (sym (went_between i j new goes) ∙ added.free))
  apart_both i k j a b (inr added) (inl other) new another = absurd (true≢false (sym (went_between k j another other) ∙ added.free))
  apart_both i k j a b (inr added) (inr more_added) new another =
      two.apart i k j a b (λ goes. true≢false (sym (went_between i j new goes) ∙ added.free)) (λ other. true≢false (sym (went_between k j another other) ∙ more_added.free))

  marked_both : (j : ℕ) → get_or marks j true ≡ true ⊎ ((i : ℕ) × GoesTo most i j) → get_or taken j true ≡ true ⊎ ((i : ℕ) × GoesTo most i j)
  marked_both j (inr w) = inr w
  marked_both j (inl e) = go (one.marked j e)
    where
      go : get_or taken j true ≡ true ⊎ ((i : ℕ) × GoesTo more i j) → get_or taken j true ≡ true ⊎ ((i : ℕ) × GoesTo most i j)
      go (inl before) = inl before
      go (inr w) = inr (w.0, two.keeps w.0 j w.1)

  pub adds_then : AddsPairs Pair to taken most all
  adds_then = record {
    long = two.long ∙ one.long;
    wide = two.wide ∙ one.wide;
    keeps = λ i j goes. two.keeps i j (one.keeps i j goes);
    only = λ i j goes. only_both i j (two.only i j goes);
    apart = λ i k j a b new another. apart_both i k j a b (two.only i j a) (two.only k j b) new another;
    stays = λ j e. two.stays j (one.stays j e);
    marked = λ j e. marked_both j (two.marked j e);
  }

-- two that hold the same aren't left
pub not_left : (p q : PlanData) (i j : ℕ) (to : List (Option ℕ)) (taken : List Bool) (more : List (Option ℕ)) (marks : List Bool) → PairsIfAlike p q i j to taken more marks → AreAlike p q i j → ¬ (AreFree more marks i j)
not_left p q i j to taken more marks (inr kept) alike free =
    kept.0 (alike, subst (λ (ts : List (Option ℕ)). AreFree ts taken i j) kept.1.places (subst (λ (bs : List Bool). AreFree more bs i j) kept.1.marked free))
not_left p q i j to taken more marks (inl pairs) alike free =
    let went : get_or more i None ≡ Some j = ap (λ (ts : List (Option ℕ)). get_or ts i None) pairs.1.goes ∙ get_or-set_same to i (Some j) None pairs.1.free.here in
    let wrong : None ≡ Some j = sym free.left ∙ went in cc

pub on_both : {X E : Type 0} (r : Result X E) (P Q R : Type 0) → (P → Q → R) → OnOk r P → OnOk r Q → OnOk r R
on_both (Ok x) P Q R f h k = f h k
on_both (Err e) P Q R f h k = tt

-- where a matching grew

pub grows_same : (to more : List (Option ℕ)) → more ≡ to → Grows to more
grows_same to more is = record { long = ap length is; keeps = λ i j goes. ap (λ (xs : List (Option ℕ)). get_or xs i None) is ∙ goes }

pub grows_by : (Pair : ℕ → ℕ → Type 0) (to : List (Option ℕ)) (taken : List Bool) (more : List (Option ℕ)) (marks : List Bool) → AddsPairs Pair to taken more marks → Grows to more
grows_by Pair to taken more marks adds = record { long = adds.long; keeps = adds.keeps }

pub grows_then : (to more most : List (Option ℕ)) → Grows to more → Grows more most → Grows to most
grows_then to more most one two = record { long = two.long ∙ one.long; keeps = λ i j goes. two.keeps i j (one.keeps i j goes) }

-- a vector's elements that were written as a slice
pub grows_kept : (n : ℕ) (more rest now : List (Option ℕ)) → now ≡ take n (more ++ rest) → length more ≡ n → Grows more now
grows_kept n more rest now is long = grows_same more now (is ∙ take_at more rest n long)
