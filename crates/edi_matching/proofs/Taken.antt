-- Places that are marked when a record goes there.
use Rattle.std.proofs.Common.{◌≡◌, ◌≢◌, ℕ, ◌+◌, ◌<◌, ◌≤◌, ◌⊎◌, inl, inr, Bool, true, false, true≢false, List, Option, None, Some, length, get_or, set, sym, ap, ◌∙◌, arith}
use Rattle.std.proofs.lemmas.Bool.{cases_eq, cases_lt}
use Rattle.std.proofs.lemmas.List.{get_or-set_other, get_or-set_same, length-set}
use Rattle.edi_matching.specs.Matchings.{GoesTo}
use Rattle.edi_matching.specs.inner.Marks.{GoApart, Marks, IsMarkedOrNone}
use Rattle.edi_matching.proofs.Totals.{goes_within}

-- the places that the first records go to are marked, and these alone; no two go to one
pub record AreTaken (to : List (Option ℕ)) (met : List Bool) (n : ℕ) (done : ℕ) : Type 0 where
  pub long : length met ≡ n
  pub within : (i j : ℕ) → i < done → GoesTo to i j → j < n
  pub marked : (i j : ℕ) → i < done → GoesTo to i j → get_or met j false ≡ true
  pub found : (j : ℕ) → get_or met j false ≡ true → (i : ℕ) × (i < done) × GoesTo to i j
  pub apart : (i k j : ℕ) → i < done → k < done → GoesTo to i j → GoesTo to k j → i ≡ k

pub none_taken : (to : List (Option ℕ)) (met : List Bool) (n : ℕ) → length met ≡ n → ((j : ℕ) → get_or met j false ≡ false) → AreTaken to met n 0
none_taken to met n long unmarked = record {
  long = long;
  within = λ i j h e. absurd (omega arith);
  marked = λ i j h e. absurd (omega arith);
  found = λ j e. absurd (true≢false (sym e ∙ unmarked j));
  apart = λ i k j h g e f. absurd (omega arith);
}

last_or : (k n : ℕ) → k < n + 1 → (k < n) ⊎ (k ≡ n)
last_or k n h = go (cases_lt k n)
  where
    go : (k < n) ⊎ (n ≤ k) → (k < n) ⊎ (k ≡ n)
    go (inl less) = inl less
    go (inr more) = inr (omega arith)

-- a record that goes nowhere takes nothing
module _ (to : List (Option ℕ)) (met : List Bool) (n done : ℕ) (are : AreTaken to met n done) (none : get_or to done None ≡ None) where
  nowhere : (i j : ℕ) → i ≡ done → GoesTo to i j → ⊥
  nowhere i j same e = let f : get_or to done None ≡ Some j = ap (λ k. get_or to k None) (sym same) ∙ e in cc

  earlier : (i j : ℕ) → i < done + 1 → GoesTo to i j → i < done
  earlier i j h e = go (last_or i done h)
    where
      go : (i < done) ⊎ (i ≡ done) → i < done
      go (inl less) = less
      go (inr same) = absurd (nowhere i j same e)

  pub none_more : AreTaken to met n (done + 1)
  none_more = record {
    long = are.long;
    within = λ i j h e. are.within i j (earlier i j h e) e;
    marked = λ i j h e. are.marked i j (earlier i j h e) e;
    found = λ j e. let w = are.found j e in (w.0, omega (arith, w.1), w.2);
    apart = λ i k j h g e f. are.apart i k j (earlier i j h e) (earlier k j g f) e f;
  }

-- a record that goes to a place that isn't taken takes it
module _ (to : List (Option ℕ)) (met new : List Bool) (n done place : ℕ) (are : AreTaken to met n done) (goes : get_or to done None ≡ Some place) (marks : Marks met new place) where
  at_done : (i j : ℕ) → i ≡ done → GoesTo to i j → place ≡ j
  at_done i j same e = let f : get_or to done None ≡ Some j = ap (λ k. get_or to k None) (sym same) ∙ e in cc

  other : (i j : ℕ) → i < done → GoesTo to i j → j ≢ place
  other i j h e same = true≢false (sym (are.marked i j h e) ∙ (ap (λ k. get_or met k false) same ∙ marks.unmarked))

  now : (j : ℕ) → get_or new j false ≡ get_or (set met place true) j false
  now j = ap (λ ms. get_or ms j false) marks.marked

  marked_more : (i j : ℕ) → GoesTo to i j → (i < done) ⊎ (i ≡ done) → get_or new j false ≡ true
  marked_more i j e (inl less) = now j ∙ (get_or-set_other met place j true false (other i j less e) ∙ are.marked i j less e)
  marked_more i j e (inr same) = ap (λ k. get_or new k false) (sym (at_done i j same e)) ∙ (now place ∙ get_or-set_same met place true false marks.within)

  within_more : (i j : ℕ) → GoesTo to i j → (i < done) ⊎ (i ≡ done) → j < n
  within_more i j e (inl less) = are.within i j less e
  within_more i j e (inr same) = let f = at_done i j same e in omega (arith, marks.within, are.long, f)

  found_more : (j : ℕ) → get_or new j false ≡ true → (i : ℕ) × (i < done + 1) × GoesTo to i j
  found_more j e = go (cases_eq j place)
    where
      go : (j ≡ place) ⊎ (j ≡ place → ⊥) → (i : ℕ) × (i < done + 1) × GoesTo to i j
      go (inl same) = (done, omega arith, goes ∙ ap Some (sym same))
      go (inr ne) = let w = are.found j (sym (get_or-set_other met place j true false ne) ∙ (sym (now j) ∙ e)) in (w.0, omega (arith, w.1), w.2)

  apart_more : (i k j : ℕ) → GoesTo to i j → GoesTo to k j → (i < done) ⊎ (i ≡ done) → (k < done) ⊎ (k ≡ done) → i ≡ k
  apart_more i k j e f (inl h) (inl g) = are.apart i k j h g e f
  apart_more i k j e f (inl h) (inr g) = absurd (other i j h e (sym (at_done k j g f)))
  apart_more i k j e f (inr h) (inl g) = absurd (other k j g f (sym (at_done i j h e)))
  apart_more i k j e f (inr h) (inr g) = h ∙ sym g

  pub one_more : AreTaken to new n (done + 1)
  one_more = record {
    long = ap length marks.marked ∙ (length-set met place true ∙ are.long);
    within = λ i j h e. within_more i j e (last_or i done h);
    marked = λ i j h e. marked_more i j e (last_or i done h);
    found = found_more;
    apart = λ i k j h g e f. apart_more i k j e f (last_or i done h) (last_or k done g);
  }

-- a place that there isn't, or that is taken
pub not_apart : (to : List (Option ℕ)) (met : List Bool) (n done place : ℕ) → AreTaken to met n done → get_or to done None ≡ Some place → IsMarkedOrNone met place → GoApart to n → ⊥
not_apart to met n done place are goes (inl past) apart = let less : place < n = apart.within done place goes in omega (arith, are.long)
not_apart to met n done place are goes (inr taken) apart =
    let w = are.found place taken in
    let same : w.0 ≡ done = apart.apart w.0 done place w.2 goes in
    omega (arith, w.1, same)

pub all_apart : (to : List (Option ℕ)) (met : List Bool) (n : ℕ) → AreTaken to met n (length to) → GoApart to n
all_apart to met n are = record {
  within = λ i j e. are.within i j (goes_within to i j e) e;
  apart = λ i k j e f. are.apart i k j (goes_within to i j e) (goes_within to k j f) e f;
}
