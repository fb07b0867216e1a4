-- Links that a matching leaves, and those that are sought for them.
use Rattle.std.proofs.Common.{◌≡◌, ℕ, ◌+◌, ◌<◌, ◌≤◌, ◌⊎◌, inl, inr, Bool, true, false, true≢false, List, Option, None, Some, length, get_or, sym, ap, ◌∙◌, subst, arith}
use Rattle.std.proofs.lemmas.Bool.{cases_lt}
use Rattle.std.proofs.Common.{Contains, ◌++◌, ◌∷◌, []}
use Rattle.std.proofs.lemmas.List.{get_or_append_left, length-append}
use Rattle.std.proofs.Math.Seq.{get_or-append_seam}
use Rattle.edi_record.specs.declared.record.Kind.TheVariants.{Lnk}
use Rattle.edi_plan.specs.Places.{places_of}
use Rattle.edi_plan.specs.Plans.{PlanData, record_at}
use Rattle.edi_plan.proofs.PlaceLemmas.{has_place}
use Rattle.edi_rank.specs.Keys.{link_key}
use Rattle.edi_rank.specs.declared.keys.LinkKey.{LinkKey}
use Rattle.edi_matching.specs.Differences.{IsReached}
use Rattle.edi_matching.specs.Matchings.{GoesTo}
use Rattle.edi_matching.specs.inner.Links.{AreReached, IsMarked, ListsFree}
use Rattle.edi_matching.proofs.Totals.{goes_within}

-- the places below n to which the first records go are marked, and these alone
pub record AreReachedSoFar (to : List (Option ℕ)) (n : ℕ) (marks : List Bool) (done : ℕ) : Type 0 where
  pub long : length marks ≡ n
  pub marked : (i j : ℕ) → i < done → GoesTo to i j → j < n → get_or marks j false ≡ true
  pub found : (j : ℕ) → get_or marks j false ≡ true → IsReached to j

pub none_reached : (to : List (Option ℕ)) (n : ℕ) (marks : List Bool) → length marks ≡ n → ((j : ℕ) → get_or marks j false ≡ false) → AreReachedSoFar to n marks 0
none_reached to n marks long unmarked = record {
  long = long;
  marked = λ i j h goes less. absurd (omega (arith, h));
  found = λ j e. absurd (true≢false (sym e ∙ unmarked j));
}

last_or : (k n : ℕ) → k < n + 1 → (k < n) ⊎ (k ≡ n)
last_or k n h = go (cases_lt k n)
  where
    go : (k < n) ⊎ (n ≤ k) → (k < n) ⊎ (k ≡ n)
    go (inl less) = inl less
    go (inr more) = inr (omega arith)

-- one record more
pub one_reached : (to : List (Option ℕ)) (n : ℕ) (old new : List Bool) (done : ℕ) (target : Option ℕ) → AreReachedSoFar to n old done → target ≡ get_or to done None
    → IsMarked target old new → AreReachedSoFar to n new (done + 1)
one_reached to n old new done target are is marks = record {
  long = marks.long ∙ are.long;
  marked = λ i j h goes less. go i j goes less (last_or i done h);
  found = λ j e. back j (marks.found j e);
}
  where
    go : (i j : ℕ) → GoesTo to i j → j < n → (i < done) ⊎ (i ≡ done) → get_or new j false ≡ true
    go i j goes less (inl before) = marks.keeps j (are.marked i j before goes less)
    go i j goes less (inr same) = marks.marked j (is ∙ (ap (λ k. get_or to k None) (sym same) ∙ goes)) (subst (λ m. j < m) (sym are.long) less)

    back : (j : ℕ) → (get_or old j false ≡ true) ⊎ (target ≡ Some j) → IsReached to j
    back j (inl e) = are.found j e
    back j (inr e) = (done, sym is ∙ e)

pub all_reached : (to : List (Option ℕ)) (n : ℕ) (marks : List Bool) (done : ℕ) → AreReachedSoFar to n marks done → length to ≤ done → AreReached to n marks
all_reached to n marks done are whole = record {
  long = are.long;
  marked = λ j less reached. are.marked reached.0 j (let h = goes_within to reached.0 j reached.1 in omega (arith, h, whole)) reached.1 less;
  found = are.found;
}

-- the free links among the first are listed
abbrev pub ListsSoFar : PlanData → List Bool → List (LinkKey × ℕ) → ℕ → Type 0
ListsSoFar q marks pairs done = (n j : ℕ) → n < done → get_or (places_of Lnk q) n 0 ≡ j → get_or marks j true ≡ false → Contains pairs (link_key q (λ k. k) (record_at q j), j)

pub all_listed : (q : PlanData) (marks : List Bool) (pairs : List (LinkKey × ℕ)) (done : ℕ) → ListsSoFar q marks pairs done → length (places_of Lnk q) ≤ done → ListsFree q marks pairs
all_listed q marks pairs done lists whole j there link free =
    let place = has_place Lnk q j there link in
    lists place.0 j (let h = place.1 in omega (arith, h, whole)) place.2 free

module _ (q : PlanData) (marks : List Bool) (pairs : List (LinkKey × ℕ)) (done place : ℕ) (lists : ListsSoFar q marks pairs done) (is : place ≡ get_or (places_of Lnk q) done 0) where
  abbrev Listed : List (LinkKey × ℕ) → ℕ → Type 0
  Listed all j = Contains all (link_key q (λ k. k) (record_at q j), j)

  pub listed_more : (key : LinkKey) (more : List (LinkKey × ℕ)) → key ≡ link_key q (λ k. k) (record_at q place) → more ≡ pairs ++ (key, place) ∷ [] → ListsSoFar q marks more (done + 1)
  listed_more key more key_is all n j h at free = subst (λ xs. Listed xs j) (sym all) (go (last_or n done h))
    where
      x : LinkKey × ℕ
      x = (link_key q (λ k. k) (record_at q j), j)

      go : (n < done) ⊎ (n ≡ done) → Listed (pairs ++ (key, place) ∷ []) j
      go (inl before) =
          let w = lists n j before at free in
          (w.0, (let h = w.1 in omega (arith, h, length-append pairs ((key, place) ∷ []))), get_or_append_left pairs ((key, place) ∷ []) x w.0 w.1 ∙ w.2)
      go (inr now) =
          let same : place ≡ j = is ∙ (ap (λ k. get_or (places_of Lnk q) k 0) (sym now) ∙ at) in
          let e : (key, place) ≡ x = λ i. ((key_is ∙ ap (λ k. link_key q (λ k. k) (record_at q k)) same) i, same i) in
          (length pairs, omega (arith, length-append pairs ((key, place) ∷ [])), get_or-append_seam pairs (key, place) [] x ∙ e)

  pub listed_none : (get_or marks place true ≡ false → ⊥) → ListsSoFar q marks pairs (done + 1)
  listed_none taken n j h at free = go (last_or n done h)
    where
      go : (n < done) ⊎ (n ≡ done) → Listed pairs j
      go (inl before) = lists n j before at free
      go (inr now) = absurd (taken (ap (λ k. get_or marks k true) (is ∙ (ap (λ k. get_or (places_of Lnk q) k 0) (sym now) ∙ at)) ∙ free))
