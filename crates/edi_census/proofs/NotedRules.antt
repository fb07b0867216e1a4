-- What a list of broken rules gains at one more rule, and at one more place.
use Rattle.std.proofs.Common.{◌≡◌, ◌⊎◌, inl, inr, ℕ, ◌+◌, ◌<◌, ◌≤◌, Bool, true, false, true≢false, IsTrue, List, [], ◌∷◌, ◌++◌, get_or, refl, subst, sym, arith, All, Any}
use Rattle.std.specs.Prelude.{if◌then◌else◌}
use Rattle.std.proofs.lemmas.Bool.{cases_eq}
use Rattle.std.proofs.lemmas.Grind.{common_steps}
use Rattle.std.proofs.lemmas.List.Elements.{All-append}
use Rattle.std.proofs.lemmas.List.Quantifiers.{Any-push, all_pairs_push}
use Rattle.edi_line.specs.AllBroken.{AreAllBroken, StandsBefore}
use Rattle.edi_line.specs.declared.broken.BrokenRule.{BrokenRule}
use Rattle.edi_line.proofs.EachElement.{any_more}
use Rattle.edi_census.specs.inner.Judging.{BreaksBefore}

all_one : {X : Type 0} (P : X → Type 0) (y : X) → P y → All P (y ∷ [])
all_one P y p k d lt = let e : k ≡ 0 = grind (arith, common_steps) in subst (λ i. P (get_or (y ∷ []) i d)) (sym e) p

module _ (B : ℕ → ℕ → Type 0) (rule at : ℕ) where
  wider : (r p : ℕ) → BreaksBefore B rule at r p → BreaksBefore B (rule + 1) at r p
  wider r p (b, inl lt) = (b, inl lt)
  wider r p (b, inr (e, lt)) = (b, inr (e, omega (arith, lt)))

  -- it is broken in front of the rule, or it is the rule at the place
  narrower : (r p : ℕ) → BreaksBefore B (rule + 1) at r p → BreaksBefore B rule at r p ⊎ ((r ≡ rule) × (p ≡ at))
  narrower r p (b, inl lt) = inl (b, inl lt)
  narrower r p (b, inr (e, lt)) = go (cases_eq r rule)
    where
      go : (r ≡ rule) ⊎ (r ≡ rule → ⊥) → BreaksBefore B rule at r p ⊎ ((r ≡ rule) × (p ≡ at))
      go (inl same) = inr (same, e)
      go (inr other) = inl (b, inr (e, omega (arith, lt, other)))

  -- the rule isn't broken at the place
  pub passed : (list : List BrokenRule) → (B rule at → ⊥) → AreAllBroken (BreaksBefore B rule at) list
      → AreAllBroken (BreaksBefore B (rule + 1) at) list
  passed list not h = record {
    each = λ k d lt. wider (get_or list k d).rule (get_or list k d).at (h.each k d lt);
    all = λ r p b. go r p b (narrower r p b);
    in_order = h.in_order;
  }
    where
      go : (r p : ℕ) → BreaksBefore B (rule + 1) at r p → BreaksBefore B rule at r p ⊎ ((r ≡ rule) × (p ≡ at))
          → Any (λ it. (it.rule ≡ r) × (it.at ≡ p)) list
      go r p b (inl before) = h.all r p before
      go r p b (inr (same, here)) = absurd (not (subst (λ q. B rule q) here (subst (λ q. B q p) same b.0)))

  -- the rule is broken at the place
  pub noted : (list : List BrokenRule) (it : BrokenRule) → it.rule ≡ rule → it.at ≡ at → B rule at
      → AreAllBroken (BreaksBefore B rule at) list → AreAllBroken (BreaksBefore B (rule + 1) at) (list ++ it ∷ [])
  noted list it is_rule is_at b h = record {
    each = All-append (λ (x : BrokenRule). BreaksBefore B (rule + 1) at x.rule x.at) list (it ∷ [])
        (λ k d lt. wider (get_or list k d).rule (get_or list k d).at (h.each k d lt))
        (all_one (λ (x : BrokenRule). BreaksBefore B (rule + 1) at x.rule x.at) it here);
    all = λ r p broken. go r p (narrower r p broken);
    in_order = all_pairs_push StandsBefore list it h.in_order (λ k d lt. stands (get_or list k d) (h.each k d lt));
  }
    where
      here : BreaksBefore B (rule + 1) at it.rule it.at
      here = (subst (λ q. B it.rule q) (sym is_at) (subst (λ q. B q at) (sym is_rule) b), inr (is_at, omega (arith, is_rule)))

      go : (r p : ℕ) → BreaksBefore B rule at r p ⊎ ((r ≡ rule) × (p ≡ at))
          → Any (λ x. (x.rule ≡ r) × (x.at ≡ p)) (list ++ it ∷ [])
      go r p (inl before) = any_more (λ (x : BrokenRule). (x.rule ≡ r) × (x.at ≡ p)) list it (h.all r p before)
      go r p (inr (same, place)) = Any-push (λ (x : BrokenRule). (x.rule ≡ r) × (x.at ≡ p)) list it (omega (arith, is_rule, same), omega (arith, is_at, place))

      stands : (x : BrokenRule) → BreaksBefore B rule at x.rule x.at → StandsBefore x it
      stands x (_, inl lt) = inl (omega (arith, lt, is_at))
      stands x (_, inr (e, lt)) = inr (omega (arith, e, is_at), omega (arith, lt, is_rule))

-- a list of what is broken is one of what is broken in other words
pub reworded : (B C : ℕ → ℕ → Type 0) (list : List BrokenRule) → ((r p : ℕ) → B r p → C r p) → ((r p : ℕ) → C r p → B r p)
    → AreAllBroken B list → AreAllBroken C list
reworded B C list to from h = record {
  each = λ k d lt. to (get_or list k d).rule (get_or list k d).at (h.each k d lt);
  all = λ r p c. h.all r p (from r p c);
  in_order = h.in_order;
}

module _ (B : ℕ → ℕ → Type 0) (first last size : ℕ)
    (bounded : (rule at : ℕ) → B rule at → (first ≤ rule) × (rule ≤ last) × (1 ≤ at) × (at ≤ size)) where
  -- nothing is broken before the first record
  pub none_yet : AreAllBroken (BreaksBefore B first 1) []
  none_yet = record {
    each = λ k d lt. absurd (none k lt);
    all = λ r p b. absurd (never r p b (bounded r p b.0));
    in_order = λ i j d lt within. absurd (none j within);
  }
    where
      none : (k : ℕ) → k < 0 → ⊥
      none k lt = omega (arith, lt)

      never : (r p : ℕ) → BreaksBefore B first 1 r p → (first ≤ r) × (r ≤ last) × (1 ≤ p) × (p ≤ size) → ⊥
      never r p (_, inl lt) (_, _, low, _) = omega (arith, lt, low)
      never r p (_, inr (e, lt)) (low, _, _, _) = omega (arith, lt, low)

  -- all rules of a record are those before the next record
  pub next_place : (at : ℕ) (list : List BrokenRule) → AreAllBroken (BreaksBefore B (last + 1) at) list
      → AreAllBroken (BreaksBefore B first (at + 1)) list
  next_place at list h = reworded (BreaksBefore B (last + 1) at) (BreaksBefore B first (at + 1)) list to (λ r p b. from r p b (bounded r p b.0)) h
    where
      to : (r p : ℕ) → BreaksBefore B (last + 1) at r p → BreaksBefore B first (at + 1) r p
      to r p (b, inl lt) = (b, inl (omega (arith, lt)))
      to r p (b, inr (e, lt)) = (b, inl (omega (arith, e)))

      from : (r p : ℕ) → BreaksBefore B first (at + 1) r p → (first ≤ r) × (r ≤ last) × (1 ≤ p) × (p ≤ size)
          → BreaksBefore B (last + 1) at r p
      from r p (b, inl lt) (_, high, _, _) = go (cases_eq p at)
        where
          go : (p ≡ at) ⊎ (p ≡ at → ⊥) → BreaksBefore B (last + 1) at r p
          go (inl e) = (b, inr (e, omega (arith, high)))
          go (inr ne) = (b, inl (omega (arith, lt, ne)))
      from r p (b, inr (e, lt)) (low, _, _, _) = absurd (omega (arith, lt, low))

  -- what is broken up to the last record is all
  pub all_passed : (list : List BrokenRule) → AreAllBroken (BreaksBefore B first (size + 1)) list → AreAllBroken B list
  all_passed list h = reworded (BreaksBefore B first (size + 1)) B list (λ r p b. b.0) (λ r p b. (b, inl (low r p (bounded r p b)))) h
    where
      low : (r p : ℕ) → (first ≤ r) × (r ≤ last) × (1 ≤ p) × (p ≤ size) → p < size + 1
      low r p (_, _, _, high) = omega (arith, high)

-- a list, with the rule behind it where that is broken at the place
pub put_if : (B : ℕ → ℕ → Type 0) (rule at : ℕ) (list new : List BrokenRule) (it : BrokenRule) (is_broken : Bool) → it.rule ≡ rule → it.at ≡ at
    → (IsTrue is_broken → B rule at) → (B rule at → IsTrue is_broken) → new ≡ (if is_broken then list ++ it ∷ [] else list)
    → AreAllBroken (BreaksBefore B rule at) list → AreAllBroken (BreaksBefore B (rule + 1) at) new
put_if B rule at list new it true is_rule is_at to from is h =
    subst (AreAllBroken (BreaksBefore B (rule + 1) at)) (sym is) (noted B rule at list it is_rule is_at (to refl) h)
put_if B rule at list new it false is_rule is_at to from is h =
    subst (AreAllBroken (BreaksBefore B (rule + 1) at)) (sym is) (passed B rule at list (λ b. true≢false (sym (from b))) h)
