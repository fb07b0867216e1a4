-- Lists of all rules that are broken, as they grow.
use Rattle.std.proofs.Common.{◌≡◌, ℕ, ◌<◌, ◌⊎◌, Bool, true, false, ◌&&◌, cond, ltb, List, [], ◌∷◌, ◌++◌, refl, sym, ap, ◌∙◌, subst, inl, inr, ⊎_elim, arith}
use Rattle.std.specs.Prelude.{Any}
use Rattle.std.specs.List.{list_all}
use Rattle.std.proofs.lemmas.Bool.{and_parts, ltb-true, both_ways}
use Rattle.std.proofs.lemmas.List.Elements.{All-push}
use Rattle.std.proofs.lemmas.List.Quantifiers.{Any-push, all_pairs_push}
use Rattle.edi_line.specs.AllBroken.{StandsBefore, AreAllBroken}
use Rattle.edi_line.specs.Refusal.{Test, test, BreaksTest}
use Rattle.edi_line.specs.inner.AllBroken.{with_broken}
use Rattle.edi_line.specs.declared.broken.BrokenRule.{BrokenRule}
use Rattle.edi_line.proofs.EachElement.{any_more}

-- a rule at a place
abbrev pub Broken : Type 1
Broken = ℕ → ℕ → Type 0

-- ---- the same rules, said otherwise

pub all_same : (B C : Broken) (list : List BrokenRule) → ((r p : ℕ) → B r p → C r p) → ((r p : ℕ) → C r p → B r p) → AreAllBroken B list → AreAllBroken C list
all_same B C list to from h = record {
  each = λ k d below. to _ _ (h.each k d below);
  all = λ r p broken. h.all r p (from r p broken);
  in_order = h.in_order;
}

pub all_none : (B : Broken) → ((r p : ℕ) → ¬ (B r p)) → AreAllBroken B []
all_none B none = record {
  each = λ k d below. absurd (omega (arith, below));
  all = λ r p broken. absurd (none r p broken);
  in_order = λ i j d before below. absurd (omega (arith, below));
}

-- ---- one rule more

-- all that is broken stands before the rule at the place
abbrev pub AllBefore : Broken → ℕ → ℕ → Type 0
AllBefore B rule at = (r p : ℕ) → B r p → (p < at) ⊎ ((p ≡ at) × (r < rule))

abbrev pub one_more : Broken → ℕ → ℕ → Broken
one_more B rule at r p = B r p ⊎ ((r ≡ rule) × (p ≡ at))

pub all_push : (B : Broken) (list : List BrokenRule) (rule at : ℕ) → AreAllBroken B list → AllBefore B rule at → AreAllBroken (one_more B rule at) (list ++ record { rule = rule; at = at } ∷ [])
all_push B list rule at h before = record {
  each = All-push (λ it. one_more B rule at it.rule it.at) list this (λ k d below. inl (h.each k d below)) (inr (refl, refl));
  all = found;
  in_order = all_pairs_push StandsBefore list this h.in_order (λ k d below. before _ _ (h.each k d below));
}
  where
    this : BrokenRule
    this = record { rule = rule; at = at }

    found : (r p : ℕ) → one_more B rule at r p → Any (λ it. (it.rule ≡ r) × (it.at ≡ p)) (list ++ this ∷ [])
    found r p (inl broken) = any_more (λ it. (it.rule ≡ r) × (it.at ≡ p)) list this (h.all r p broken)
    found r p (inr same) = Any-push (λ it. (it.rule ≡ r) × (it.at ≡ p)) list this (sym same.0, sym same.1)

-- ---- the broken ones of some rules, all at one place

abbrev pub Also : Broken → ℕ → List Test → Broken
Also B at ts r p = B r p ⊎ ((p ≡ at) × BreaksTest ts r)

-- the rule is less than each of these
abbrev pub is_below : ℕ → List Test → Bool
is_below rule ts = list_all (λ (u : Test). ltb rule u.rule) ts

-- each of the rules is less than those behind it
abbrev pub climbs : List Test → Bool
climbs [] = true
climbs (t ∷ ts) = is_below t.rule ts && climbs ts

-- all that is broken stands before these rules at the place
abbrev pub StandsBelow : Broken → ℕ → List Test → Type 0
StandsBelow B at ts = (r p : ℕ) → B r p → (p < at) ⊎ ((p ≡ at) × (is_below r ts ≡ true))

-- whatever is broken before, these rules go behind it
abbrev pub Grows : ℕ → List Test → Type 1
Grows at ts = (B : Broken) (list : List BrokenRule) → AreAllBroken B list → StandsBelow B at ts → AreAllBroken (Also B at ts) (with_broken list at ts)

pub all_with : (ts : List Test) (B : Broken) (list : List BrokenRule) (at : ℕ) → climbs ts ≡ true → AreAllBroken B list → StandsBelow B at ts → AreAllBroken (Also B at ts) (with_broken list at ts)
all_with [] B list at up h below = all_same B (Also B at []) list (λ r p broken. inl broken) (λ r p broken. ⊎_elim (λ b. b) (λ n. absurd n.1) broken) h
all_with (t ∷ ts) B list at up h below = go (λ C more held later. all_with ts C more at (and_parts _ _ up).1 held later) t.is_broken refl
  where
    less : (r p : ℕ) → B r p → (p < at) ⊎ ((p ≡ at) × (r < t.rule))
    less r p broken = ⊎_elim (λ q. inl q) (λ q. inr (q.0, ltb-true r t.rule (and_parts _ _ q.1).0)) (below r p broken)

    later : StandsBelow B at ts
    later r p broken = ⊎_elim (λ q. inl q) (λ q. inr (q.0, (and_parts _ _ q.1).1)) (below r p broken)

    later_too : StandsBelow (one_more B t.rule at) at ts
    later_too r p (inl broken) = later r p broken
    later_too r p (inr same) = inr (same.1, ap (λ n. is_below n ts) same.0 ∙ (and_parts _ _ up).0)

    to : t.is_broken ≡ true → (r p : ℕ) → Also (one_more B t.rule at) at ts r p → Also B at (t ∷ ts) r p
    to is r p (inl (inl broken)) = inl broken
    to is r p (inl (inr same)) = inr (same.1, inl (sym same.0, is))
    to is r p (inr more) = inr (more.0, inr more.1)

    from : (r p : ℕ) → Also B at (t ∷ ts) r p → Also (one_more B t.rule at) at ts r p
    from r p (inl broken) = inl (inl broken)
    from r p (inr (same, inl here)) = inl (inr (sym here.0, same))
    from r p (inr (same, inr more)) = inr (same, more)

    from_none : t.is_broken ≡ false → (r p : ℕ) → Also B at (t ∷ ts) r p → Also B at ts r p
    from_none is r p (inl broken) = inl broken
    from_none is r p (inr (same, inl here)) = absurd (both_ways _ is here.1)
    from_none is r p (inr (same, inr more)) = inr (same, more)

    go : Grows at ts → (b : Bool) → t.is_broken ≡ b → AreAllBroken (Also B at (t ∷ ts)) (with_broken (cond b (list ++ record { rule = t.rule; at = at } ∷ []) list) at ts)
    go rest true is =
        all_same (Also (one_more B t.rule at) at ts) (Also B at (t ∷ ts)) _ (to is) from
        (rest (one_more B t.rule at) (list ++ record { rule = t.rule; at = at } ∷ []) (all_push B list t.rule at h less) later_too)
    go rest false is =
        all_same (Also B at ts) (Also B at (t ∷ ts)) _ (λ r p broken. ⊎_elim (λ q. inl q) (λ q. inr (q.0, inr q.1)) broken) (from_none is)
        (rest B list h later)

-- ---- rules that are put behind others one by one

-- the rule is put behind others, where it is broken
abbrev pub Put : List BrokenRule → ℕ → ℕ → Bool → List BrokenRule → Type 0
Put old rule at is_broken new = new ≡ cond is_broken (old ++ record { rule = rule; at = at } ∷ []) old

pub put : (old : List BrokenRule) (rule at : ℕ) (is_broken tested : Bool) (new : List BrokenRule) → is_broken ≡ tested → Put old rule at is_broken new → Put old rule at tested new
put old rule at is_broken tested new same e = subst (λ b. Put old rule at b new) same e

pub two_put : (a b at : ℕ) (p q : Bool) (l m n : List BrokenRule) → Put l a at p m → Put m b at q n → n ≡ with_broken l at (test a p ∷ test b q ∷ [])
two_put a b at p q l m n e f = f ∙ ap (λ x. with_broken x at (test b q ∷ [])) e

pub four_put : (a b c d at : ℕ) (p q r s : Bool) (l m n o k : List BrokenRule) → Put l a at p m → Put m b at q n → Put n c at r o → Put o d at s k → k ≡ with_broken l at (test a p ∷ test b q ∷ test c r ∷ test d s ∷ [])
four_put a b c d at p q r s l m n o k e f g h = two_put c d at r s n o k g h ∙ ap (λ x. with_broken x at (test c r ∷ test d s ∷ [])) (two_put a b at p q l m n e f)
