-- Tables of which records are on a side of an arc.
use Rattle.std.proofs.Common.{◌≡◌, ◌≢◌, ℕ, ◌+◌, ◌<◌, ◌⊎◌, inl, inr, Bool, true, false, true≢false, List, length, get_or, set, sym, ap, ◌∙◌, subst, arith, ◌↔◌, get_or-set_same, get_or-set_other}
use Rattle.std.proofs.lemmas.Bool.{cases_eq}
use Rattle.edi_record.specs.declared.record.Kind.TheVariants.{Par}
use Rattle.edi_schema.specs.declared.role.Role.TheVariants.{Left, Right}
use Rattle.edi_plan.specs.Plans.{PlanData, record_at}
use Rattle.edi_plan.specs.Sides.{Side}
use Rattle.edi_topo.specs.inner.Faces.{IsFacedBelow, AreFacedBelow}

pub marked : (xs : List Bool) (i x : ℕ) → i < length xs → (get_or (set xs i true) x false ≡ true) ↔ ((get_or xs x false ≡ true) ⊎ (x ≡ i))
marked xs i x h = go (cases_eq x i)
  where
    go : (x ≡ i) ⊎ (x ≡ i → ⊥) → (get_or (set xs i true) x false ≡ true) ↔ ((get_or xs x false ≡ true) ⊎ (x ≡ i))
    go (inl e) = (λ _. inr e, λ _. ap (λ k. get_or (set xs i true) k false) e ∙ get_or-set_same xs i true false h)
    go (inr ne) =
        let same = get_or-set_other xs i x true false ne in
        (λ t. inl (sym same ∙ t), λ t. same ∙ left t)
      where
        left : (get_or xs x false ≡ true) ⊎ (x ≡ i) → get_or xs x false ≡ true
        left (inl t) = t
        left (inr e) = absurd (ne e)

module _ (p : PlanData) where
  pub faced_before : (xs : List Bool) → length xs ≡ length p.list → ((x : ℕ) → get_or xs x false ≡ false) → AreFacedBelow p 0 xs
  faced_before xs long none = record { long = long; each = λ x. (λ t. absurd (true≢false (sym t ∙ none x)), λ d. absurd (omega (arith, d.1))) }

  -- an arc more
  pub faced_by_arc : (n : ℕ) (xs ys zs : List Bool) → length zs ≡ length p.list → AreFacedBelow p n xs
      → ((x : ℕ) → (get_or ys x false ≡ true) ↔ ((get_or xs x false ≡ true) ⊎ Side p n Left x))
      → ((x : ℕ) → (get_or zs x false ≡ true) ↔ ((get_or ys x false ≡ true) ⊎ Side p n Right x)) → AreFacedBelow p (n + 1) zs
  faced_by_arc n xs ys zs long before left right = record { long = long; each = λ x. (there x, back x) }
    where
      more : (x : ℕ) → IsFacedBelow p n x → IsFacedBelow p (n + 1) x
      more x d = (d.0, let l = d.1 in omega (arith, l), d.2)

      here : (x : ℕ) → Side p n Left x ⊎ Side p n Right x → IsFacedBelow p (n + 1) x
      here x s = (n, omega arith, s)

      there : (x : ℕ) → get_or zs x false ≡ true → IsFacedBelow p (n + 1) x
      there x t = go ((right x).0 t)
        where
          before_left : (get_or xs x false ≡ true) ⊎ Side p n Left x → IsFacedBelow p (n + 1) x
          before_left (inl u) = more x ((before.each x).0 u)
          before_left (inr s) = here x (inl s)

          go : (get_or ys x false ≡ true) ⊎ Side p n Right x → IsFacedBelow p (n + 1) x
          go (inl u) = before_left ((left x).0 u)
          go (inr s) = here x (inr s)

      back : (x : ℕ) → IsFacedBelow p (n + 1) x → get_or zs x false ≡ true
      back x d = go (cases_eq d.0 n)
        where
          on : Side p n Left x ⊎ Side p n Right x → get_or zs x false ≡ true
          on (inl s) = (right x).1 (inl ((left x).1 (inr s)))
          on (inr s) = (right x).1 (inr s)

          go : (d.0 ≡ n) ⊎ (d.0 ≡ n → ⊥) → get_or zs x false ≡ true
          go (inl e) = on (subst (λ k. Side p k Left x ⊎ Side p k Right x) e d.2)
          go (inr ne) = (right x).1 (inl ((left x).1 (inl ((before.each x).1 (d.0, below d.0 d.1 ne, d.2)))))
            where
              below : (k : ℕ) → k < n + 1 → k ≢ n → k < n
              below k h apart = grind arith

  -- another record more
  pub faced_by_none : (n : ℕ) (xs : List Bool) → (record_at p n).kind ≢ Par → AreFacedBelow p n xs → AreFacedBelow p (n + 1) xs
  faced_by_none n xs other before = record { long = before.long; each = λ x. (λ t. more x ((before.each x).0 t), λ d. (before.each x).1 (less x d)) }
    where
      more : (x : ℕ) → IsFacedBelow p n x → IsFacedBelow p (n + 1) x
      more x d = (d.0, let l = d.1 in omega (arith, l), d.2)

      arc : (k x : ℕ) → Side p k Left x ⊎ Side p k Right x → (record_at p k).kind ≡ Par
      arc k x (inl s) = s.is_arc
      arc k x (inr s) = s.is_arc

      less : (x : ℕ) → IsFacedBelow p (n + 1) x → IsFacedBelow p n x
      less x d = go (cases_eq d.0 n)
        where
          go : (d.0 ≡ n) ⊎ (d.0 ≡ n → ⊥) → IsFacedBelow p n x
          go (inl e) = absurd (other (subst (λ k. (record_at p k).kind ≡ Par) e (arc d.0 x d.2)))
          go (inr ne) = (d.0, below d.0 d.1 ne, d.2)
            where
              below : (k : ℕ) → k < n + 1 → k ≢ n → k < n
              below k h apart = grind arith
