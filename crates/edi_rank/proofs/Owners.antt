-- The object that a link is a piece of.
use Rattle.std.proofs.Common.{◌≡◌, ◌≢◌, ℕ, Bool, true, false, true≢false, ◌||◌, nat_eq, List, [], ◌∷◌, Option, Some, None, refl, sym, ap, ◌∙◌, eqb-true, eq-eqb, ne_eqb}
use Rattle.std.specs.List.{AllByRecursion, list_any}
use Rattle.std.specs.Option.{MatchOption}
use Rattle.edi_line.proofs.EachElement.{each_weaker}
use Rattle.edi_record.specs.declared.record.Kind.TheVariants.{Lnk}
use Rattle.edi_plan.specs.Plans.{PlanData, IsPlace, record_at, is_object}
use Rattle.edi_plan.specs.declared.record.PlanRecord.{PlanRecord}
use Rattle.edi_plan.specs.declared.record.PlanEnd.{PlanEnd}
use Rattle.edi_rank.specs.Keys.{is_piece}
use Rattle.edi_rank.specs.Pieces.{object_count}
use Rattle.edi_rank.specs.inner.Pieces.{is_owner}
use Rattle.edi_rank.proofs.ObjectKeys.{only_own}

nothing_found : {X : Type 0} (v : X → Bool) (xs : List X) → AllByRecursion (λ x. v x ≡ false) xs → list_any v xs ≡ true → ⊥
nothing_found v [] all some = true≢false (sym some)
nothing_found v (x ∷ xs) all some = nothing_found v xs all.1 (sym (ap (λ b. b || list_any v xs) all.0) ∙ some)

pub owner_is : (p : PlanData) (r : PlanRecord) (found : Option ℕ) → r.kind ≡ Lnk
    → MatchOption found (object_count p r.ends ≢ 1) (λ k. (object_count p r.ends ≡ 1) × IsPlace p k × (is_object (record_at p k).kind ≡ true) × (list_any (λ e. nat_eq e.target k) r.ends ≡ true))
    → (object : ℕ) → is_object (record_at p object).kind ≡ true → is_piece p object r ≡ is_owner found object
owner_is p r None link other object is = rw (link, ne_eqb (object_count p r.ends) 1 other) refl
owner_is p r (Some k) link one object is = rw (link, eq-eqb (object_count p r.ends) 1 one.0) (go (nat_eq k object) refl)
  where
    own : AllByRecursion (λ (e : PlanEnd). nat_eq e.target object ≡ false → is_object (record_at p e.target).kind ≡ false) r.ends → nat_eq k object ≡ false → ⊥
    own all differs = nothing_found (λ (e : PlanEnd). nat_eq e.target k) r.ends
        (each_weaker (λ (e : PlanEnd). nat_eq e.target object ≡ false → is_object (record_at p e.target).kind ≡ false) (λ e. nat_eq e.target k ≡ false)
        (λ e h. not_own e h (nat_eq e.target k) refl) r.ends all) one.3
      where
        not_own : (e : PlanEnd) → (nat_eq e.target object ≡ false → is_object (record_at p e.target).kind ≡ false) → (b : Bool) → nat_eq e.target k ≡ b → b ≡ false
        not_own e h false f = refl
        not_own e h true f =
            let same : e.target ≡ k = eqb-true e.target k f in
            absurd (true≢false (sym one.2 ∙ (ap (λ j. is_object (record_at p j).kind) (sym same) ∙ h (ap (λ j. nat_eq j object) same ∙ differs))))

    other : (b : Bool) → list_any (λ (e : PlanEnd). nat_eq e.target object) r.ends ≡ b → nat_eq k object ≡ false → b ≡ false
    other false e differs = refl
    other true e differs = absurd (own (only_own (λ (e : PlanEnd). is_object (record_at p e.target).kind) (λ e. nat_eq e.target object) (λ e f. ap (λ j. is_object (record_at p j).kind) (eqb-true e.target object f) ∙ is) r.ends one.0 e) differs)

    go : (b : Bool) → nat_eq k object ≡ b → list_any (λ (e : PlanEnd). nat_eq e.target object) r.ends ≡ nat_eq k object
    go true e = ap (λ j. list_any (λ (e : PlanEnd). nat_eq e.target j) r.ends) (sym (eqb-true k object e)) ∙ (one.3 ∙ sym e)
    go false e = other (list_any (λ (e : PlanEnd). nat_eq e.target object) r.ends) refl e ∙ sym e
