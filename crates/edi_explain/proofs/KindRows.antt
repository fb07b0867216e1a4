-- The classes of the four kinds, one record at a time, and what of them breaks rule 604.
use Rattle.std.proofs.Common.{◌≡◌, ◌∙◌, ◌⊎◌, inl, inr, ℕ, ◌+◌, ◌-◌, ◌<◌, Bool, true, false, List, [], length, Option, Some, None, MatchOption, slice_get, sym, ap, subst, refl, arith}
use Rattle.std.specs.List.{list_any}
use Rattle.std.proofs.lemmas.Bool.{cases_order}
use Rattle.std.proofs.lemmas.Option.{same_Some}
use Rattle.edi_line.specs.ZoneData.{ZoneData}
use Rattle.edi_line.specs.declared.zone.Zone.{Zone}
use Rattle.edi_record.specs.Texts.{is_semicolon}
use Rattle.edi_schema.specs.Roles.{KindCodes, exchanged, role_rank}
use Rattle.edi_schema.specs.SchemaRules.{BreaksKinds}
use Rattle.edi_schema.specs.declared.role.Role.{Role}
use Rattle.edi_explain.specs.KindClasses.{IsBefore, IsClassBehind, IsClassOf, IsKindsCause, IsWrong, case_rank}
use Rattle.edi_plan.specs.EarlierLinks.{IsLeast}
use Rattle.edi_explain.specs.declared.kind_causes.KindsCase.{KindsCase}
use Rattle.edi_explain.specs.declared.kind_causes.KindsCase.TheVariants.{Two, Alone, Barred}
use Rattle.edi_explain.specs.declared.kind_causes.KindsCause.{KindsCause}
use Rattle.edi_explain.specs.inner.KindClasses.{HoldsSemicolon, IsFirstOfCase, StatesClassOf}
use Rattle.edi_explain.proofs.RowGroups.{IsLeftAt, ended}

pub with_match : {X : Type 0} (o : Option X) (P P' : Type 0) (Q Q' : X → Type 0) → (P → P') → ((x : X) → Q x → Q' x) → MatchOption o P Q → MatchOption o P' Q'
with_match (Some x) P P' Q Q' f g h = g x h
with_match None P P' Q Q' f g h = f h

module _ (groups : List (List ZoneData)) (kinds : KindCodes) where
  -- ---- one record

  pub class_here : (role : Role) (behind n : ℕ) (g : List ZoneData) → behind < n + 1 → slice_get groups n ≡ Some g → StatesClassOf kinds g role → IsClassBehind groups kinds role behind (n + 1)
  class_here role behind n g less there h =
      (less, (g, h.0, (omega arith, ap (slice_get groups) (omega arith) ∙ there), h.1, h.2, h.3))

  pub states_here : (role : Role) (behind n : ℕ) (g : List ZoneData) → slice_get groups n ≡ Some g → IsClassBehind groups kinds role behind (n + 1) → StatesClassOf kinds g role
  states_here role behind n g there h =
      let same : slice_get groups n ≡ Some h.1.0 = ap (slice_get groups) (omega arith) ∙ h.1.2.1 in
      subst (λ (x : List ZoneData). StatesClassOf kinds x role) (same_Some _ _ (sym same ∙ there)) (h.1.1, h.1.3, h.1.4, h.1.5)

  -- where no group is left, none is behind those that have come
  pub none_left : (role : Role) (behind number : ℕ) (rest : List Zone) → length rest < 1 → IsLeftAt groups number rest
      → ((n : ℕ) → n < number + 1 → ¬ (IsClassBehind groups kinds role behind n)) → (n : ℕ) → ¬ (IsClassBehind groups kinds role behind n)
  none_left role behind number rest short left none n h = go (cases_order (number + 1) n)
    where
      past : number < n → ⊥
      past less = ended groups number (n - 1) rest h.1.0 short left (omega arith) h.1.2.1

      go : (number + 1 ≡ n) ⊎ ((number + 1 < n) ⊎ (n < number + 1)) → ⊥
      go (inl e) = past (omega arith)
      go (inr (inl more)) = past (omega arith)
      go (inr (inr less)) = none n less h

  -- ---- one kind

  pub behind_all : (role : Role) (n : ℕ) → IsClassOf groups kinds role n → IsClassBehind groups kinds role 0 n
  behind_all role n h = (omega (arith, h.2.0), h)

  -- the same class, by an equal kind
  pub of_role : (r s : Role) (n : ℕ) → r ≡ s → IsClassOf groups kinds r n → IsClassOf groups kinds s n
  of_role r s n e h = subst (λ (x : Role). IsClassOf groups kinds x n) e h

  -- where a kind has not two classes, each is the first
  pub one_class : (role : Role) (k n : ℕ) → ¬ (IsWrong groups kinds Two role) → IsLeast (IsClassBehind groups kinds role 0) k → IsClassOf groups kinds role n → n ≡ k
  one_class role k n one first h = go (cases_order n k)
    where
      go : (n ≡ k) ⊎ ((n < k) ⊎ (k < n)) → n ≡ k
      go (inl e) = e
      go (inr (inl less)) = absurd (omega (arith, less, first.least n (behind_all role n h)))
      go (inr (inr more)) = absurd (one (k, n, more, first.is.1, h))

  pub holds_of : (role : Role) (n : ℕ) (h : IsClassOf groups kinds role n) → list_any is_semicolon h.1.rty ≡ true → HoldsSemicolon groups n
  holds_of role n h t = (h.0, h.1.rty, h.2.1, h.3.rty, t)

  pub type_holds : (role : Role) (n : ℕ) (h : IsClassOf groups kinds role n) → HoldsSemicolon groups n → list_any is_semicolon h.1.rty ≡ true
  type_holds role n h d =
      let group : d.0 ≡ h.0 = same_Some _ _ (sym d.2 ∙ h.2.1) in
      let rty : d.1 ≡ h.1.rty = same_Some _ _ (sym d.3 ∙ (ap (λ (g : List ZoneData). Rattle.edi_line.specs.ZoneData.first (Rattle.edi_record.specs.Records.values (Rattle.std.specs.Prelude.codes "RTY") g)) group ∙ h.3.rty)) in
      sym (ap (list_any is_semicolon) rty) ∙ d.4

  pub type_lacks : (role : Role) (n : ℕ) (h : IsClassOf groups kinds role n) → ¬ (HoldsSemicolon groups n) → list_any is_semicolon h.1.rty ≡ false
  type_lacks role n h lacks = go (list_any is_semicolon h.1.rty) refl
    where
      go : (b : Bool) → list_any is_semicolon h.1.rty ≡ b → b ≡ false
      go false e = refl
      go true e = absurd (lacks (holds_of role n h e))

  module _ (role partner : Role) (is : partner ≡ exchanged role) (k j : ℕ) (first : IsLeast (IsClassBehind groups kinds role 0) k) (other : IsLeast (IsClassBehind groups kinds partner 0) j) where
    pub barred_wrong : HoldsSemicolon groups k → ¬ (HoldsSemicolon groups j) → IsWrong groups kinds Barred role
    barred_wrong holds lacks =
        let x = other.is.1 in
        (k, j, first.is.1, (x.0, x.1, x.2, x.3, x.4 ∙ is, λ p. x.5 (is ∙ p)), type_holds role k first.is.1 holds, type_lacks partner j x lacks)

    pub not_barred : ((r : Role) → ¬ (IsWrong groups kinds Two r)) → ((HoldsSemicolon groups k → ⊥) ⊎ HoldsSemicolon groups j) → ¬ (IsWrong groups kinds Barred role)
    not_barred one which h = go which
      where
        same : h.0 ≡ k
        same = one_class role k h.0 (one role) first h.2

        also : h.1 ≡ j
        also = one_class partner j h.1 (one partner) other (of_role (exchanged role) partner h.1 (sym is) h.3)

        go : ((HoldsSemicolon groups k → ⊥) ⊎ HoldsSemicolon groups j) → ⊥
        go (inl lacks) = lacks (subst (HoldsSemicolon groups) same (holds_of role h.0 h.2 h.4))
        go (inr holds) = let t = type_holds (exchanged role) h.1 h.3 (subst (HoldsSemicolon groups) (sym also) holds) in let f = h.5 in cc

  -- ---- all kinds

  pub cause_first : (case : KindsCase) (cause : KindsCause) → IsFirstOfCase groups kinds case cause
      → ((c : KindsCase) (r : Role) → case_rank c < case_rank case → ¬ (IsWrong groups kinds c r)) → IsKindsCause groups kinds cause
  cause_first case cause d none = record {
    wrong = subst (λ (c : KindsCase). IsWrong groups kinds c cause.role) (sym d.is.case_is) (subst (IsWrong groups kinds case) (sym d.is.role_is) d.is.wrong);
    first = λ c r before. go c r before;
    classes = subst (λ (c : KindsCase). Rattle.edi_explain.specs.KindClasses.AreClasses groups kinds c cause.role cause.number cause.earlier) (sym d.is.case_is)
        (subst (λ (r : Role). Rattle.edi_explain.specs.KindClasses.AreClasses groups kinds case r cause.number cause.earlier) (sym d.is.role_is) d.is.classes);
  }
    where
      go : (c : KindsCase) (r : Role) → IsBefore c r cause → ¬ (IsWrong groups kinds c r)
      go c r (inl less) = none c r (omega (arith, less, ap case_rank d.is.case_is))
      go c r (inr same) = subst (λ (x : KindsCase). ¬ (IsWrong groups kinds x r)) (sym (same.0 ∙ d.is.case_is)) (d.first r (omega (arith, same.1, ap role_rank d.is.role_is)))

  pub below_alone : ((r : Role) → ¬ (IsWrong groups kinds Two r)) → (c : KindsCase) (r : Role) → case_rank c < case_rank Alone → ¬ (IsWrong groups kinds c r)
  below_alone two Two r less = two r
  below_alone two Alone r less = absurd (omega (arith, less))
  below_alone two Barred r less = absurd (omega (arith, less))

  pub below_barred : ((r : Role) → ¬ (IsWrong groups kinds Two r)) → ((r : Role) → ¬ (IsWrong groups kinds Alone r))
      → (c : KindsCase) (r : Role) → case_rank c < case_rank Barred → ¬ (IsWrong groups kinds c r)
  below_barred two alone Two r less = two r
  below_barred two alone Alone r less = alone r
  below_barred two alone Barred r less = absurd (omega (arith, less))

  pub none_broken : ((r : Role) → ¬ (IsWrong groups kinds Two r)) → ((r : Role) → ¬ (IsWrong groups kinds Alone r)) → ((r : Role) → ¬ (IsWrong groups kinds Barred r))
      → ¬ (BreaksKinds groups [] kinds)
  none_broken two alone barred h = go h
    where
      go : BreaksKinds groups [] kinds → ⊥
      go (inl t) = two t.2 (t.0, t.1, t.3, t.4, t.5)
      go (inr (inl a)) = alone a.1 (a.0, a.2, a.3)
      go (inr (inr b)) = barred b.2 (b.0, b.1, b.3, b.4, b.5, b.6)
