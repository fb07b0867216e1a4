-- The least sides, as those of one arc after another are taken.
use Rattle.std.proofs.Common.{◌≡◌, ◌≢◌, ℕ, ◌+◌, ◌<◌, ◌≤◌, ◌⊎◌, inl, inr, List, length, get_or, set, Option, Some, None, refl, sym, ap, ◌∙◌, subst, arith}
use Rattle.std.proofs.lemmas.Bool.{cases_eq}
use Rattle.std.proofs.lemmas.List.{get_or-set_same, get_or-set_other}
use Rattle.edi_record.specs.declared.record.Kind.TheVariants.{Par}
use Rattle.edi_schema.specs.declared.role.Role.{Role}
use Rattle.edi_schema.specs.declared.role.Role.TheVariants.{Left, Right}
use Rattle.edi_plan.specs.Joined.{IsJoined}
use Rattle.edi_plan.specs.Places.{places_of}
use Rattle.edi_plan.specs.Plans.{PlanData, IsPlace}
use Rattle.edi_plan.specs.Sides.{Side}
use Rattle.edi_plan.specs.Whole.{IsWholePlan}
use Rattle.edi_plan.proofs.PlaceLemmas.{has_place}
use Rattle.edi_topo.proofs.ArcEnds.{one_side}
use Rattle.edi_rank.specs.Keys.{least_side}
use Rattle.edi_rank.specs.Layers.{forward_plan}
use Rattle.edi_rank.specs.Turned.{is_backward}
use Rattle.edi_rank.specs.declared.keys.FaceKey.{FaceKey}
use Rattle.edi_rank.specs.inner.ArcSides.{side_key, lesser_of, IsSideTaken}
use Rattle.edi_rank.proofs.LeastSides.{IsLeastOf, least_with, least_of_same, one_least}
use Rattle.edi_rank.proofs.Sided.{OnSide, least_is_of}

module _ (p : PlanData) (number : ℕ → ℕ) where
  -- the face is on a side of one of the first n arcs
  abbrev pub OnSideBelow : ℕ → ℕ → FaceKey → Type 0
  OnSideBelow n face key = (on : OnSide p number face key) × (m : ℕ) × (m < n) × (get_or (places_of Par p) m 0 ≡ on.arc)

  abbrev pub AreLeastBelow : ℕ → List (Option FaceKey) → Type 0
  AreLeastBelow n sides = (face : ℕ) → IsPlace p face → IsLeastOf (OnSideBelow n face) (get_or sides face None)

  -- what an arc has by a role is set at its place, and nothing elsewhere
  pub one_taken : IsJoined p → (arc : ℕ) (role : Role) (sides : List (Option FaceKey)) (x : ℕ) (side : FaceKey) → length sides ≡ length p.list → IsPlace p x → Side p arc role x
      → side ≡ lesser_of (get_or sides x None) (side_key p number arc role) → (face : ℕ) → IsSideTaken p number arc role face (get_or sides face None) (get_or (set sides x (Some side)) face None)
  one_taken joined arc role sides x side long there has is face = go (cases_eq face x)
    where
      go : (face ≡ x) ⊎ (face ≡ x → ⊥) → IsSideTaken p number arc role face (get_or sides face None) (get_or (set sides x (Some side)) face None)
      go (inl e) = subst (λ y. IsSideTaken p number arc role y (get_or sides y None) (get_or (set sides x (Some side)) y None)) (sym e)
          (inl (has, get_or-set_same sides x (Some side) None (omega (arith, there, long)) ∙ ap Some is))
      go (inr other) = inr (λ s. other (one_side p joined arc face x role s has), get_or-set_other sides x face (Some side) None other)

  module _ (face : ℕ) where
    -- one of these, or what the arc has by the role
    abbrev OrBy : (FaceKey → Type 0) → ℕ → Role → FaceKey → Type 0
    OrBy P arc role key = P key ⊎ (Side p arc role face × (key ≡ side_key p number arc role))

    taken_least : (P : FaceKey → Type 0) (arc : ℕ) (role : Role) (before after : Option FaceKey) → IsSideTaken p number arc role face before after → IsLeastOf P before → IsLeastOf (OrBy P arc role) after
    taken_least P arc role before after (inl d) least =
        subst (IsLeastOf (OrBy P arc role)) (sym d.1) (least_with P (OrBy P arc role) before (side_key p number arc role) least (λ key h. inl h) (inr (d.0, refl)) back)
      where
        back : (key : FaceKey) → OrBy P arc role key → P key ⊎ (key ≡ side_key p number arc role)
        back key (inl h) = inl h
        back key (inr s) = inr s.1
    taken_least P arc role before after (inr d) least = subst (IsLeastOf (OrBy P arc role)) (sym d.1) (least_of_same P (OrBy P arc role) before least (λ key h. inl h) back)
      where
        back : (key : FaceKey) → OrBy P arc role key → P key
        back key (inl h) = h
        back key (inr s) = absurd (d.0 s.0)

    module _ (n : ℕ) where
      abbrev arc : ℕ
      arc = get_or (places_of Par p) n 0

      abbrev Below : FaceKey → Type 0
      Below = OnSideBelow n face

      abbrev WithBoth : FaceKey → Type 0
      WithBoth = OrBy (OrBy Below arc Left) arc Right

      there : (key : FaceKey) → WithBoth key → OnSideBelow (n + 1) face key
      there key (inl (inl d)) = (d.0, d.1, (let l = d.2 in omega (arith, l)), d.3)
      there key (inl (inr s)) = (record { arc = arc; role = Left; is_side = inl refl; side = s.0; key_is = s.1 }, n, omega arith, refl)
      there key (inr s) = (record { arc = arc; role = Right; is_side = inr refl; side = s.0; key_is = s.1 }, n, omega arith, refl)

      here : (key : FaceKey) (a : ℕ) (role : Role) → (role ≡ Left) ⊎ (role ≡ Right) → Side p a role face → key ≡ side_key p number a role → arc ≡ a → WithBoth key
      here key a role (inl r) side is e =
          inl (inr (subst (λ r. Side p arc r face) r (subst (λ b. Side p b role face) (sym e) side), subst (λ r. key ≡ side_key p number arc r) r (subst (λ b. key ≡ side_key p number b role) (sym e) is)))
      here key a role (inr r) side is e =
          inr (subst (λ r. Side p arc r face) r (subst (λ b. Side p b role face) (sym e) side), subst (λ r. key ≡ side_key p number arc r) r (subst (λ b. key ≡ side_key p number b role) (sym e) is))

      back : (key : FaceKey) → OnSideBelow (n + 1) face key → WithBoth key
      back key d = go (cases_eq d.1 n)
        where
          below : (m : ℕ) → m < n + 1 → m ≢ n → m < n
          below m l apart = grind arith

          go : (d.1 ≡ n) ⊎ (d.1 ≡ n → ⊥) → WithBoth key
          go (inl e) = here key d.0.arc d.0.role d.0.is_side d.0.side d.0.key_is (ap (λ m. get_or (places_of Par p) m 0) (sym e) ∙ d.3)
          go (inr other) = inl (inl (d.0, d.1, below d.1 d.2 other, d.3))

      both_taken : (before between after : Option FaceKey) → IsSideTaken p number arc Left face before between → IsSideTaken p number arc Right face between after → IsLeastOf Below before → IsLeastOf (OnSideBelow (n + 1) face) after
      both_taken before between after left right least =
          least_of_same WithBoth (OnSideBelow (n + 1) face) after (taken_least (OrBy Below arc Left) arc Right between after right (taken_least Below arc Left before between left least)) there back

  -- one arc more
  pub arc_taken : (n : ℕ) (before between after : List (Option FaceKey)) → ((face : ℕ) → IsSideTaken p number (get_or (places_of Par p) n 0) Left face (get_or before face None) (get_or between face None))
      → ((face : ℕ) → IsSideTaken p number (get_or (places_of Par p) n 0) Right face (get_or between face None) (get_or after face None)) → AreLeastBelow n before → AreLeastBelow (n + 1) after
  arc_taken n before between after left right least face h = both_taken face n (get_or before face None) (get_or between face None) (get_or after face None) (left face) (right face) (least face h)

  -- all arcs
  pub all_taken : IsWholePlan p → IsJoined p → (n : ℕ) (sides : List (Option FaceKey)) → length (places_of Par p) ≤ n → AreLeastBelow n sides → (k : ℕ) → IsPlace p k → get_or sides k None ≡ least_side (forward_plan p) number k
  all_taken whole joined n sides all least k h =
      one_least (OnSide p number k) (get_or sides k None) (least_side (forward_plan p) number k)
      (least_of_same (OnSideBelow n k) (OnSide p number k) (get_or sides k None) (least k h) (λ key d. d.0) back) (least_is_of p whole joined (λ c. c) (is_backward p) (λ k h. refl) k number)
    where
      back : (key : FaceKey) → OnSide p number k key → OnSideBelow n k key
      back key on =
          let m = has_place Par p on.arc on.side.arc_there on.side.is_arc in
          (on, m.0, omega (arith, m.1, all), m.2)
