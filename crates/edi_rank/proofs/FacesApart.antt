-- Where no rule of topology is broken each face has a side, and no two have the same.
use Rattle.std.proofs.Common.{◌≡◌, ℕ, suc, ◌<◌, ◌⊎◌, inl, inr, Bool, true, false, cond, List, [], length, get_or, Option, Some, None, unwrap_or, refl, sym, ap, ◌∙◌, subst, arith}
use Rattle.std.proofs.lemmas.List.{get_or-map}
use Rattle.edi_line.specs.Refusal.{IsUnbroken}
use Rattle.edi_record.specs.declared.record.Kind.TheVariants.{Par, Pfe}
use Rattle.edi_schema.specs.Roles.{exchanged}
use Rattle.edi_schema.specs.declared.role.Role.{Role}
use Rattle.edi_schema.specs.declared.role.Role.TheVariants.{Left, Right}
use Rattle.edi_schema.proofs.RoleTests.{exchanged_back}
use Rattle.edi_plan.specs.Joined.{IsJoined}
use Rattle.edi_plan.specs.Places.{places_of, member_of}
use Rattle.edi_plan.specs.Plans.{PlanData, IsPlace, record_at}
use Rattle.edi_plan.specs.Sides.{Side}
use Rattle.edi_plan.specs.Whole.{IsWholePlan}
use Rattle.edi_plan.proofs.PlaceLemmas.{place_there, place_of_kind, places_rise}
use Rattle.edi_topo.specs.Ranking.{Ties}
use Rattle.edi_topo.specs.TopologyRules.{BreaksTopologyRule}
use Rattle.edi_topo.specs.TopologyRules.BreaksTopologyRule.{bounds_nothing}
use Rattle.edi_topo.proofs.ArcEnds.{one_side}
use Rattle.edi_rank.specs.Keys.{least_side, face_key_cmp}
use Rattle.edi_rank.specs.KeyLaws.{IsNowhereBroken, TellsTypeApart}
use Rattle.edi_rank.specs.Labelling.{NumbersEach}
use Rattle.edi_rank.specs.Layers.{forward_plan, face_keys, no_side, number_by, ranked}
use Rattle.edi_rank.specs.Turned.{is_backward}
use Rattle.edi_rank.specs.declared.keys.FaceKey.{FaceKey}
use Rattle.edi_rank.specs.inner.ArcSides.{side_key}
use Rattle.edi_rank.proofs.LeastSides.{IsLeastOf}
use Rattle.edi_rank.proofs.Sided.{OnSide, least_is_of}
use Rattle.edi_rank.proofs.Orders.{face_key_exact}
use Rattle.edi_rank.proofs.RankedApart.{place_of_member}

-- roles

one_role : (t : Bool) (r q : Role) → cond t (exchanged r) r ≡ cond t (exchanged q) q → r ≡ q
one_role true r q e = sym (exchanged_back r) ∙ (ap exchanged e ∙ exchanged_back q)
one_role false r q e = e

module _ (p : PlanData) (whole : IsWholePlan p) (joined : IsJoined p) (number : ℕ → ℕ) where
  on_side : (x : ℕ) (key : FaceKey) → least_side (forward_plan p) number x ≡ Some key → OnSide p number x key
  on_side x key e = (subst (IsLeastOf (OnSide p number x)) e (least_is_of p whole joined (λ c. c) (is_backward p) (λ k h. refl) x number)).0

  -- what an arc has on its left or right has a side
  pub some_side : IsNowhereBroken p 406 → (x : ℕ) → IsPlace p x → (record_at p x).kind ≡ Pfe → (key : FaceKey) × (least_side (forward_plan p) number x ≡ Some key)
  some_side bounded x h face = go (least_side (forward_plan p) number x) (least_is_of p whole joined (λ c. c) (is_backward p) (λ k h. refl) x number)
    where
      go : (o : Option FaceKey) → IsLeastOf (OnSide p number x) o → (key : FaceKey) × (o ≡ Some key)
      go (Some key) least = (key, refl)
      go None none = absurd (bounded (suc x) (bounds_nothing refl (x, (record_at p x).points, refl, (h, face, refl), λ a. neither a)))
        where
          on : (a : ℕ) (role : Role) → (role ≡ Left) ⊎ (role ≡ Right) → Side p a role x → ⊥
          on a role is side = none (side_key p number a role) (record { arc = a; role = role; is_side = is; side = side; key_is = refl })

          neither : (a : ℕ) → Side p a Left x ⊎ Side p a Right x → ⊥
          neither a (inl side) = on a Left (inl refl) side
          neither a (inr side) = on a Right (inr refl) side

  module _ (one_arc : TellsTypeApart p Par number) where
    same_face : (x y : ℕ) (key : FaceKey) → OnSide p number x key → OnSide p number y key → x ≡ y
    same_face x y key on other =
        let keys : side_key p number on.arc on.role ≡ side_key p number other.arc other.role = sym on.key_is ∙ other.key_is in
        let arc : on.arc ≡ other.arc = one_arc on.arc other.arc on.side.arc_there other.side.arc_there on.side.is_arc other.side.is_arc (ap (λ (k : FaceKey). k.arc) keys) in
        let sides : cond (is_backward p on.arc) (exchanged on.role) on.role ≡ cond (is_backward p other.arc) (exchanged other.role) other.role = ap (λ (k : FaceKey). k.side) keys in
        let role : on.role ≡ other.role =
        one_role (is_backward p on.arc) on.role other.role (sides ∙ ap (λ a. cond (is_backward p a) (exchanged other.role) other.role) (sym arc)) in
        one_side p joined on.arc x y on.role on.side (subst (λ r. Side p on.arc r y) (sym role) (subst (λ a. Side p a other.role y) (sym arc) other.side))

    pub one_face : IsNowhereBroken p 406 → TellsTypeApart p Pfe (least_side (forward_plan p) number)
    one_face bounded x y h g face other e =
        let side = some_side bounded x h face in
        same_face x y side.0 (on_side x side.0 side.1) (on_side y side.0 (sym e ∙ side.1))

module _ (p : PlanData) (whole : IsWholePlan p) (joined : IsJoined p) (arcs : List ℕ) (each : NumbersEach arcs) (long : length arcs ≡ length (places_of Par p)) where
  abbrev number : ℕ → ℕ
  number = ranked p [] arcs []

  one_arc : TellsTypeApart p Par number
  one_arc a b h l arc other e =
      let first = subst (λ kind. (member_of p a < length (places_of kind p)) × (get_or (places_of kind p) (member_of p a) 0 ≡ a)) arc (place_of_member p a h) in
      let second = subst (λ kind. (member_of p b < length (places_of kind p)) × (get_or (places_of kind p) (member_of p b) 0 ≡ b)) other (place_of_member p b l) in
      let numbers : get_or arcs (member_of p a) 0 ≡ get_or arcs (member_of p b) 0 =
      sym (ap (λ kind. number_by [] arcs [] kind (member_of p a)) arc) ∙ (e ∙ ap (λ kind. number_by [] arcs [] kind (member_of p b)) other) in
      let same = each.apart (member_of p a) (member_of p b) (omega (arith, first.0, long)) (omega (arith, second.0, long)) numbers in
      sym first.1 ∙ (ap (λ m. get_or (places_of Par p) m 0) same ∙ second.1)

  abbrev face_place : ℕ → ℕ
  face_place m = get_or (places_of Pfe p) m 0

  pub face_key_is : (m : ℕ) → m < length (places_of Pfe p) → get_or (face_keys p arcs) m no_side ≡ unwrap_or (least_side (forward_plan p) number (face_place m)) no_side
  face_key_is m h = get_or-map (λ k. unwrap_or (least_side (forward_plan p) number k) no_side) (places_of Pfe p) m 0 no_side h

  module _ (sound : IsUnbroken (BreaksTopologyRule p)) where
    -- the least side of a face is its key
    pub least_is : (m : ℕ) → m < length (places_of Pfe p) → least_side (forward_plan p) number (face_place m) ≡ Some (get_or (face_keys p arcs) m no_side)
    least_is m h =
        let s = some_side p whole joined number (sound 406) (face_place m) (place_there Pfe p m h) (place_of_kind Pfe p m h) in
        s.1 ∙ ap Some (sym (face_key_is m h ∙ ap (λ o. unwrap_or o no_side) s.1))

    pub no_face_ties : (m : ℕ) → ¬ (Ties face_key_cmp (λ n. get_or (face_keys p arcs) n no_side) (length (places_of Pfe p)) m)
    no_face_ties m tie =
        let n = tie.1.0 in
        let less : n < length (places_of Pfe p) = omega (arith, tie.0, tie.1.1) in
        let keys = face_key_exact (get_or (face_keys p arcs) n no_side) (get_or (face_keys p arcs) m no_side) tie.1.2 in
        let same : face_place n ≡ face_place m =
        one_face p whole joined number one_arc (sound 406) (face_place n) (face_place m) (place_there Pfe p n less) (place_there Pfe p m tie.0) (place_of_kind Pfe p n less) (place_of_kind Pfe p m tie.0)
        (least_is n less ∙ (ap Some keys ∙ sym (least_is m tie.0))) in
        omega (arith, same, places_rise Pfe p n m tie.1.1 tie.0)
