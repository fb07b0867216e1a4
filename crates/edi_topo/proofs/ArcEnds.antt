-- The nodes and the faces that arcs have by their links.
use Rattle.std.proofs.Common.{◌≡◌, ◌≢◌, ℕ, suc, ◌+◌, ◌-◌, ◌<◌, ◌⊎◌, inl, inr, Bool, true, true≢false, List, [], ◌∷◌, ◌++◌, map, length, get_or, refl, sym, ap, ◌∙◌, subst, arith, Ordering, Less, Equal, Greater}
use Rattle.std.specs.Bool.{IsTrue}
use Rattle.std.specs.List.{AllByRecursion}
use Rattle.std.specs.Ordering.{is_ne, is_eq}
use Rattle.std.proofs.lemmas.Bool.{leb-true}
use Rattle.edi_record.specs.Orders.{point_cmp}
use Rattle.edi_record.specs.Shapes.{may_have_points}
use Rattle.edi_record.specs.declared.record.Kind.TheVariants.{Pno, Par}
use Rattle.edi_record.specs.declared.record.Point.{Point}
use Rattle.edi_schema.specs.Roles.{is_plain}
use Rattle.edi_schema.specs.declared.role.Role.{Role}
use Rattle.edi_schema.specs.declared.role.Role.TheVariants.{Initial, Final, Left, Right, Plain}
use Rattle.edi_schema.proofs.RoleTests.{is_plain_not}
use Rattle.edi_plan.specs.Joined.{beside, HasEnds, JoinsArc, IsJoin, IsJoined}
use Rattle.edi_plan.specs.Plans.{PlanData, IsPlace, record_at}
use Rattle.edi_plan.specs.Sides.{Side, targets}
use Rattle.edi_plan.specs.Whole.{IsWholePlan}
use Rattle.edi_plan.specs.declared.record.PlanEnd.{PlanEnd}
use Rattle.edi_plan.proofs.Orders.{point_exact}
use Rattle.edi_topo.specs.NodeKeys.{no_point}
use Rattle.edi_topo.specs.TopologyRules.{StartsElsewhere, EndsElsewhere}

-- ---- truth of comparisons

pub ne_differs : (o : Ordering) (b : Bool) → b ≡ is_ne o → IsTrue b → o ≢ Equal
ne_differs o b e t f = true≢false (sym t ∙ (e ∙ ap is_ne f))

pub differs_ne : (o : Ordering) (b : Bool) → b ≡ is_ne o → o ≢ Equal → IsTrue b
differs_ne Less b e apart = e
differs_ne Equal b e apart = absurd (apart refl)
differs_ne Greater b e apart = e

pub eq_tied : (o : Ordering) (b : Bool) → b ≡ is_eq o → IsTrue b → o ≡ Equal
eq_tied Less b e t = absurd (true≢false (sym t ∙ e))
eq_tied Equal b e t = refl
eq_tied Greater b e t = absurd (true≢false (sym t ∙ e))

-- ---- the ends of lists

pub one_alone : {X : Type 0} (xs : List X) (d : X) → length xs ≡ 1 → xs ≡ get_or xs 0 d ∷ []
one_alone [] d e = absurd (omega (arith, e))
one_alone (x ∷ []) d e = refl
one_alone (x ∷ y ∷ xs) d e = absurd (omega (arith, e))

pub first_apart : {X : Type 0} (xs : List X) (d : X) → 0 < length xs → (others : List X) × (xs ≡ get_or xs 0 d ∷ others)
first_apart [] d h = absurd (omega (arith, h))
first_apart (x ∷ xs) d h = (xs, refl)

pub last_apart : {X : Type 0} (xs : List X) (d : X) → 0 < length xs → (others : List X) × (xs ≡ others ++ get_or xs (length xs - 1) d ∷ [])
last_apart [] d h = absurd (omega (arith, h))
last_apart (x ∷ []) d h = ([], refl)
last_apart {X = X} (x ∷ y ∷ xs) d h =
    let more = last_apart (y ∷ xs) d (omega arith) in
    let step : suc (length (y ∷ xs) - 1) ≡ length (x ∷ y ∷ xs) - 1 = omega arith in
    (x ∷ more.0, subst (λ n. x ∷ y ∷ xs ≡ x ∷ (more.0 ++ get_or (x ∷ y ∷ xs) n d ∷ [])) step (ap (λ zs. x ∷ zs) more.1))

pub last_read : {X : Type 0} (xs : List X) (y d : X) → get_or (xs ++ y ∷ []) (length (xs ++ y ∷ []) - 1) d ≡ y
last_read [] y d = refl
last_read (x ∷ []) y d = refl
last_read (x ∷ z ∷ xs) y d =
    let step : length ((x ∷ z ∷ xs) ++ y ∷ []) - 1 ≡ suc (length ((z ∷ xs) ++ y ∷ []) - 1) = omega arith in
    ap (λ n. get_or ((x ∷ z ∷ xs) ++ y ∷ []) n d) step ∙ last_read (z ∷ xs) y d

one_of_two : (P : ℕ → Type 0) (es : List PlanEnd) (a x : ℕ) → (map (λ (e : PlanEnd). e.target) es ≡ a ∷ x ∷ []) ⊎ (map (λ (e : PlanEnd). e.target) es ≡ x ∷ a ∷ [])
    → AllByRecursion (λ (e : PlanEnd). P e.target) es → P x
one_of_two P [] a x (inl e) all = cc
one_of_two P [] a x (inr e) all = cc
one_of_two P (d ∷ []) a x (inl e) all = cc
one_of_two P (d ∷ []) a x (inr e) all = cc
one_of_two P (d ∷ f ∷ []) a x (inl e) all = let same : f.target ≡ x = cc in subst P same all.1.0
one_of_two P (d ∷ f ∷ []) a x (inr e) all = let same : d.target ≡ x = cc in subst P same all.0
one_of_two P (d ∷ f ∷ g ∷ es) a x (inl e) all = cc
one_of_two P (d ∷ f ∷ g ∷ es) a x (inr e) all = cc

-- ---- roles

not_an_arc : (r : Role) → beside r ≡ Par → ⊥
not_an_arc Initial e = cc
not_an_arc Final e = cc
not_an_arc Left e = cc
not_an_arc Right e = cc
not_an_arc Plain e = cc

module _ (p : PlanData) (joined : IsJoined p) where
  join_of : (a x : ℕ) (role : Role) (s : Side p a role x) → IsJoin p s.link
  join_of a x role s = record { there = s.there; is_link = s.is_link; not_plain = ap is_plain s.has_role ∙ is_plain_not role s.not_plain }

  other_end : (a x y : ℕ) (xs : List ℕ) → (xs ≡ a ∷ x ∷ []) ⊎ (xs ≡ x ∷ a ∷ []) → (xs ≡ a ∷ y ∷ []) ⊎ (xs ≡ y ∷ a ∷ []) → x ≡ y
  other_end a x y xs (inl e) (inl f) = cc
  other_end a x y xs (inl e) (inr f) = cc
  other_end a x y xs (inr e) (inl f) = cc
  other_end a x y xs (inr e) (inr f) = cc

  -- an arc has one thing by a role
  pub one_side : (a x y : ℕ) (role : Role) → Side p a role x → Side p a role y → x ≡ y
  one_side a x y role s t =
      let same : s.link ≡ t.link = joined.one_side s.link t.link a x y (join_of a x role s) (join_of a y role t) (s.has_role ∙ sym t.has_role) s.is_arc s.ends t.ends in
      other_end a x y (targets (record_at p t.link)) (subst (λ k. HasEnds p k a x) same s.ends) t.ends

  -- which is of the kind that the role says
  pub kind_beside : (a x : ℕ) (role : Role) → Side p a role x → (record_at p x).kind ≡ beside role
  kind_beside a x role s = go (joined.joins s.link (join_of a x role s))
    where
      go : JoinsArc p s.link → (record_at p x).kind ≡ beside role
      go j = along (targets (record_at p s.link)) s.ends j.ends
        where
          this : j.other ≡ x → (record_at p x).kind ≡ beside role
          this e = subst (λ k. (record_at p k).kind ≡ beside role) e (j.is_beside ∙ ap beside s.has_role)

          turned : j.other ≡ a → (record_at p x).kind ≡ beside role
          turned e = absurd (not_an_arc (record_at p s.link).role (sym j.is_beside ∙ (ap (λ k. (record_at p k).kind) e ∙ s.is_arc)))

          along : (xs : List ℕ) → (xs ≡ a ∷ x ∷ []) ⊎ (xs ≡ x ∷ a ∷ []) → (xs ≡ j.arc ∷ j.other ∷ []) ⊎ (xs ≡ j.other ∷ j.arc ∷ []) → (record_at p x).kind ≡ beside role
          along xs (inl e) (inl f) = let same : j.other ≡ x = cc in this same
          along xs (inl e) (inr f) = let same : j.other ≡ a = cc in turned same
          along xs (inr e) (inl f) = let same : j.other ≡ a = cc in turned same
          along xs (inr e) (inr f) = let same : j.other ≡ x = cc in this same

  module _ (whole : IsWholePlan p) where
    abbrev pub points : ℕ → List Point
    points k = (record_at p k).points

    pub side_there : (a x : ℕ) (role : Role) → Side p a role x → IsPlace p x
    side_there a x role s = one_of_two (IsPlace p) (record_at p s.link).ends a x s.ends (whole.there s.link s.there)

    pub node_point : (n : ℕ) → IsPlace p n → (record_at p n).kind ≡ Pno → length (points n) ≡ 1
    node_point n h is = one (length (points n)) (subst (λ k. may_have_points k (length (points n)) ≡ true) is (whole.points n h))
      where
        one : (m : ℕ) → may_have_points Pno m ≡ true → m ≡ 1
        one m e = Rattle.std.proofs.Common.eqb-true m 1 e

    pub arc_point : (a : ℕ) → IsPlace p a → (record_at p a).kind ≡ Par → 0 < length (points a)
    arc_point a h is = some (length (points a)) (subst (λ k. may_have_points k (length (points a)) ≡ true) is (whole.points a h))
      where
        some : (m : ℕ) → may_have_points Par m ≡ true → 0 < m
        some m e = let two = leb-true 2 m e in omega (arith, two)

    abbrev pub first_at : ℕ → Point
    first_at k = get_or (points k) 0 no_point

    abbrev pub last_at : ℕ → Point
    last_at k = get_or (points k) (length (points k) - 1) no_point

    pub starts : (a n : ℕ) → Side p a Initial n → point_cmp (first_at n) (first_at a) ≢ Equal → StartsElsewhere p (suc a)
    starts a n s apart =
        let there = side_there a n Initial s in
        let node = kind_beside a n Initial s in
        let others = first_apart (points a) no_point (arc_point a s.arc_there s.is_arc) in (
          a,
          n,
          first_at a,
          first_at n,
          others.0,
          refl,
          (s.arc_there, s.is_arc, others.1),
          s,
          (there, node, one_alone (points n) no_point (node_point n there node)),
          λ e. apart (ap (point_cmp (first_at n)) (sym e) ∙ Rattle.std.proofs.lemmas.Cmp.tied_itself Rattle.edi_plan.proofs.Orders.point_total (first_at n)),
        )

    pub no_start : (a n : ℕ) → Side p a Initial n → StartsElsewhere p (suc a) → point_cmp (first_at n) (first_at a) ≢ Equal
    no_start a n s h tie =
        let arc : h.0 ≡ a = let e = h.5 in omega (arith, e) in
        let node : h.1 ≡ n = one_side a h.1 n Initial (subst (λ k. Side p k Initial h.1) arc h.7) s in
        let at_arc : first_at a ≡ h.2 = sym (ap first_at arc) ∙ ap (λ xs. get_or xs 0 no_point) h.6.2 in
        let at_node : first_at n ≡ h.3 = sym (ap first_at node) ∙ ap (λ xs. get_or xs 0 no_point) h.8.2 in
        h.9 (sym at_node ∙ (point_exact (first_at n) (first_at a) tie ∙ at_arc))

    pub ends_apart : (a n : ℕ) → Side p a Final n → point_cmp (first_at n) (last_at a) ≢ Equal → EndsElsewhere p (suc a)
    ends_apart a n s apart =
        let there = side_there a n Final s in
        let node = kind_beside a n Final s in
        let others = last_apart (points a) no_point (arc_point a s.arc_there s.is_arc) in (
          a,
          n,
          last_at a,
          first_at n,
          others.0,
          refl,
          (s.arc_there, s.is_arc, others.1),
          s,
          (there, node, one_alone (points n) no_point (node_point n there node)),
          λ e. apart (ap (point_cmp (first_at n)) (sym e) ∙ Rattle.std.proofs.lemmas.Cmp.tied_itself Rattle.edi_plan.proofs.Orders.point_total (first_at n)),
        )

    pub no_end : (a n : ℕ) → Side p a Final n → EndsElsewhere p (suc a) → point_cmp (first_at n) (last_at a) ≢ Equal
    no_end a n s h tie =
        let arc : h.0 ≡ a = let e = h.5 in omega (arith, e) in
        let node : h.1 ≡ n = one_side a h.1 n Final (subst (λ k. Side p k Final h.1) arc h.7) s in
        let at_arc : last_at a ≡ h.2 = sym (ap last_at arc) ∙ (ap (λ xs. get_or xs (length xs - 1) no_point) h.6.2 ∙ last_read h.4 h.2 no_point) in
        let at_node : first_at n ≡ h.3 = sym (ap first_at node) ∙ ap (λ xs. get_or xs 0 no_point) h.8.2 in
        h.9 (sym at_node ∙ (point_exact (first_at n) (last_at a) tie ∙ at_arc))

  -- without a node nothing is elsewhere
  pub no_start_without : (a : ℕ) → ((n : ℕ) → ¬ (Side p a Initial n)) → StartsElsewhere p (suc a) → ⊥
  no_start_without a none h = let arc : h.0 ≡ a = let e = h.5 in omega (arith, e) in none h.1 (subst (λ k. Side p k Initial h.1) arc h.7)

  pub no_end_without : (a : ℕ) → ((n : ℕ) → ¬ (Side p a Final n)) → EndsElsewhere p (suc a) → ⊥
  no_end_without a none h = let arc : h.0 ≡ a = let e = h.5 in omega (arith, e) in none h.1 (subst (λ k. Side p k Final h.1) arc h.7)
