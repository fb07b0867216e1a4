-- That known records break no rule of references, by computing.
use Rattle.std.proofs.Common.{◌≡◌, ◌≢◌, ◌∙◌, sym, subst, ap, refl, ℕ, zero, suc, ◌-◌, ◌<◌, ◌⊎◌, inl, inr, Bool, true, false, not, ◌&&◌, ◌||◌, cond, List, [], ◌∷◌, Option, Some, None, option_map, is_some, Any, arith, true≢false, eqb-true}
use Rattle.std.specs.List.{list_all, list_any}
use Rattle.std.specs.Prelude.{slice_get, nat_eq, nat_lt, option_and_then}
use Rattle.std.specs.Str.{bytes_eq}
use Rattle.std.proofs.lemmas.Option.{same_Some}
use Rattle.std.proofs.lemmas.Slice.Eq.{bytes_eq-Decides}
use Rattle.std.proofs.lemmas.Bool.{and_from, and_parts}
use Rattle.edi_line.specs.Refusal.{IsUnbroken}
use Rattle.edi_record.specs.declared.name.Name.{Name}
use Rattle.edi_record.specs.LinkEnds.{EndData}
use Rattle.edi_record.specs.declared.record.Kind.{Kind}
use Rattle.edi_record.specs.declared.record.Kind.TheVariants.{Pno, Par, Pfe, Lnk}
use Rattle.edi_record.specs.declared.record.Record.{Record}
use Rattle.edi_schema.specs.Classes.{Classes, is_name, place_of, role_named}
use Rattle.edi_schema.specs.Roles.{role_rank}
use Rattle.edi_schema.specs.declared.role.Role.{Role}
use Rattle.edi_schema.specs.declared.role.Role.TheVariants.{Initial, Final, Left, Right, Plain}
use Rattle.edi_record.specs.Records.{is_link}
use Rattle.edi_plan.specs.Plans.{same_kind, kind_rank, first_of}
use Rattle.edi_plan.specs.PlanOf.{own_name, place_named}
use Rattle.edi_plan.specs.ReferenceRules.{BreaksReferenceRule, IsRecordAt, Names, IsLinkOfRole, JoinsArcTo}
use Rattle.edi_plan.specs.ReferenceRules.BreaksReferenceRule.{repeats_name, lacks_class, lacks_attribute_class, leaves_subset, names_nothing, joins_wrong, repeats_side}
use Rattle.edi_plan.specs.inner.Resolving.{HasNoAttributeClass, lacks_class as lacks_class_of, leaves, first_subset, is_elsewhere}
use Rattle.edi_plan.proofs.PlaceLemmas.{one_kind}
use Rattle.edi_plan.proofs.RuleLemmas.{any_true, lacks_true, elsewhere_true}

-- ---- tests of each record, and of each two

at_true : {X : Type 0} (test : X → Bool) (list : List X) (i : ℕ) (r : X) → list_all test list ≡ true → slice_get list i ≡ Some r → test r ≡ true
at_true test [] i r e there = absurd cc
at_true test (x ∷ xs) zero r e there = subst (λ y. test y ≡ true) (same_Some x r there) (and_parts _ _ e).0
at_true test (x ∷ xs) (suc i) r e there = at_true test xs i r (and_parts _ _ e).1 there

abbrev each_pair : {X : Type 0} → (X → X → Bool) → List X → Bool
each_pair test [] = true
each_pair test (x ∷ xs) = list_all (test x) xs && each_pair test xs

pair_true : {X : Type 0} (test : X → X → Bool) (list : List X) (i k : ℕ) (q r : X) → each_pair test list ≡ true → i < k → slice_get list i ≡ Some q → slice_get list k ≡ Some r → test q r ≡ true
pair_true test [] i k q r e less first second = absurd cc
pair_true test (x ∷ xs) zero zero q r e less first second = absurd (omega (arith, less))
pair_true test (x ∷ xs) zero (suc k) q r e less first second = subst (λ y. test y r ≡ true) (same_Some x q first) (at_true (test x) xs k r (and_parts _ _ e).0 second)
pair_true test (x ∷ xs) (suc i) zero q r e less first second = absurd (omega (arith, less))
pair_true test (x ∷ xs) (suc i) (suc k) q r e less first second = pair_true test xs i k q r (and_parts _ _ e).1 (omega (arith, less)) first second

unless : (b : Bool) → not b ≡ true → b ≡ true → ⊥
unless true h t = true≢false (sym h)
unless false h t = true≢false (sym t)

same_name : (a b : Name) → a ≡ b → is_name a b ≡ true
same_name a b e = and_from (bytes_eq a.rty b.rty) (bytes_eq a.rid b.rid)
    ((bytes_eq-Decides a.rty b.rty).1 (ap (λ (n : Name). n.rty) e)) ((bytes_eq-Decides a.rid b.rid).1 (ap (λ (n : Name). n.rid) e))

module _ (s : Classes) (list : List Record) where
  -- the type of what an end names
  abbrev end_kind : EndData → Option Kind
  end_kind e = option_and_then (λ place. option_map (λ (r : Record). r.kind) (slice_get list place)) (place_named list e.target)

  names_kind : (e : EndData) (place : ℕ) (kind : Kind) → Names s list e place kind → end_kind e ≡ Some kind
  names_kind e place kind h =
      ap (option_and_then (λ place. option_map (λ (r : Record). r.kind) (slice_get list place))) h.1
      ∙ (ap (option_map (λ (r : Record). r.kind)) h.2 ∙ ap Some h.3)

  kind_names : (e : EndData) (kind : Kind) → end_kind e ≡ Some kind → (place : ℕ) × Names s list e place kind
  kind_names e kind h = go (place_named list e.target) refl h
    where
      at : (place : ℕ) → place_named list e.target ≡ Some place → (o : Option Record) → slice_get list place ≡ o → option_map (λ (r : Record). r.kind) o ≡ Some kind
          → (place : ℕ) × Names s list e place kind
      at place named None there h = cc
      at place named (Some r) there h = (place, (r, named, there, same_Some r.kind kind h))

      go : (o : Option ℕ) → place_named list e.target ≡ o → option_and_then (λ place. option_map (λ (r : Record). r.kind) (slice_get list place)) o ≡ Some kind
          → (place : ℕ) × Names s list e place kind
      go None named h = cc
      go (Some place) named h = at place named (slice_get list place) refl h

  -- it is a node, an arc, a face or an object
  abbrev is_target : Option Kind → Bool
  is_target (Some kind) = not (is_link kind)
  is_target None = false

  abbrev is_lost : EndData → Bool
  is_lost e = not (is_target (end_kind e))

  lost : (e : EndData) → ((place : ℕ) (kind : Kind) → Names s list e place kind → kind ≡ Lnk) → is_lost e ≡ true
  lost e only = go (end_kind e) refl
    where
      go : (o : Option Kind) → end_kind e ≡ o → not (is_target o) ≡ true
      go None is = refl
      go (Some kind) is = let named = kind_names e kind is in ap (λ k. not (not (is_link k))) (only named.0 kind named.1)

  -- ---- what a link of a kind joins

  abbrev is_some_kind : Kind → Option Kind → Bool
  is_some_kind kind (Some k) = same_kind k kind
  is_some_kind kind None = false

  of_kind : (kind : Kind) (e : EndData) → is_some_kind kind (end_kind e) ≡ true → (place : ℕ) × Names s list e place kind
  of_kind kind e h = go (end_kind e) refl h
    where
      go : (o : Option Kind) → end_kind e ≡ o → is_some_kind kind o ≡ true → (place : ℕ) × Names s list e place kind
      go None is h = cc
      go (Some k) is h = kind_names e kind (is ∙ ap Some (one_kind k kind (eqb-true (kind_rank k) (kind_rank kind) h)))

  abbrev is_join : Kind → EndData → EndData → Bool
  is_join kind d e = is_some_kind Par (end_kind d) && is_some_kind kind (end_kind e)

  abbrev joins : Kind → List EndData → Bool
  joins kind [] = false
  joins kind (d ∷ []) = false
  joins kind (d ∷ e ∷ []) = is_join kind d e || is_join kind e d
  joins kind (d ∷ e ∷ f ∷ ends) = false

  joined : (kind : Kind) (r : Record) → joins kind r.ends ≡ true → JoinsArcTo s list kind r
  joined kind r h = go r.ends refl h
    where
      two : (d e : EndData) → ((r.ends ≡ d ∷ e ∷ []) ⊎ (r.ends ≡ e ∷ d ∷ [])) → is_join kind d e ≡ true → JoinsArcTo s list kind r
      two d e ends t =
          let kinds = and_parts (is_some_kind Par (end_kind d)) (is_some_kind kind (end_kind e)) t in
          let arc = of_kind Par d kinds.0 in
          let other = of_kind kind e kinds.1 in
          (d, e, arc.0, other.0, ends, arc.1, other.1)

      pick : (d e : EndData) → r.ends ≡ d ∷ e ∷ [] → (b c : Bool) → is_join kind d e ≡ b → is_join kind e d ≡ c → b || c ≡ true → JoinsArcTo s list kind r
      pick d e ends true c first second t = two d e (inl ends) first
      pick d e ends false true first second t = two e d (inr ends) second
      pick d e ends false false first second t = absurd (true≢false (sym t))

      go : (ends : List EndData) → r.ends ≡ ends → joins kind ends ≡ true → JoinsArcTo s list kind r
      go [] is t = absurd (true≢false (sym t))
      go (d ∷ []) is t = absurd (true≢false (sym t))
      go (d ∷ e ∷ f ∷ ends) is t = absurd (true≢false (sym t))
      go (d ∷ e ∷ []) is t = pick d e is (is_join kind d e) (is_join kind e d) refl refl t

  abbrev joins_by : Option Role → List EndData → Bool
  joins_by None ends = true
  joins_by (Some Initial) ends = joins Pno ends
  joins_by (Some Final) ends = joins Pno ends
  joins_by (Some Left) ends = joins Pfe ends
  joins_by (Some Right) ends = joins Pfe ends
  joins_by (Some Plain) ends = true

  abbrev joins_right : Record → Bool
  joins_right r = cond (is_link r.kind) (joins_by (role_named s r.scp) r.ends) true

  by_role : (r : Record) (role : Role) → IsLinkOfRole s list r role → joins_right r ≡ true → joins_by (Some role) r.ends ≡ true
  by_role r role has h =
      ap (λ o. joins_by o r.ends) (sym has.1)
      ∙ (ap (λ k. cond (is_link k) (joins_by (role_named s r.scp) r.ends) true) (sym has.0) ∙ h)

  -- ---- the sides of an arc

  abbrev rank_of : Option Role → ℕ
  rank_of None = 4
  rank_of (Some role) = role_rank role

  -- the rank of a link's kind, and 4 for what is no such link
  abbrev side_rank : Record → ℕ
  side_rank r = cond (is_link r.kind) (rank_of (role_named s r.scp)) 4

  rank_is : (r : Record) (role : Role) → IsLinkOfRole s list r role → side_rank r ≡ role_rank role
  rank_is r role has = ap (λ k. cond (is_link k) (rank_of (role_named s r.scp)) 4) has.0 ∙ ap rank_of has.1

  abbrev share_kind : ℕ → ℕ → Bool
  share_kind m n = nat_lt m 4 && nat_eq m n

  shared : (role : Role) → role ≢ Plain → share_kind (role_rank role) (role_rank role) ≡ true
  shared Initial h = refl
  shared Final h = refl
  shared Left h = refl
  shared Right h = refl
  shared Plain h = absurd (h refl)

  -- ---- all rules

  abbrev other_names : Record → Record → Bool
  other_names q r = not (is_name (own_name q) (own_name r))

  abbrev other_kinds : Record → Record → Bool
  other_kinds q r = not (share_kind (side_rank q) (side_rank r))

  -- tests of each record, and of each two: no two links are of one of the four kinds
  pub record Refer : Type 0 where
    pub names : each_pair other_names list ≡ true
    pub classes : list_all (λ (r : Record). is_some (place_of s r.scp)) list ≡ true
    pub attributes : list_all (λ (r : Record). not (list_any (lacks_class_of s) r.attributes)) list ≡ true
    pub subsets : list_all (λ (r : Record). not (leaves (first_subset list) r.ends)) list ≡ true
    pub ends : list_all (λ (r : Record). not (list_any is_lost r.ends)) list ≡ true
    pub joins : list_all joins_right list ≡ true
    pub kinds : each_pair other_kinds list ≡ true

  at : (test : Record → Bool) (place : ℕ) (r : Record) → list_all test list ≡ true → IsRecordAt s list place r → test r ≡ true
  at test place r e h = at_true test list (place - 1) r e h.1

  at_two : (test : Record → Record → Bool) (m n : ℕ) (q r : Record) → each_pair test list ≡ true → m < n → IsRecordAt s list m q → IsRecordAt s list n r → test q r ≡ true
  at_two test m n q r pairs less first second =
      let one = first.0 in
      pair_true test list (m - 1) (n - 1) q r pairs (omega (arith, less, one)) first.1 second.1

  subset : (r : Record) (d : EndData) (others : List EndData) → Rattle.std.proofs.Common.flat_map (λ (q : Record). q.ends) list ≡ d ∷ others
      → Any (λ x. (x.lot ≢ d.lot) ⊎ (x.subset ≢ d.subset)) r.ends → leaves (first_subset list) r.ends ≡ true
  subset r d others is some =
      ap (λ xs. leaves (option_map (λ (x : EndData). record { lot = x.lot; subset = x.subset }) (first_of xs)) r.ends) is
      ∙ any_true (λ (x : EndData). (x.lot ≢ d.lot) ⊎ (x.subset ≢ d.subset)) (is_elsewhere (record { lot = d.lot; subset = d.subset })) (elsewhere_true d) r.ends some

  wrong_join : (r : Record) → joins_right r ≡ true → ((IsLinkOfRole s list r Initial ⊎ IsLinkOfRole s list r Final) × ¬ (JoinsArcTo s list Pno r))
      ⊎ ((IsLinkOfRole s list r Left ⊎ IsLinkOfRole s list r Right) × ¬ (JoinsArcTo s list Pfe r)) → ⊥
  wrong_join r right (inl (inl has, wrong)) = wrong (joined Pno r (by_role r Initial has right))
  wrong_join r right (inl (inr has, wrong)) = wrong (joined Pno r (by_role r Final has right))
  wrong_join r right (inr (inl has, wrong)) = wrong (joined Pfe r (by_role r Left has right))
  wrong_join r right (inr (inr has, wrong)) = wrong (joined Pfe r (by_role r Right has right))

  pub references_as : Refer → IsUnbroken (BreaksReferenceRule s list)
  references_as e rule place (repeats_name _ h) = unless _ (at_two other_names h.0 place h.1 h.2 e.names h.3 h.4 h.5) (same_name (own_name h.1) (own_name h.2) h.6)
  references_as e rule place (lacks_class _ h) = true≢false (sym (at (λ (r : Record). is_some (place_of s r.scp)) place h.0 e.classes h.1) ∙ ap is_some h.2)
  references_as e rule place (lacks_attribute_class _ h) =
      unless _ (at (λ (r : Record). not (list_any (lacks_class_of s) r.attributes)) place h.0 e.attributes h.1) (any_true (HasNoAttributeClass s) (lacks_class_of s) (lacks_true s) h.0.attributes h.2)
  references_as e rule place (leaves_subset _ h) = unless _ (at (λ (r : Record). not (leaves (first_subset list) r.ends)) place h.0 e.subsets h.3) (subset h.0 h.1 h.2 h.4 h.5)
  references_as e rule place (names_nothing _ h) =
      unless _ (at (λ (r : Record). not (list_any is_lost r.ends)) place h.0 e.ends h.1)
      (any_true (λ d. (place : ℕ) (kind : Kind) → Names s list d place kind → kind ≡ Lnk) is_lost lost h.0.ends h.2)
  references_as e rule place (joins_wrong _ h) = wrong_join h.0 (at joins_right place h.0 e.joins h.1) h.2
  references_as e rule place (repeats_side _ h) =
      unless _ (at_two other_kinds h.0 place h.2 h.3 e.kinds h.5 h.6 h.7)
      (ap (λ m. share_kind m (side_rank h.3)) (rank_is h.2 h.4 h.9) ∙ (ap (share_kind (role_rank h.4)) (rank_is h.3 h.4 h.10) ∙ shared h.4 h.8))
