-- The sides that faces have on arcs, by the links that put them there.
use Rattle.std.proofs.Common.{◌≡◌, ℕ, ◌⊎◌, inl, inr, Bool, true, false, cond, true≢false, not, ◌||◌, ◌&&◌, ◌==◌, List, [], ◌∷◌, map, length, Option, Some, None, option_map, option_and_then, refl, sym, ap, ap₂, ◌∙◌, subst, arith, eqb-true, eq-eqb, suc}
use Rattle.std.specs.List.{AllByRecursion, list_any}
use Rattle.std.proofs.lemmas.Bool.{and_parts}
use Rattle.edi_record.specs.Shapes.{may_have_ends}
use Rattle.edi_record.specs.declared.record.Kind.{Kind}
use Rattle.edi_record.specs.declared.record.Kind.TheVariants.{Pno, Par, Pfe, Fea, Lnk}
use Rattle.edi_schema.specs.Roles.{exchanged}
use Rattle.edi_schema.specs.declared.role.Role.{Role}
use Rattle.edi_schema.specs.declared.role.Role.TheVariants.{Initial, Final, Left, Right, Plain}
use Rattle.edi_plan.specs.Joined.{beside, IsJoined, HasEnds}
use Rattle.edi_plan.specs.Plans.{PlanData, IsPlace, record_at, blank, is_arc}
use Rattle.edi_plan.specs.Sides.{Side}
use Rattle.edi_plan.specs.Whole.{IsWholePlan}
use Rattle.edi_plan.specs.declared.record.PlanRecord.{PlanRecord}
use Rattle.edi_plan.specs.declared.record.PlanEnd.{PlanEnd}
use Rattle.edi_topo.proofs.ArcEnds.{kind_beside, side_there}
use Rattle.edi_rank.specs.Keys.{arc_beside, side_by, side_of, least_side}
use Rattle.edi_rank.specs.Turned.{is_forward, is_backward, role_after, turned_plan}
use Rattle.edi_rank.specs.declared.keys.FaceKey.{FaceKey}
use Rattle.edi_rank.specs.inner.ArcSides.{side_key}
use Rattle.edi_rank.proofs.LeastSides.{IsLeastOf, PutBy, least_of_same, least_gathered, one_least}
use Rattle.edi_rank.proofs.TurnedRecords.{record_turned, turned_long}

-- the face is on a side of an arc, and the side has this key
pub record OnSide (p : PlanData) (number : ℕ → ℕ) (face : ℕ) (key : FaceKey) : Type 0 where
  pub arc : ℕ
  pub role : Role
  pub is_side : (role ≡ Left) ⊎ (role ≡ Right)
  pub side : Side p arc role face
  pub key_is : key ≡ side_key p number arc role

pub arc_is : (k : Kind) → is_arc k ≡ true → k ≡ Par
arc_is Pno e = absurd (true≢false (sym e))
arc_is Par e = refl
arc_is Pfe e = absurd (true≢false (sym e))
arc_is Fea e = absurd (true≢false (sym e))
arc_is Lnk e = absurd (true≢false (sym e))

-- roles

side_is_role : (r s : Role) → side_of r ≡ Some s → r ≡ s
side_is_role Initial s e = cc
side_is_role Final s e = cc
side_is_role Left s e = cc
side_is_role Right s e = cc
side_is_role Plain s e = cc

one_of_sides : (t : Bool) (r s : Role) → side_of (cond t (exchanged r) r) ≡ Some s → (r ≡ Left) ⊎ (r ≡ Right)
one_of_sides true Initial s e = cc
one_of_sides false Initial s e = cc
one_of_sides true Final s e = cc
one_of_sides false Final s e = cc
one_of_sides t Left s e = inl refl
one_of_sides t Right s e = inr refl
one_of_sides true Plain s e = cc
one_of_sides false Plain s e = cc

sided : (t : Bool) (r : Role) → (r ≡ Left) ⊎ (r ≡ Right) → side_of (cond t (exchanged r) r) ≡ Some (cond t (exchanged r) r)
sided t r (inl e) = subst (λ q. side_of (cond t (exchanged q) q) ≡ Some (cond t (exchanged q) q)) (sym e) (left t)
  where
    left : (t : Bool) → side_of (cond t (exchanged Left) Left) ≡ Some (cond t (exchanged Left) Left)
    left true = refl
    left false = refl
sided t r (inr e) = subst (λ q. side_of (cond t (exchanged q) q) ≡ Some (cond t (exchanged q) q)) (sym e) (right t)
  where
    right : (t : Bool) → side_of (cond t (exchanged Right) Right) ≡ Some (cond t (exchanged Right) Right)
    right true = refl
    right false = refl

no_plain_side : (r : Role) → (r ≡ Left) ⊎ (r ≡ Right) → r ≡ Plain → ⊥
no_plain_side r (inl e) f = let same : Left ≡ Plain = sym e ∙ f in cc
no_plain_side r (inr e) f = let same : Right ≡ Plain = sym e ∙ f in cc

face_beside : (r : Role) → (r ≡ Left) ⊎ (r ≡ Right) → beside r ≡ Pfe
face_beside r (inl e) = ap beside e
face_beside r (inr e) = ap beside e

-- tests

the_first : (b : Bool) → b || (false || false) ≡ b
the_first true = refl
the_first false = refl

the_second : (b : Bool) → false || (b || false) ≡ b
the_second true = refl
the_second false = refl

choose_first : (b : Bool) (n : ℕ) (o : Option ℕ) → b ≡ true → cond b (Some n) o ≡ Some n
choose_first true n o e = refl
choose_first false n o e = absurd (true≢false (sym e))

choose_second : (b c : Bool) (m n : ℕ) → b ≡ false → c ≡ true → cond b (Some m) (cond c (Some n) None) ≡ Some n
choose_second true c m n e f = absurd (true≢false e)
choose_second false true m n e f = refl
choose_second false false m n e f = absurd (true≢false (sym f))

-- ends

only_links : (k : Kind) (n : ℕ) → may_have_ends k (suc n) ≡ true → k ≡ Lnk
only_links Pno n e = let f : suc n ≡ 0 = eqb-true _ _ e in absurd (omega (arith, f))
only_links Par n e = let f : suc n ≡ 0 = eqb-true _ _ e in absurd (omega (arith, f))
only_links Pfe n e = let f : suc n ≡ 0 = eqb-true _ _ e in absurd (omega (arith, f))
only_links Fea n e = let f : suc n ≡ 0 = eqb-true _ _ e in absurd (omega (arith, f))
only_links Lnk n e = refl

-- these are the two ends, in either order
abbrev AreEnds : List PlanEnd → ℕ → ℕ → Type 0
AreEnds ends a x = (map (λ (e : PlanEnd). e.target) ends ≡ a ∷ x ∷ []) ⊎ (map (λ (e : PlanEnd). e.target) ends ≡ x ∷ a ∷ [])

-- of two ends of which the other isn't turned, the arc is the one that may be
turned_with : (turned : ℕ → Bool) (ends : List PlanEnd) (a x : ℕ) → AreEnds ends a x → turned x ≡ false → list_any (λ (e : PlanEnd). turned e.target) ends ≡ turned a
turned_with turned [] a x (inl e) none = cc
turned_with turned [] a x (inr e) none = cc
turned_with turned (d ∷ []) a x (inl e) none = absurd (omega (arith, ap length e))
turned_with turned (d ∷ []) a x (inr e) none = absurd (omega (arith, ap length e))
turned_with turned (d ∷ e ∷ f ∷ ends) a x (inl g) none = absurd (omega (arith, ap length g))
turned_with turned (d ∷ e ∷ f ∷ ends) a x (inr g) none = absurd (omega (arith, ap length g))
turned_with turned (d ∷ e ∷ []) a x (inl g) none =
    let first : d.target ≡ a = cc in
    let second : e.target ≡ x = cc in
    ap₂ (λ b c. b || (c || false)) (ap turned first) (ap turned second ∙ none) ∙ the_first (turned a)
turned_with turned (d ∷ e ∷ []) a x (inr g) none =
    let first : d.target ≡ x = cc in
    let second : e.target ≡ a = cc in
    ap₂ (λ b c. b || (c || false)) (ap turned first ∙ none) (ap turned second) ∙ the_second (turned a)

-- an arc of this number and the face are the ends
record HasArc (q : PlanData) (number : ℕ → ℕ) (face : ℕ) (ends : List PlanEnd) (n : ℕ) : Type 0 where
  arc : ℕ
  there : IsPlace q arc
  is : is_arc (record_at q arc).kind ≡ true
  both : AreEnds ends arc face
  number_is : number arc ≡ n

module _ (q : PlanData) (number : ℕ → ℕ) (face : ℕ) where
  arc_from : (ends : List PlanEnd) (n : ℕ) → AllByRecursion (λ (e : PlanEnd). IsPlace q e.target) ends → arc_beside q number face ends ≡ Some n → HasArc q number face ends n
  arc_from [] n all e = cc
  arc_from (d ∷ []) n all e = cc
  arc_from (d ∷ e ∷ f ∷ ends) n all g = cc
  arc_from (d ∷ e ∷ []) n all g = go (is_arc (record_at q d.target).kind && (e.target == face)) (is_arc (record_at q e.target).kind && (d.target == face)) refl refl g
    where
      go : (b c : Bool) → is_arc (record_at q d.target).kind && (e.target == face) ≡ b → is_arc (record_at q e.target).kind && (d.target == face) ≡ c
          → cond b (Some (number d.target)) (cond c (Some (number e.target)) None) ≡ Some n → HasArc q number face (d ∷ e ∷ []) n
      go true c i j h =
          let both = and_parts (is_arc (record_at q d.target).kind) (e.target == face) i in
          record { arc = d.target; there = all.0; is = both.0; both = inl (ap (λ x. d.target ∷ x ∷ []) (eqb-true e.target face both.1)); number_is = cc }
      go false true i j h =
          let both = and_parts (is_arc (record_at q e.target).kind) (d.target == face) j in
          record { arc = e.target; there = all.1.0; is = both.0; both = inr (ap (λ x. x ∷ e.target ∷ []) (eqb-true d.target face both.1)); number_is = cc }
      go false false i j h = cc

  arc_put : (ends : List PlanEnd) (a : ℕ) → AreEnds ends a face → is_arc (record_at q a).kind ≡ true → is_arc (record_at q face).kind ≡ false → arc_beside q number face ends ≡ Some (number a)
  arc_put [] a (inl e) arc other = cc
  arc_put [] a (inr e) arc other = cc
  arc_put (d ∷ []) a (inl e) arc other = absurd (omega (arith, ap length e))
  arc_put (d ∷ []) a (inr e) arc other = absurd (omega (arith, ap length e))
  arc_put (d ∷ e ∷ f ∷ ends) a (inl g) arc other = absurd (omega (arith, ap length g))
  arc_put (d ∷ e ∷ f ∷ ends) a (inr g) arc other = absurd (omega (arith, ap length g))
  arc_put (d ∷ e ∷ []) a (inl g) arc other =
      let first : d.target ≡ a = cc in
      let second : e.target ≡ face = cc in
      choose_first (is_arc (record_at q d.target).kind && (e.target == face)) (number d.target) (cond (is_arc (record_at q e.target).kind && (d.target == face)) (Some (number e.target)) None)
      (ap₂ (λ b c. b && c) (ap (λ k. is_arc (record_at q k).kind) first ∙ arc) (eq-eqb e.target face second)) ∙ ap (λ k. Some (number k)) first
  arc_put (d ∷ e ∷ []) a (inr g) arc other =
      let first : d.target ≡ face = cc in
      let second : e.target ≡ a = cc in
      choose_second (is_arc (record_at q d.target).kind && (e.target == face)) (is_arc (record_at q e.target).kind && (d.target == face)) (number d.target) (number e.target)
      (ap (λ b. b && (e.target == face)) (ap (λ k. is_arc (record_at q k).kind) first ∙ other)) (ap₂ (λ b c. b && c) (ap (λ k. is_arc (record_at q k).kind) second ∙ arc) (eq-eqb d.target face first))
      ∙ ap (λ k. Some (number k)) second

-- a key has its side and its arc
parts : (side : Option Role) (arc : Option ℕ) (key : FaceKey) → option_and_then (λ s. option_map (λ a. record { arc = a; side = s }) arc) side ≡ Some key → (side ≡ Some key.side) × (arc ≡ Some key.arc)
parts None arc key e = cc
parts (Some s) None key e = cc
parts (Some s) (Some a) key e =
    let is : record { arc = a; side = s } ≡ key = cc in
    (ap (λ (k : FaceKey). Some k.side) is, ap (λ (k : FaceKey). Some k.arc) is)

module _ (p : PlanData) (whole : IsWholePlan p) (joined : IsJoined p) where
  -- what has two ends is a link
  joins_two : (j a x : ℕ) → IsPlace p j → HasEnds p j a x → (record_at p j).kind ≡ Lnk
  joins_two j a x h ends = link ends
    where
      go : (ends : List PlanEnd) → may_have_ends (record_at p j).kind (length ends) ≡ true → length (map (λ (e : PlanEnd). e.target) ends) ≡ 2 → (record_at p j).kind ≡ Lnk
      go [] may e = absurd (omega (arith, e))
      go (d ∷ ends) may e = only_links (record_at p j).kind (length ends) may

      link : HasEnds p j a x → (record_at p j).kind ≡ Lnk
      link (inl e) = go (record_at p j).ends (whole.ends j h) (ap length e)
      link (inr e) = go (record_at p j).ends (whole.ends j h) (ap length e)

  module _ (partner : ℕ → ℕ) (turned : ℕ → Bool) (same : (k : ℕ) → IsPlace p k → turned k ≡ is_backward p k) where
    abbrev made : PlanData
    made = turned_plan partner turned p

    places : (k : ℕ) → IsPlace p k → IsPlace made k
    places k h = omega (arith, h, turned_long partner turned 0 p.list)

    kind_made : (k : ℕ) → IsPlace p k → (record_at made k).kind ≡ (record_at p k).kind
    kind_made k h = ap (λ (r : PlanRecord). r.kind) (record_turned partner turned p k h)

    module _ (face : ℕ) where
      -- on a side of an arc the face isn't one
      no_arc : (a : ℕ) (role : Role) → (role ≡ Left) ⊎ (role ≡ Right) → Side p a role face → is_arc (record_at p face).kind ≡ false
      no_arc a role is s = ap is_arc (kind_beside p joined a face role s ∙ face_beside role is)

      straight : (a : ℕ) (role : Role) → (role ≡ Left) ⊎ (role ≡ Right) → Side p a role face → turned face ≡ false
      straight a role is s = same face (side_there p joined whole a face role s) ∙ ap (λ b. b && not (is_forward (record_at p face).points)) (no_arc a role is s)

      -- so the link of the side is turned as its arc is
      role_is : (a : ℕ) (role : Role) → (role ≡ Left) ⊎ (role ≡ Right) → (s : Side p a role face) → role_after turned (record_at p s.link) ≡ cond (is_backward p a) (exchanged role) role
      role_is a role is s =
          ap₂ (λ t r. cond t (exchanged r) r) (turned_with turned (record_at p s.link).ends a face s.ends (straight a role is s) ∙ same a s.arc_there) s.has_role

      module _ (number : ℕ → ℕ) where
        abbrev side_at : ℕ → Option FaceKey
        side_at j = side_by made number face (record_at made j)

        abbrev put_there : FaceKey → Type 0
        put_there = PutBy (side_by made number face) blank made.list

        ends_there : (j : ℕ) → IsPlace p j → AllByRecursion (λ (e : PlanEnd). IsPlace made e.target) (record_at p j).ends
        ends_there j h = go (record_at p j).ends (whole.there j h)
          where
            go : (ends : List PlanEnd) → AllByRecursion (λ (e : PlanEnd). IsPlace p e.target) ends → AllByRecursion (λ (e : PlanEnd). IsPlace made e.target) ends
            go [] all = all
            go (e ∷ es) all = (places e.target all.0, go es all.1)

        -- what a link puts on a side is on it
        on_from : (j : ℕ) (key : FaceKey) → IsPlace p j → side_at j ≡ Some key → OnSide p number face key
        on_from j key h e =
            let r = record_at p j in
            let both = parts (side_of (role_after turned r)) (arc_beside made number face r.ends) key (sym (ap (side_by made number face) (record_turned partner turned p j h)) ∙ e) in
            let found = arc_from made number face r.ends key.arc (ends_there j h) both.1 in
            let is_side = one_of_sides (list_any (λ (e : PlanEnd). turned e.target) r.ends) r.role key.side both.0 in
            let there : IsPlace p found.arc = omega (arith, found.there, turned_long partner turned 0 p.list) in
            let side : Side p found.arc r.role face =
            record {
              link = j;
              there = h;
              is_link = joins_two j found.arc face h found.both;
              has_role = refl;
              not_plain = no_plain_side r.role is_side;
              arc_there = there;
              is_arc = arc_is (record_at p found.arc).kind (ap is_arc (sym (kind_made found.arc there)) ∙ found.is);
              ends = found.both;
            } in
            record {
              arc = found.arc;
              role = r.role;
              is_side = is_side;
              side = side;
              key_is = ap₂ (λ n s. record { arc = n; side = s }) (sym found.number_is) (sym (side_is_role (role_after turned r) key.side both.0) ∙ role_is found.arc r.role is_side side);
            }

        on_side : (key : FaceKey) → put_there key → OnSide p number face key
        on_side key put = on_from put.0 key (omega (arith, put.1, turned_long partner turned 0 p.list)) put.2

        -- and what is on a side is put there by a link
        put_from : (key : FaceKey) → OnSide p number face key → put_there key
        put_from key on =
            let s = on.side in
            let r = record_at p s.link in
            let there = side_there p joined whole on.arc face on.role s in
            let side : side_of (role_after turned r) ≡ Some (cond (is_backward p on.arc) (exchanged on.role) on.role) =
            ap side_of (role_is on.arc on.role on.is_side s) ∙ sided (is_backward p on.arc) on.role on.is_side in
            let arc : arc_beside made number face r.ends ≡ Some (number on.arc) =
            arc_put made number face r.ends on.arc s.ends (ap is_arc (kind_made on.arc s.arc_there ∙ s.is_arc)) (ap is_arc (kind_made face there) ∙ no_arc on.arc on.role on.is_side s) in (
              s.link,
              places s.link s.there,
              ap (side_by made number face) (record_turned partner turned p s.link s.there)
                  ∙ (ap₂ (λ side arc. option_and_then (λ s. option_map (λ a. record { arc = a; side = s }) arc) side) side arc ∙ ap Some (sym on.key_is)),
            )

        -- so the least side is the least of those that the face is on
        pub least_is_of : IsLeastOf (OnSide p number face) (least_side made number face)
        least_is_of = least_of_same put_there (OnSide p number face) (least_side made number face) (least_gathered (side_by made number face) blank made.list) on_side put_from

  -- whatever the classes, and by what numbers the arcs have
  pub least_equal : (partner partner' : ℕ → ℕ) (turned turned' : ℕ → Bool) → ((k : ℕ) → IsPlace p k → turned k ≡ is_backward p k) → ((k : ℕ) → IsPlace p k → turned' k ≡ is_backward p k)
      → (number number' : ℕ → ℕ) → ((k : ℕ) → IsPlace p k → is_arc (record_at p k).kind ≡ true → number k ≡ number' k)
      → (face : ℕ) → least_side (turned_plan partner turned p) number face ≡ least_side (turned_plan partner' turned' p) number' face
  least_equal partner partner' turned turned' same same' number number' numbers face =
      one_least (OnSide p number' face) (least_side (turned_plan partner turned p) number face) (least_side (turned_plan partner' turned' p) number' face)
      (least_of_same (OnSide p number face) (OnSide p number' face) (least_side (turned_plan partner turned p) number face) (least_is_of partner turned same face number)
      (renumbered number number' numbers) (renumbered number' number (λ k h e. sym (numbers k h e))))
      (least_is_of partner' turned' same' face number')
    where
      renumbered : (number number' : ℕ → ℕ) → ((k : ℕ) → IsPlace p k → is_arc (record_at p k).kind ≡ true → number k ≡ number' k) → (key : FaceKey) → OnSide p number face key → OnSide p number' face key
      renumbered number number' numbers key on = record {
        arc = on.arc;
        role = on.role;
        is_side = on.is_side;
        side = on.side;
        key_is = on.key_is ∙ ap (λ n. record { arc = n; side = cond (is_backward p on.arc) (exchanged on.role) on.role }) (numbers on.arc on.side.arc_there (ap is_arc on.side.is_arc));
      }
