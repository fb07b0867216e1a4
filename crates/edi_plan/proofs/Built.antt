-- The plan of a sheet that breaks no rule of references.
use Rattle.std.proofs.Common.{◌≡◌, ◌≢◌, ℕ, zero, suc, ◌+◌, ◌-◌, ◌<◌, ◌≤◌, Bool, true, false, cond, not, nat_lt, List, [], ◌∷◌, length, get_or, Option, Some, None, option_map, unwrap_or, slice_get, position, count_by, refl, sym, ap, ap₂, ◌∙◌, subst, arith, true≢false, ◌⊎◌, inl, inr, eqb-true, Any}
use Rattle.std.specs.List.{AllZip, AllByRecursion, position_or_len, list_all}
use Rattle.std.specs.Map.{lookup, keys_of}
use Rattle.std.proofs.lemmas.Bool.{ltb-true, and_parts}
use Rattle.std.proofs.lemmas.Option.{same_Some, none-some, get_or_from_slice_get}
use native.Mathlib.Decide.{dec_le}
use Rattle.edi_record.specs.Records.{IsValueOf, is_link, SheetData}
use Rattle.edi_record.specs.inner.Records.{value_of}
use Rattle.edi_record.specs.declared.record.Value.{Value}
use Rattle.edi_record.specs.declared.record.Value.TheVariants.{Number, Bytes}
use Rattle.edi_record.proofs.StatesSaid.{value_one, value_read}
use Rattle.edi_record.specs.declared.record.Attribute.{Attribute}
use Rattle.edi_plan.specs.Agreeing.{AttributeAgrees, RecordAgrees, Agrees}
use Rattle.edi_plan.specs.ReferenceRules.BreaksReferenceRule.{names_nothing, joins_wrong}
use Rattle.edi_schema.proofs.Paired.{count-cons}
use Rattle.edi_line.specs.Refusal.{IsUnbroken}
use Rattle.edi_record.specs.Whole.{IsWholeSheet}
use Rattle.edi_record.specs.Shapes.{may_have_points, may_have_ends, is_in_shape}
use Rattle.edi_record.specs.declared.name.Name.{Name}
use Rattle.edi_record.specs.declared.record.Record.{Record}
use Rattle.edi_record.specs.LinkEnds.{EndData}
use Rattle.edi_record.specs.declared.record.Kind.{Kind}
use Rattle.edi_record.specs.declared.record.Kind.TheVariants.{Pno, Par, Pfe, Fea, Lnk}
use Rattle.edi_record.proofs.KindCodes.{link_is}
use Rattle.edi_schema.specs.Classes.{Classes, is_name, place_of, role_of, role_named, class_at, class_named, is_number_of, is_number_named}
use Rattle.edi_schema.specs.Roles.{is_plain}
use Rattle.edi_schema.specs.declared.role.Role.{Role}
use Rattle.edi_schema.specs.declared.role.Role.TheVariants.{Initial, Final, Left, Right, Plain}
use Rattle.edi_schema.specs.declared.class.Class.{Class}
use Rattle.edi_plan.specs.Plans.{PlanData, IsPlace, record_at, blank, is_arc}
use Rattle.edi_plan.specs.Whole.{IsWholePlan}
use Rattle.edi_plan.specs.PlanOf.{place_named, StatesPlanAttribute, StatesPlanEnd, StatesPlanRecord, IsPlanOf}
use Rattle.edi_plan.specs.ReferenceRules.{BreaksReferenceRule, Names, JoinsArcTo}
use Rattle.edi_plan.specs.declared.record.PlanRecord.{PlanRecord}
use Rattle.edi_plan.specs.declared.record.PlanAttribute.{PlanAttribute}
use Rattle.edi_plan.specs.declared.record.PlanEnd.{PlanEnd}

-- lists side by side

pub zip_at : {A B : Type 0} (R : A → B → Type 0) (xs : List A) (ys : List B) → AllZip R xs ys → (k : ℕ) (d : B) → k < length ys → (x : A) × (slice_get xs k ≡ Some x) × R x (get_or ys k d)
zip_at R [] [] all k d h = absurd (omega arith)
zip_at R [] (z ∷ ys) all k d h = absurd all
zip_at R (x ∷ xs) [] all k d h = absurd all
zip_at R (x ∷ xs) (y ∷ ys) all zero d h = (x, refl, all.0)
zip_at R (x ∷ xs) (y ∷ ys) all (suc k) d h = zip_at R xs ys all.1 k d (omega arith)

pub zip_back : {A B : Type 0} (R : A → B → Type 0) (xs : List A) (ys : List B) → AllZip R xs ys → (k : ℕ) (x : A) (d : B) → slice_get xs k ≡ Some x → (k < length ys) × R x (get_or ys k d)
zip_back R [] [] all k x d h = absurd (none-some x h)
zip_back R [] (z ∷ ys) all k x d h = absurd all
zip_back R (z ∷ xs) [] all k x d h = absurd all
zip_back R (z ∷ xs) (y ∷ ys) all zero x d h = (omega arith, subst (λ w. R w y) (same_Some z x h) all.0)
zip_back R (z ∷ xs) (y ∷ ys) all (suc k) x d h = let more = zip_back R xs ys all.1 k x d h in (omega (arith, more.0), more.1)

pub zip_length : {A B : Type 0} (R : A → B → Type 0) (xs : List A) (ys : List B) → AllZip R xs ys → length xs ≡ length ys
zip_length R [] [] all = refl
zip_length R [] (z ∷ ys) all = absurd all
zip_length R (x ∷ xs) [] all = absurd all
zip_length R (x ∷ xs) (y ∷ ys) all = ap suc (zip_length R xs ys all.1)

-- what holds of each pair holds of each second
pub zip_weaker : {A B : Type 0} (R : A → B → Type 0) (P : B → Type 0) → ((x : A) (y : B) → R x y → P y) → (xs : List A) (ys : List B) → AllZip R xs ys → AllByRecursion P ys
zip_weaker R P f [] [] all = tt
zip_weaker R P f [] (y ∷ ys) all = absurd all
zip_weaker R P f (x ∷ xs) [] all = absurd all
zip_weaker R P f (x ∷ xs) (y ∷ ys) all = (f x y all.0, zip_weaker R P f xs ys all.1)

-- a relation that tells its second tells the whole second list
pub zip_one : {A B : Type 0} (R R' : A → B → Type 0) → ((x : A) (y z : B) → R x y → R' x z → y ≡ z) → (xs : List A) (ys zs : List B) → AllZip R xs ys → AllZip R' xs zs → ys ≡ zs
zip_one R R' one [] [] [] h g = refl
zip_one R R' one [] [] (z ∷ zs) h g = absurd g
zip_one R R' one [] (y ∷ ys) zs h g = absurd h
zip_one R R' one (x ∷ xs) [] zs h g = absurd h
zip_one R R' one (x ∷ xs) (y ∷ ys) [] h g = absurd g
zip_one R R' one (x ∷ xs) (y ∷ ys) (z ∷ zs) h g = ap₂ ◌∷◌ (one x y z h.0 g.0) (zip_one R R' one xs ys zs h.1 g.1)

-- the first that passes

pub position_some : {X : Type 0} (test : X → Bool) (xs : List X) (k : ℕ) → position test xs ≡ Some k → (k ≡ position_or_len test xs) × (k < length xs)
position_some test xs k h = go (nat_lt (position_or_len test xs) (length xs)) refl h
  where
    go : (b : Bool) → nat_lt (position_or_len test xs) (length xs) ≡ b → cond b (Some (position_or_len test xs)) None ≡ Some k → (k ≡ position_or_len test xs) × (k < length xs)
    go true e g =
        let same : position_or_len test xs ≡ k = same_Some _ _ g in
        (sym same, subst (λ n. n < length xs) same (ltb-true _ _ e))
    go false e g = absurd (none-some k g)

-- what stands under a name stands at its place
first_at : (test : Name → Bool) (s : Classes) → position_or_len test (keys_of s) < length (keys_of s) → lookup test s ≡ class_at s (position_or_len test (keys_of s))
first_at test [] h = absurd (omega arith)
first_at test (e ∷ es) h = go (test e.0) refl (first_at test es) h
  where
    go : (b : Bool) → test e.0 ≡ b → (position_or_len test (keys_of es) < length (keys_of es) → lookup test es ≡ class_at es (position_or_len test (keys_of es)))
        → cond (not b) (1 + position_or_len test (keys_of es)) 0 < length (keys_of (e ∷ es))
        → cond b (Some e.1) (lookup test es) ≡ class_at (e ∷ es) (cond (not b) (1 + position_or_len test (keys_of es)) 0)
    go true t more h = refl
    go false t more h = rw Rattle.std.proofs.Common.one-add (more (omega arith))

keys_length : (s : Classes) → length (keys_of s) ≡ length s
keys_length [] = refl
keys_length (e ∷ es) = ap suc (keys_length es)

pub named_at : (s : Classes) (name : Name) (k : ℕ) → place_of s name ≡ Some k → (k < length s) × (class_named s name ≡ class_at s k)
named_at s name k h =
    let at = position_some (is_name name) (keys_of s) k h in
    (omega (arith, at.1, keys_length s), first_at (is_name name) s (subst (λ n. n < length (keys_of s)) at.0 at.1) ∙ ap (class_at s) (sym at.0))

pub role_at_place : (s : Classes) (name : Name) (k : ℕ) (role : Role) → place_of s name ≡ Some k → role_named s name ≡ Some role → role ≡ role_of s k
role_at_place s name k role h g =
    let e : Some role ≡ option_map (λ c. c.role) (class_at s k) = sym g ∙ ap (option_map (λ (c : Class). c.role)) (named_at s name k h).1 in
    ap (λ o. unwrap_or o Plain) e

pub number_at_place : (s : Classes) (name : Name) (k : ℕ) → place_of s name ≡ Some k → unwrap_or (is_number_named s name) false ≡ is_number_of s k
number_at_place s name k h = ap (λ o. unwrap_or (option_map (λ (c : Class). c.is_number) o) false) (named_at s name k h).1

-- ---- values

value_under : (P Q : Type 0) → (P → Q) → (Q → P) → (text : List ℕ) (v : Value) → IsValueOf P text v → IsValueOf Q text v
value_under P Q to from text (Number m) h = (to h.0, h.1)
value_under P Q to from text (Bytes b) h = (h.0, λ q. h.1 (from q))

unwrapped : (o : Option Bool) → unwrap_or o false ≡ true → o ≡ Some true
unwrapped (Some b) e = ap (λ x. Some x) e
unwrapped None e = absurd cc

-- the value of an attribute, where a test says whether its class has numbers
pub value_stated : (s : Classes) (name : Name) (may : Bool) (text : List ℕ) (v : Value) → may ≡ unwrap_or (is_number_named s name) false → IsValueOf (may ≡ true) text v → IsValueOf (is_number_named s name ≡ Some true) text v
value_stated s name may text v same h =
    value_under (may ≡ true) (is_number_named s name ≡ Some true) (λ e. unwrapped (is_number_named s name) (sym same ∙ e)) (λ e. same ∙ ap (λ o. unwrap_or o false) e) text v h

-- the same, as reading finds it
pub value_found : (s : Classes) (name : Name) (text : List ℕ) (v : Value) → IsValueOf (is_number_named s name ≡ Some true) text v → v ≡ value_of (unwrap_or (is_number_named s name) false) text
value_found s name text v h =
    let may = unwrap_or (is_number_named s name) false in
    value_read may text v
    (value_under (is_number_named s name ≡ Some true) (may ≡ true) (λ e. ap (λ o. unwrap_or o false) e) (λ e. unwrapped (is_number_named s name) e) text v h)

-- the plan agrees with the schema

attribute_agrees : (s : Classes) (a : Attribute) (p : PlanAttribute) → StatesPlanAttribute s a p → AttributeAgrees s p
attribute_agrees s a p st = record {
  known = (named_at s a.atp p.atp st.class).0;
  text = a.atv;
  value =
      let same = number_at_place s a.atp p.atp st.class in
      value_under (is_number_named s a.atp ≡ Some true) (is_number_of s p.atp ≡ true) (λ e. sym same ∙ ap (λ o. unwrap_or o false) e) (λ e. unwrapped (is_number_named s a.atp) (same ∙ e)) a.atv p.value st.value;
}

record_agrees : (s : Classes) (list : List Record) (r : Record) (p : PlanRecord) → StatesPlanRecord s list r p → RecordAgrees s p
record_agrees s list r p st = record {
  known = (named_at s r.scp p.class st.class).0;
  role = role_at_place s r.scp p.class p.role st.class st.role;
  attributes = zip_weaker (StatesPlanAttribute s) (AttributeAgrees s) (attribute_agrees s) r.attributes p.attributes st.attributes;
}

pub plans_agreeing : (s : Classes) (sheet : SheetData) (p : PlanData) → IsPlanOf s sheet p → Agrees s p
plans_agreeing s sheet p is = zip_weaker (StatesPlanRecord s sheet.list) (RecordAgrees s) (record_agrees s sheet.list) sheet.list p.list is.each

-- the plan of a sheet is one

one_attribute : (s : Classes) (a : Attribute) (p q : PlanAttribute) → StatesPlanAttribute s a p → StatesPlanAttribute s a q → p ≡ q
one_attribute s a p q h g =
    let c = same_Some p.atp q.atp (sym h.class ∙ g.class) in
    let t = h.set ∙ sym g.set in
    let v = value_one (is_number_named s a.atp ≡ Some true) a.atv p.value q.value h.value g.value in
    λ i. record { atp = c i; tex = t i; value = v i }

one_end : (list : List Record) (e : EndData) (p q : PlanEnd) → StatesPlanEnd list e p → StatesPlanEnd list e q → p ≡ q
one_end list e p q h g =
    let t = same_Some p.target q.target (sym h.target ∙ g.target) in
    let n = h.sns ∙ sym g.sns in
    λ i. record { target = t i; sns = n i }

one_record : (s : Classes) (list : List Record) (r : Record) (p q : PlanRecord) → StatesPlanRecord s list r p → StatesPlanRecord s list r q → p ≡ q
one_record s list r p q h g =
    let k = h.kind ∙ sym g.kind in
    let c = same_Some p.class q.class (sym h.class ∙ g.class) in
    let o = same_Some p.role q.role (sym h.role ∙ g.role) in
    let x = h.points ∙ sym g.points in
    let a = zip_one (StatesPlanAttribute s) (StatesPlanAttribute s) (one_attribute s) r.attributes p.attributes q.attributes h.attributes g.attributes in
    let f = h.extras ∙ sym g.extras in
    let e = zip_one (StatesPlanEnd list) (StatesPlanEnd list) (one_end list) r.ends p.ends q.ends h.ends g.ends in
    λ i. record { kind = k i; class = c i; role = o i; points = x i; attributes = a i; extras = f i; ends = e i }

pub one_plan_of : (s : Classes) (sheet other : SheetData) (p q : PlanData) → sheet.cse ≡ other.cse → sheet.list ≡ other.list → IsPlanOf s sheet p → IsPlanOf s other q → p ≡ q
one_plan_of s sheet other p q set list h g =
    let c = h.set ∙ (set ∙ sym g.set) in
    let there : AllZip (StatesPlanRecord s sheet.list) sheet.list q.list = subst (λ l. AllZip (StatesPlanRecord s l) l q.list) (sym list) g.each in
    let e = zip_one (StatesPlanRecord s sheet.list) (StatesPlanRecord s sheet.list) (one_record s sheet.list) sheet.list p.list q.list h.each there in
    λ i. record { cse = c i; list = e i }

-- each end is there

module _ (s : Classes) (sheet : SheetData) (p : PlanData) (is : IsPlanOf s sheet p) (whole : IsWholeSheet sheet) where
  long : length sheet.list ≡ length p.list
  long = zip_length (StatesPlanRecord s sheet.list) sheet.list p.list is.each

  stated : (k : ℕ) → IsPlace p k → (r : Record) × (slice_get sheet.list k ≡ Some r) × StatesPlanRecord s sheet.list r (record_at p k)
  stated k h = zip_at (StatesPlanRecord s sheet.list) sheet.list p.list is.each k blank h

  -- the record that a place has
  kind_there : (k : ℕ) (r : Record) → slice_get sheet.list k ≡ Some r → (record_at p k).kind ≡ r.kind
  kind_there k r h = (zip_back (StatesPlanRecord s sheet.list) sheet.list p.list is.each k r blank h).1.kind

  place_there : (e : EndData) (k : ℕ) → place_named sheet.list e.target ≡ Some k → IsPlace p k
  place_there e k h = omega (arith, (position_some _ sheet.list k h).1, long)

  record_there : (k : ℕ) → IsPlace p k → (r : Record) × (slice_get sheet.list k ≡ Some r)
  record_there k h = let at = stated k h in (at.0, at.1)

  there : (k : ℕ) → IsPlace p k → AllByRecursion (λ e. IsPlace p e.target) (record_at p k).ends
  there k h =
      let at = stated k h in
      zip_weaker (StatesPlanEnd sheet.list) (λ (e : PlanEnd). IsPlace p e.target) (λ d e st. place_there d e.target st.target) at.0.ends (record_at p k).ends at.2.ends

  shape : (rs : List Record) → list_all is_in_shape rs ≡ true → (k : ℕ) (r : Record) → slice_get rs k ≡ Some r → is_in_shape r ≡ true
  shape [] all k r h = absurd (none-some r h)
  shape (q ∷ rs) all zero r h = subst (λ x. is_in_shape x ≡ true) (same_Some q r h) (and_parts _ _ all).0
  shape (q ∷ rs) all (suc k) r h = shape rs (and_parts _ _ all).1 k r h

  points : (k : ℕ) → IsPlace p k → may_have_points (record_at p k).kind (length (record_at p k).points) ≡ true
  points k h =
      let at = stated k h in
      rw (at.2.kind, at.2.points) (and_parts _ _ (shape sheet.list whole.shape k at.0 at.1)).0

  ends : (k : ℕ) → IsPlace p k → may_have_ends (record_at p k).kind (length (record_at p k).ends) ≡ true
  ends k h =
      let at = stated k h in
      rw (at.2.kind, sym (zip_length (StatesPlanEnd sheet.list) at.0.ends (record_at p k).ends at.2.ends)) (and_parts _ _ (shape sheet.list whole.shape k at.0 at.1)).1

  module _ (hold : IsUnbroken (BreaksReferenceRule s sheet.list)) where
    -- an end that names a link names nothing
    no_link : (k : ℕ) → IsPlace p k → AllByRecursion (λ e. is_link (record_at p e.target).kind ≡ false) (record_at p k).ends
    no_link k h =
        let at = stated k h in
        let place : suc k - 1 ≡ k = omega arith in
        each at.0.ends (record_at p k).ends at.2.ends (λ i d l is_d. λ only. hold 305 (suc k) (names_nothing refl (at.0, (omega arith, rw place at.1), any_at at.0.ends i d l is_d only)))
      where
        any_at : (es : List EndData) (i : ℕ) (d : EndData) → i < length es → slice_get es i ≡ Some d → ((place : ℕ) (kind : Kind) → Names s sheet.list d place kind → kind ≡ Lnk)
            → Any (λ e. (place : ℕ) (kind : Kind) → Names s sheet.list e place kind → kind ≡ Lnk) es
        any_at es i d l is_d only = (i, d, l, get_or_from_slice_get es i d d is_d, only)

        each : (ds : List EndData) (es : List PlanEnd) → AllZip (StatesPlanEnd sheet.list) ds es
            → ((i : ℕ) (d : EndData) → i < length ds → slice_get ds i ≡ Some d → ((place : ℕ) (kind : Kind) → Names s sheet.list d place kind → kind ≡ Lnk) → ⊥)
            → AllByRecursion (λ e. is_link (record_at p e.target).kind ≡ false) es
        each [] [] all none = tt
        each [] (e ∷ es) all none = absurd all
        each (d ∷ ds) [] all none = absurd all
        each (d ∷ ds) (e ∷ es) all none = (go (is_link (record_at p e.target).kind) refl, each ds es all.1 (λ i f l is_f. none (suc i) f (omega arith) is_f))
          where
            go : (b : Bool) → is_link (record_at p e.target).kind ≡ b → b ≡ false
            go false x = refl
            go true x = absurd (none 0 d (omega arith) refl (λ place kind names.
                let same : e.target ≡ place = same_Some e.target place (sym all.0.target ∙ names.1) in
                let kind_is : (record_at p place).kind ≡ kind = kind_there place names.0 names.2 ∙ names.3 in
                sym kind_is ∙ link_is (record_at p place).kind (subst (λ t. is_link (record_at p t).kind ≡ true) same x)))

    -- a link that joins an arc to a record of another kind has one arc among its ends
    joins_count : (kind : Kind) → is_arc kind ≡ false → (r : Record) (q : PlanRecord) → AllZip (StatesPlanEnd sheet.list) r.ends q.ends → JoinsArcTo s sheet.list kind r → count_by (λ e. is_arc (record_at p e.target).kind) q.ends ≤ 1
    joins_count kind other r q all joins = go joins.4
      where
        arc_or : (e : EndData) (n : ℕ) (k : Kind) (x : PlanEnd) → Names s sheet.list e n k → StatesPlanEnd sheet.list e x → is_arc (record_at p x.target).kind ≡ is_arc k
        arc_or e n k x names st =
            let same : x.target ≡ n = same_Some x.target n (sym st.target ∙ names.1) in
            ap is_arc (ap (λ t. (record_at p t).kind) same ∙ (kind_there n names.0 names.2 ∙ names.3))

        two : (d e : EndData) (es : List PlanEnd) → AllZip (StatesPlanEnd sheet.list) (d ∷ e ∷ []) es
            → ((x : PlanEnd) → StatesPlanEnd sheet.list d x → (y : PlanEnd) → StatesPlanEnd sheet.list e y → cond (is_arc (record_at p x.target).kind) 1 0 + cond (is_arc (record_at p y.target).kind) 1 0 ≤ 1)
            → count_by (λ e. is_arc (record_at p e.target).kind) es ≤ 1
        two d e [] all few = absurd all
        two d e (x ∷ []) all few = absurd all.1
        two d e (x ∷ y ∷ z ∷ es) all few = absurd all.1.1
        two d e (x ∷ y ∷ []) all few =
            let test = λ (e : PlanEnd). is_arc (record_at p e.target).kind in
            omega (arith, few x all.0 y all.1.0, count-cons test x (y ∷ []), count-cons test y [])

        go : ((r.ends ≡ joins.0 ∷ joins.1 ∷ []) ⊎ (r.ends ≡ joins.1 ∷ joins.0 ∷ [])) → count_by (λ e. is_arc (record_at p e.target).kind) q.ends ≤ 1
        go (inl e) = two joins.0 joins.1 q.ends (subst (λ es. AllZip (StatesPlanEnd sheet.list) es q.ends) e all)
            (λ x sx y sy. rw (arc_or joins.1 joins.3 kind y joins.6 sy, other, arc_or joins.0 joins.2 Par x joins.5 sx) (omega arith))
        go (inr e) = two joins.1 joins.0 q.ends (subst (λ es. AllZip (StatesPlanEnd sheet.list) es q.ends) e all)
            (λ x sx y sy. rw (arc_or joins.1 joins.3 kind x joins.6 sx, other, arc_or joins.0 joins.2 Par y joins.5 sy) (omega arith))

    -- what isn't a link has no ends
    link_or_none : (k : Kind) (n : ℕ) → may_have_ends k n ≡ true → (k ≡ Lnk) ⊎ (n ≡ 0)
    link_or_none Pno n h = inr (eqb-true n 0 h)
    link_or_none Par n h = inr (eqb-true n 0 h)
    link_or_none Pfe n h = inr (eqb-true n 0 h)
    link_or_none Fea n h = inr (eqb-true n 0 h)
    link_or_none Lnk n h = inl refl

    one_arc : (k : ℕ) → IsPlace p k → is_plain (record_at p k).role ≡ false → count_by (λ e. is_arc (record_at p e.target).kind) (record_at p k).ends ≤ 1
    one_arc k h kind = go (link_or_none (record_at p k).kind (length (record_at p k).ends) (ends k h))
      where
        few : ℕ
        few = count_by (λ e. is_arc (record_at p e.target).kind) (record_at p k).ends

        at : (r : Record) × (slice_get sheet.list k ≡ Some r) × StatesPlanRecord s sheet.list r (record_at p k)
        at = stated k h

        place : suc k - 1 ≡ k
        place = omega arith

        joined : (role : Role) → (record_at p k).role ≡ role → is_plain role ≡ false → (record_at p k).kind ≡ Lnk → Dec (few ≤ 1) → few ≤ 1
        joined role is plain link (yes less) = less
        joined Plain is plain link (no more) = absurd (true≢false plain)
        joined Initial is plain link (no more) = absurd (hold 306 (suc k) (joins_wrong refl (
          at.0,
          (omega arith, rw place at.1),
          inl (inl (sym at.2.kind ∙ link, at.2.role ∙ ap Some is), λ joins. more (joins_count Pno refl at.0 (record_at p k) at.2.ends joins)),
        )))
        joined Final is plain link (no more) = absurd (hold 306 (suc k) (joins_wrong refl (
          at.0,
          (omega arith, rw place at.1),
          inl (inr (sym at.2.kind ∙ link, at.2.role ∙ ap Some is), λ joins. more (joins_count Pno refl at.0 (record_at p k) at.2.ends joins)),
        )))
        joined Left is plain link (no more) = absurd (hold 306 (suc k) (joins_wrong refl (
          at.0,
          (omega arith, rw place at.1),
          inr (inl (sym at.2.kind ∙ link, at.2.role ∙ ap Some is), λ joins. more (joins_count Pfe refl at.0 (record_at p k) at.2.ends joins)),
        )))
        joined Right is plain link (no more) = absurd (hold 306 (suc k) (joins_wrong refl (
          at.0,
          (omega arith, rw place at.1),
          inr (inr (sym at.2.kind ∙ link, at.2.role ∙ ap Some is), λ joins. more (joins_count Pfe refl at.0 (record_at p k) at.2.ends joins)),
        )))

        go : ((record_at p k).kind ≡ Lnk) ⊎ (length (record_at p k).ends ≡ 0) → few ≤ 1
        go (inl link) = joined (record_at p k).role refl kind link (dec_le few 1)
        go (inr none) = omega (arith, none, Rattle.std.proofs.lemmas.List.Sums.count_by-le-length (λ (e : PlanEnd). is_arc (record_at p e.target).kind) (record_at p k).ends)

    pub plans_whole : IsWholePlan p
    plans_whole = record { few = omega (arith, whole.few, long); there = there; no_link = no_link; points = points; ends = ends; one_arc = one_arc }
