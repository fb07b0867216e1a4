-- The rules of references as tests of one record.
use Rattle.std.proofs.Common.{◌≡◌, ◌≢◌, ℕ, zero, suc, ◌+◌, ◌-◌, ◌<◌, ◌≤◌, ◌⊎◌, inl, inr, Bool, true, false, cond, not, ◌&&◌, ◌||◌, is_none, List, [], ◌∷◌, ◌++◌, length, drop, get_or, Option, Some, None, unwrap_or, slice_get, refl, sym, ap, ◌∙◌, subst, arith, codes, Any, true≢false}
use Rattle.std.specs.List.{AllZip, list_any}
use Rattle.std.specs.Str.{bytes_eq}
use Rattle.std.proofs.lemmas.Slice.Eq.{bytes_eq-Decides}
use Rattle.std.proofs.lemmas.List.Folds.{Any-from_list_any}
use Rattle.std.proofs.Math.Seq.{drop-cons}
use Rattle.std.proofs.Math.ListN.{drop_of_length-le}
use Rattle.std.proofs.lemmas.List.{append-nil}
use Rattle.std.proofs.lemmas.Bool.{and_parts}
use Rattle.std.proofs.lemmas.Option.{same_Some}
use Rattle.edi_line.proofs.EachElement.{any_here, any_later, any_cases}
use Rattle.edi_record.specs.declared.record.Attribute.{Attribute}
use Rattle.edi_record.specs.LinkEnds.{EndData}
use Rattle.edi_record.specs.declared.record.Kind.{Kind}
use Rattle.edi_record.specs.declared.record.Kind.TheVariants.{Par, Lnk}
use Rattle.edi_record.specs.declared.record.Record.{Record}
use Rattle.edi_schema.specs.Classes.{Classes, place_of, role_named}
use Rattle.edi_schema.specs.Roles.{is_plain}
use Rattle.edi_schema.specs.declared.role.Role.{Role}
use Rattle.edi_schema.specs.declared.role.Role.TheVariants.{Initial, Final, Left, Right, Plain}
use Rattle.edi_plan.specs.inner.Done.{JoinsIn}
use Rattle.edi_plan.specs.Joined.{beside}
use Rattle.edi_record.specs.Records.{is_link}
use Rattle.edi_record.proofs.KindCodes.{link_is}
use Rattle.edi_plan.specs.Plans.{same_kind, kind_rank}
use Rattle.edi_plan.specs.ReferenceRules.{Names, IsLinkOfRole}
use Rattle.edi_plan.specs.inner.Resolving.{AreGiven, GivesEnd, HasNoAttributeClass, lacks_class, is_elsewhere, role_of_link}
use Rattle.edi_plan.specs.inner.SideTable.{join_of_two, join_in, link_join}
use Rattle.edi_plan.specs.inner.Targets.{Leads, IsTargetIfAny}
use Rattle.edi_plan.specs.declared.record.PlanEnd.{PlanEnd}
use Rattle.edi_plan.specs.declared.sides.Join.{Join}
use Rattle.edi_plan.specs.declared.targets.Target.{Target}
use Rattle.edi_plan.proofs.PlaceLemmas.{one_kind}

pub none_is : {X : Type 0} (o : Option X) → is_none o ≡ true → o ≡ None
none_is None h = refl
none_is (Some x) h = cc

-- some element of a list

none_any : {X : Type 0} (P : X → Type 0) → Any P [] → ⊥
none_any P d = let less = d.2 in omega (arith, less)

pub any_true : {X : Type 0} (P : X → Type 0) (test : X → Bool) → ((x : X) → P x → test x ≡ true) → (xs : List X) → Any P xs → list_any test xs ≡ true
any_true P test holds [] d = absurd (none_any P d)
any_true P test holds (x ∷ xs) d = go (any_true P test holds xs) (any_cases P x xs d)
  where
    true_or : (b : Bool) → b || true ≡ true
    true_or true = refl
    true_or false = refl

    go : (Any P xs → list_any test xs ≡ true) → P x ⊎ Any P xs → test x || list_any test xs ≡ true
    go rest (inl p) = ap (λ b. b || list_any test xs) (holds x p)
    go rest (inr more) = ap (λ b. test x || b) (rest more) ∙ true_or (test x)

pub any_map : {X : Type 0} (P Q : X → Type 0) → ((x : X) → P x → Q x) → (xs : List X) → Any P xs → Any Q xs
any_map P Q f xs d = (d.0, d.1, d.2, d.3, f d.1 d.4)

pub true_any : {X : Type 0} (P : X → Type 0) (test : X → Bool) → ((x : X) → test x ≡ true → P x) → (xs : List X) → list_any test xs ≡ true → Any P xs
true_any P test gives xs h = any_map (λ x. test x ≡ true) P gives xs (Any-from_list_any test xs h)

-- of two lists side by side
pub zip_any : {A B : Type 0} (R : A → B → Type 0) (P : A → Type 0) (test : B → Bool) → ((x : A) (y : B) → R x y → test y ≡ true → P x) → (xs : List A) (ys : List B) → AllZip R xs ys → list_any test ys ≡ true → Any P xs
zip_any R P test f [] [] all h = cc
zip_any R P test f [] (y ∷ ys) all h = absurd all
zip_any R P test f (x ∷ xs) [] all h = absurd all
zip_any R P test f (x ∷ xs) (y ∷ ys) all h = go (zip_any R P test f xs ys all.1) (test y) refl h
  where
    go : (list_any test ys ≡ true → Any P xs) → (b : Bool) → test y ≡ b → b || list_any test ys ≡ true → Any P (x ∷ xs)
    go rest true t e = any_here P x xs (f x y all.0 t)
    go rest false t e = any_later P x xs (rest e)

pub any_zip : {A B : Type 0} (R : A → B → Type 0) (P : A → Type 0) (test : B → Bool) → ((x : A) (y : B) → R x y → P x → test y ≡ true) → (xs : List A) (ys : List B) → AllZip R xs ys → Any P xs → list_any test ys ≡ true
any_zip R P test f [] ys all d = absurd (none_any P d)
any_zip R P test f (x ∷ xs) [] all d = absurd all
any_zip R P test f (x ∷ xs) (y ∷ ys) all d = go (any_zip R P test f xs ys all.1) (any_cases P x xs d)
  where
    true_or : (b : Bool) → b || true ≡ true
    true_or true = refl
    true_or false = refl

    go : (Any P xs → list_any test ys ≡ true) → P x ⊎ Any P xs → test y || list_any test ys ≡ true
    go rest (inl p) = ap (λ b. b || list_any test ys) (f x y all.0 p)
    go rest (inr more) = ap (λ b. test y || b) (rest more) ∙ true_or (test y)

-- ---- texts that differ

differ : (a b : List ℕ) → not (bytes_eq a b) ≡ true → a ≢ b
differ a b h e = let t = (bytes_eq-Decides a b).1 e in go (bytes_eq a b) t h
  where
    go : (c : Bool) → c ≡ true → not c ≡ true → ⊥
    go true t h = true≢false (sym h)
    go false t h = true≢false (sym t)

differs : (a b : List ℕ) → a ≢ b → not (bytes_eq a b) ≡ true
differs a b other = go (bytes_eq a b) refl
  where
    go : (c : Bool) → bytes_eq a b ≡ c → not c ≡ true
    go true t = absurd (other ((bytes_eq-Decides a b).0 t))
    go false t = refl

either : {P Q : Type 0} (a b : Bool) → (a ≡ true → P) → (b ≡ true → Q) → a || b ≡ true → P ⊎ Q
either true b f g h = inl (f refl)
either false b f g h = inr (g h)

or_true : {P Q : Type 0} (a b : Bool) → (P → a ≡ true) → (Q → b ≡ true) → P ⊎ Q → a || b ≡ true
or_true a b f g (inl p) = ap (λ c. c || b) (f p)
or_true a b f g (inr q) = ap (λ c. a || c) (g q) ∙ true_or a
  where
    true_or : (b : Bool) → b || true ≡ true
    true_or true = refl
    true_or false = refl

pub lacks_true : (s : Classes) (a : Attribute) → HasNoAttributeClass s a → lacks_class s a ≡ true
lacks_true s a h = or_true (not (bytes_eq a.atp.rty (codes "ATT"))) (is_none (place_of s a.atp)) (differs a.atp.rty (codes "ATT")) (λ e. ap is_none e) h

pub true_lacks : (s : Classes) (a : Attribute) → lacks_class s a ≡ true → HasNoAttributeClass s a
true_lacks s a h = either (not (bytes_eq a.atp.rty (codes "ATT"))) (is_none (place_of s a.atp)) (differ a.atp.rty (codes "ATT")) (none_is (place_of s a.atp)) h

pub elsewhere_true : (e d : EndData) → ((d.lot ≢ e.lot) ⊎ (d.subset ≢ e.subset)) → is_elsewhere (record { lot = e.lot; subset = e.subset }) d ≡ true
unfolding is_elsewhere
elsewhere_true e d h = or_true (not (bytes_eq d.lot e.lot)) (not (bytes_eq d.subset e.subset)) (differs d.lot e.lot) (differs d.subset e.subset) h

pub true_elsewhere : (e d : EndData) → is_elsewhere (record { lot = e.lot; subset = e.subset }) d ≡ true → (d.lot ≢ e.lot) ⊎ (d.subset ≢ e.subset)
unfolding is_elsewhere
true_elsewhere e d h = either (not (bytes_eq d.lot e.lot)) (not (bytes_eq d.subset e.subset)) (differ d.lot e.lot) (differ d.subset e.subset) h

-- ---- targets

module _ (s : Classes) (list : List Record) where
  pub target_names : (e : EndData) (t : Target) → Leads list e t → Names s list e t.place t.kind
  target_names e t d = (d.there, d.named, d.here, d.kind)

  not_both : (b : Bool) → b ≡ true → b ≡ false → ⊥
  not_both b t f = true≢false (sym t ∙ f)

  lead : (e : EndData) (place : ℕ) (kind : Kind) → Names s list e place kind → is_link kind ≡ false → Leads list e (record { place = place; kind = kind })
  lead e place kind names no_link = record { there = names.0; named = names.1; here = names.2; kind = names.3; no_link = no_link }

  pub names_target : (e : EndData) (t : Option Target) (place : ℕ) (kind : Kind) → IsTargetIfAny list e t → Names s list e place kind → is_link kind ≡ false → t ≡ Some (record { place = place; kind = kind })
  names_target e None place kind is names no_link = absurd (is (record { place = place; kind = kind }) (lead e place kind names no_link))
  names_target e (Some t) place kind is names no_link =
      let places : t.place ≡ place = same_Some _ _ (sym is.named ∙ names.1) in
      let records : is.there ≡ names.0 = same_Some _ _ (sym is.here ∙ (ap (slice_get list) places ∙ names.2)) in
      let kinds : t.kind ≡ kind = sym is.kind ∙ (ap (λ (r : Record). r.kind) records ∙ names.3) in
      ap Some (λ i. record { place = places i; kind = kinds i })

  -- 305
  pub nowhere : (e : EndData) (t : Option Target) → IsTargetIfAny list e t → is_none t ≡ true → (place : ℕ) (kind : Kind) → Names s list e place kind → kind ≡ Lnk
  nowhere e (Some t) is none place kind names = cc
  nowhere e None is none place kind names = go (is_link kind) refl
    where
      go : (b : Bool) → is_link kind ≡ b → kind ≡ Lnk
      go true t = link_is kind t
      go false t = absurd (is (record { place = place; kind = kind }) (lead e place kind names t))

  pub nowhere_true : (e : EndData) (t : Option Target) → IsTargetIfAny list e t → ((place : ℕ) (kind : Kind) → Names s list e place kind → kind ≡ Lnk) → is_none t ≡ true
  nowhere_true e None is only = refl
  nowhere_true e (Some t) is only = absurd (not_both (is_link t.kind) (ap is_link (only t.place t.kind (target_names e t is))) is.no_link)

  -- ---- what a link joins

  beside_no_link : (role : Role) → is_plain role ≡ false → (is_link (beside role) ≡ false) × (same_kind (beside role) Par ≡ false)
  beside_no_link Initial h = (refl, refl)
  beside_no_link Final h = (refl, refl)
  beside_no_link Left h = (refl, refl)
  beside_no_link Right h = (refl, refl)
  beside_no_link Plain h = cc

  join_is : (role : Role) (ts : List (Option Target)) → is_plain role ≡ false → link_join role ts ≡ join_in (beside role) ts
  join_is role ts h = ap (λ b. cond b None (join_in (beside role) ts)) h

  joins_first : (role : Role) (a x : ℕ) → is_plain role ≡ false → join_of_two (beside role) (record { place = a; kind = Par }) (record { place = x; kind = beside role }) ≡ Some (record { arc = a; other = x })
  joins_first Initial a x h = refl
  joins_first Final a x h = refl
  joins_first Left a x h = refl
  joins_first Right a x h = refl
  joins_first Plain a x h = cc

  joins_second : (role : Role) (a x : ℕ) → is_plain role ≡ false → join_of_two (beside role) (record { place = x; kind = beside role }) (record { place = a; kind = Par }) ≡ Some (record { arc = a; other = x })
  joins_second Initial a x h = refl
  joins_second Final a x h = refl
  joins_second Left a x h = refl
  joins_second Right a x h = refl
  joins_second Plain a x h = cc

  two_of : (es : List EndData) (ts : List (Option Target)) (d e : EndData) → es ≡ d ∷ e ∷ [] → AllZip (IsTargetIfAny list) es ts
      → (t u : Option Target) × (ts ≡ t ∷ u ∷ []) × IsTargetIfAny list d t × IsTargetIfAny list e u
  two_of es ts d e is all = go ts (subst (λ xs. AllZip (IsTargetIfAny list) xs ts) is all)
    where
      go : (ts : List (Option Target)) → AllZip (IsTargetIfAny list) (d ∷ e ∷ []) ts → (t u : Option Target) × (ts ≡ t ∷ u ∷ []) × IsTargetIfAny list d t × IsTargetIfAny list e u
      go [] all = absurd all
      go (t ∷ []) all = absurd all.1
      go (t ∷ u ∷ v ∷ vs) all = absurd all.1.1
      go (t ∷ u ∷ []) all = (t, u, refl, all.0, all.1.0)

  pub names_join : (r : Record) (role : Role) (ts : List (Option Target)) (a x : ℕ) → AllZip (IsTargetIfAny list) r.ends ts → is_plain role ≡ false → JoinsIn s list r role a x
      → link_join role ts ≡ Some (record { arc = a; other = x })
  names_join r role ts a x all h d = join_is role ts h ∙ go d.ends
    where
      go : ((r.ends ≡ d.to_arc ∷ d.to_other ∷ []) ⊎ (r.ends ≡ d.to_other ∷ d.to_arc ∷ [])) → join_in (beside role) ts ≡ Some (record { arc = a; other = x })
      go (inl e) =
          let two = two_of r.ends ts d.to_arc d.to_other e all in
          let first = names_target d.to_arc two.0 a Par two.3 d.arc refl in
          let second = names_target d.to_other two.1 x (beside role) two.4 d.other (beside_no_link role h).0 in
          ap (join_in (beside role)) two.2 ∙ ((λ i. join_in (beside role) (first i ∷ second i ∷ [])) ∙ joins_first role a x h)
      go (inr e) =
          let two = two_of r.ends ts d.to_other d.to_arc e all in
          let first = names_target d.to_other two.0 x (beside role) two.3 d.other (beside_no_link role h).0 in
          let second = names_target d.to_arc two.1 a Par two.4 d.arc refl in
          ap (join_in (beside role)) two.2 ∙ ((λ i. join_in (beside role) (first i ∷ second i ∷ [])) ∙ joins_second role a x h)

  pub kind_same : (a b : Kind) → same_kind a b ≡ true → a ≡ b
  kind_same a b h = one_kind a b (Rattle.std.proofs.Common.eqb-true (kind_rank a) (kind_rank b) h)

  pub join_names : (r : Record) (role : Role) (ts : List (Option Target)) (j : Join) → AllZip (IsTargetIfAny list) r.ends ts → is_plain role ≡ false → link_join role ts ≡ Some j
      → JoinsIn s list r role j.arc j.other
  join_names r role ts j all h is = by r.ends ts refl all (sym (join_is role ts h) ∙ is)
    where
      both : (d e : EndData) (t u : Target) → r.ends ≡ d ∷ e ∷ [] → Leads list d t → Leads list e u → join_of_two (beside role) t u ≡ Some j → JoinsIn s list r role j.arc j.other
      both d e t u ends first second two = go (same_kind t.kind Par && same_kind u.kind (beside role)) refl (same_kind u.kind Par && same_kind t.kind (beside role)) refl two
        where
          arc_of : (f : EndData) (v : Target) (place : ℕ) (kind : Kind) → Leads list f v → v.place ≡ place → v.kind ≡ kind → Names s list f place kind
          arc_of f v place kind lead places kinds = (lead.there, lead.named ∙ ap Some places, subst (λ k. slice_get list k ≡ Some lead.there) places lead.here, lead.kind ∙ kinds)

          go : (b : Bool) → same_kind t.kind Par && same_kind u.kind (beside role) ≡ b → (c : Bool) → same_kind u.kind Par && same_kind t.kind (beside role) ≡ c
              → cond b (Some (record { arc = t.place; other = u.place })) (cond c (Some (record { arc = u.place; other = t.place })) None) ≡ Some j → JoinsIn s list r role j.arc j.other
          go true p c q made =
              let parts = and_parts _ _ p in
              let same = same_Some _ _ made in
              record {
                to_arc = d;
                to_other = e;
                ends = inl ends;
                arc = arc_of d t j.arc Par first (ap (λ (k : Join). k.arc) same) (kind_same t.kind Par parts.0);
                other = arc_of e u j.other (beside role) second (ap (λ (k : Join). k.other) same) (kind_same u.kind (beside role) parts.1);
              }
          go false p true q made =
              let parts = and_parts _ _ q in
              let same = same_Some _ _ made in
              record {
                to_arc = e;
                to_other = d;
                ends = inr ends;
                arc = arc_of e u j.arc Par second (ap (λ (k : Join). k.arc) same) (kind_same u.kind Par parts.0);
                other = arc_of d t j.other (beside role) first (ap (λ (k : Join). k.other) same) (kind_same t.kind (beside role) parts.1);
              }
          go false p false q made = cc

      by : (es : List EndData) (ts : List (Option Target)) → r.ends ≡ es → AllZip (IsTargetIfAny list) es ts → join_in (beside role) ts ≡ Some j → JoinsIn s list r role j.arc j.other
      by es [] e all made = cc
      by es (t ∷ []) e all made = cc
      by es (None ∷ t ∷ []) e all made = cc
      by es (Some d ∷ None ∷ []) e all made = cc
      by es (t ∷ u ∷ v ∷ ts) e all made = cc
      by [] (Some t ∷ Some u ∷ []) e all made = absurd all
      by (x ∷ []) (Some t ∷ Some u ∷ []) e all made = absurd all.1
      by (x ∷ y ∷ z ∷ es) (Some t ∷ Some u ∷ []) e all made = absurd all.1.1
      by (x ∷ y ∷ []) (Some t ∷ Some u ∷ []) e all made = both x y t u e all.0 all.1.0 made

  -- the role of a link
  pub link_has_role : (r : Record) → is_plain (role_of_link s r) ≡ false → IsLinkOfRole s list r (role_of_link s r)
  link_has_role r h = go (is_link r.kind) refl (role_named s r.scp) refl h
    where
      go : (b : Bool) → is_link r.kind ≡ b → (o : Option Role) → role_named s r.scp ≡ o → is_plain (cond b (unwrap_or o Plain) Plain) ≡ false
          → (r.kind ≡ Lnk) × (role_named s r.scp ≡ Some (cond (is_link r.kind) (unwrap_or (role_named s r.scp) Plain) Plain))
      go false t o e plain = cc
      go true t None e plain = cc
      go true t (Some role) e plain = (link_is r.kind t, e ∙ ap Some (sym (ap (λ b. cond b (unwrap_or (role_named s r.scp) Plain) Plain) t ∙ ap (λ o. unwrap_or o Plain) e)))

  pub role_is : (r : Record) (role : Role) → IsLinkOfRole s list r role → role_of_link s r ≡ role
  role_is r role has = ap (λ k. cond (is_link k) (unwrap_or (role_named s r.scp) Plain) Plain) has.0 ∙ ap (λ o. unwrap_or o Plain) has.1

pub any_two : {X : Type 0} (P : X → Type 0) (x y : X) → Any P (x ∷ y ∷ []) → P x ⊎ P y
any_two P x y d = go (any_cases P x (y ∷ []) d)
  where
    by : P y ⊎ Any P [] → P x ⊎ P y
    by (inl p) = inr p
    by (inr none) = absurd (none_any P none)

    go : P x ⊎ Any P (y ∷ []) → P x ⊎ P y
    go (inl p) = inl p
    go (inr more) = by (any_cases P y [] more)

pub turned : {P Q : Type 0} → P ⊎ Q → Q ⊎ P
turned (inl p) = inr p
turned (inr q) = inl q

-- ---- ends with their targets

pub given_step : (ts : List (Option Target)) (k : ℕ) (d : Option Target) (t : Target) (es rest : List EndData) (e : EndData) (p : PlanEnd) (more : List PlanEnd) → k < length ts → get_or ts k d ≡ Some t → es ≡ e ∷ rest → GivesEnd (Some t) e p
    → AreGiven (drop (k + 1) ts) rest more → AreGiven (drop k ts) es (p ∷ more)
given_step ts k d t es rest e p more less is next gives given =
    let front : drop k ts ≡ Some t ∷ drop (k + 1) ts = drop-cons ts k d less ∙ (λ i. is i ∷ drop (sym (Rattle.std.proofs.Common.add-one k) i) ts) in
    subst (λ us. AreGiven us es (p ∷ more)) (sym front) (subst (λ fs. AreGiven (Some t ∷ drop (k + 1) ts) fs (p ∷ more)) (sym next) (gives, given))

pub given_end : (ts all : List (Option Target)) (k : ℕ) (es ends : List EndData) (done : List PlanEnd) → k + length es ≡ length ts → es ≡ [] → ((more : List PlanEnd) → AreGiven (drop k ts) es more → AreGiven all ends (done ++ more)) → AreGiven all ends done
given_end ts all k es ends done long none given =
    let past : length ts ≤ k = omega (arith, ap length none) in
    let nothing : drop k ts ≡ [] = drop_of_length-le ts past in
    subst (AreGiven all ends) (append-nil done) (given [] (subst (λ us. AreGiven us es []) (sym nothing) (subst (λ fs. AreGiven [] fs []) (sym none) tt)))

pub none_there : (ts : List (Option Target)) (k : ℕ) (d : Option Target) → k < length ts → get_or ts k d ≡ None → list_any is_none ts ≡ true
none_there [] k d less is = absurd (omega (arith, less))
none_there (t ∷ ts) zero d less is = ap (λ o. is_none o || list_any is_none ts) is
none_there (t ∷ ts) (suc k) d less is = ap (λ b. is_none t || b) (none_there ts k d (omega arith) is) ∙ true_or (is_none t)
  where
    true_or : (b : Bool) → b || true ≡ true
    true_or true = refl
    true_or false = refl
