-- The faces beside arcs, by a test.
use Rattle.std.proofs.Common.{◌≡◌, ◌≢◌, ℕ, suc, ◌<◌, ◌⊎◌, inl, inr, arith, Bool, true, false, true≢false, ◌&&◌, ◌==◌, eqb-true, eq-eqb, List, [], ◌∷◌, length, get_or, refl, sym, ap, ◌∙◌, subst}
use Rattle.std.specs.List.{list_any}
use Rattle.std.proofs.lemmas.Bool.{eqb-false, and_parts, or_cases, and_from, false_from_ne_true, or_left, or_right}
use Rattle.std.proofs.lemmas.List.Folds.{list_any_at}
use Rattle.edi_record.specs.declared.record.Kind.{Kind}
use Rattle.edi_record.specs.declared.record.Kind.TheVariants.{Pno, Par, Pfe, Fea, Lnk}
use Rattle.edi_schema.proofs.Paired.{itself, one_role}
use Rattle.edi_schema.specs.Roles.{is_plain, same_role}
use Rattle.edi_schema.specs.declared.role.Role.{Role}
use Rattle.edi_schema.specs.declared.role.Role.TheVariants.{Plain}
use Rattle.edi_plan.specs.Joined.{HasEnds, IsJoin, IsJoined}
use Rattle.edi_record.specs.Records.{is_link}
use Rattle.edi_record.proofs.KindCodes.{link_is}
use Rattle.edi_schema.proofs.RoleTests.{is_plain_not}
use Rattle.edi_plan.specs.Plans.{PlanData, IsPlace, blank, is_arc, record_at}
use Rattle.edi_plan.specs.Sides.{Side, targets}
use Rattle.edi_plan.specs.declared.record.PlanRecord.{PlanRecord}
use Rattle.edi_picture.specs.Faces.{are_two, is_beside, links}

-- ---- an arc has one face on a side

join_of : (p : PlanData) (a x : ℕ) (role : Role) (s : Side p a role x) → IsJoin p s.link
join_of p a x role s = record { there = s.there; is_link = s.is_link; not_plain = ap is_plain s.has_role ∙ is_plain_not role s.not_plain }

other_end : (a x y : ℕ) (xs : List ℕ) → (xs ≡ a ∷ x ∷ []) ⊎ (xs ≡ x ∷ a ∷ []) → (xs ≡ a ∷ y ∷ []) ⊎ (xs ≡ y ∷ a ∷ []) → x ≡ y
other_end a x y xs (inl e) (inl f) = cc
other_end a x y xs (inl e) (inr f) = cc
other_end a x y xs (inr e) (inl f) = cc
other_end a x y xs (inr e) (inr f) = cc

one_side : (p : PlanData) → IsJoined p → (a x y : ℕ) (role : Role) → Side p a role x → Side p a role y → x ≡ y
one_side p joined a x y role s t =
    let same : s.link ≡ t.link = joined.one_side s.link t.link a x y (join_of p a x role s) (join_of p a y role t) (s.has_role ∙ sym t.has_role) s.is_arc s.ends t.ends in
    other_end a x y (targets (record_at p t.link)) (subst (λ k. HasEnds p k a x) same s.ends) t.ends

-- ---- tests and what they say

arc_kind : (k : Kind) → is_arc k ≡ true → k ≡ Par
arc_kind Pno e = absurd (true≢false (sym e))
arc_kind Par e = refl
arc_kind Pfe e = absurd (true≢false (sym e))
arc_kind Fea e = absurd (true≢false (sym e))
arc_kind Lnk e = absurd (true≢false (sym e))

two_said : (a k : ℕ) (xs : List ℕ) → are_two a k xs ≡ true → (xs ≡ a ∷ k ∷ []) ⊎ (xs ≡ k ∷ a ∷ [])
two_said a k [] e = absurd (true≢false (sym e))
two_said a k (d ∷ []) e = absurd (true≢false (sym e))
two_said a k (d ∷ g ∷ []) e = go (or_cases _ _ e)
  where
    go : (((d == a) && (g == k)) ≡ true) ⊎ (((d == k) && (g == a)) ≡ true) → (d ∷ g ∷ [] ≡ a ∷ k ∷ []) ⊎ (d ∷ g ∷ [] ≡ k ∷ a ∷ [])
    go (inl h) =
        let parts = and_parts (d == a) (g == k) h in
        let one : d ≡ a = eqb-true d a parts.0 in
        let two : g ≡ k = eqb-true g k parts.1 in
        inl cc
    go (inr h) =
        let parts = and_parts (d == k) (g == a) h in
        let one : d ≡ k = eqb-true d k parts.0 in
        let two : g ≡ a = eqb-true g a parts.1 in
        inr cc
two_said a k (d ∷ g ∷ f ∷ xs) e = absurd (true≢false (sym e))

two_tested : (a k : ℕ) (xs : List ℕ) → (xs ≡ a ∷ k ∷ []) ⊎ (xs ≡ k ∷ a ∷ []) → are_two a k xs ≡ true
two_tested a k xs (inl e) =
    ap (are_two a k) e ∙ or_left ((a == a) && (k == k)) ((a == k) && (k == a)) (and_from (a == a) (k == k) (eq-eqb a a refl) (eq-eqb k k refl))
two_tested a k xs (inr e) =
    ap (are_two a k) e ∙ or_right ((k == a) && (a == k)) ((k == k) && (a == a)) (and_from (k == k) (a == a) (eq-eqb k k refl) (eq-eqb a a refl))

link_tested : (role : Role) (a k : ℕ) (r : PlanRecord) → r.kind ≡ Lnk → r.role ≡ role → (targets r ≡ a ∷ k ∷ []) ⊎ (targets r ≡ k ∷ a ∷ []) → links role a k r ≡ true
link_tested role a k r link is ends =
    and_from (is_link r.kind) (same_role r.role role && are_two a k (targets r)) (ap is_link link)
    (and_from (same_role r.role role) (are_two a k (targets r)) (ap (λ (o : Role). same_role o role) is ∙ itself role) (two_tested a k (targets r) ends))

-- the test of a picture, and what an arc has by a role
pub tested : (p : PlanData) (role : Role) (a k : ℕ) → Side p a role k → is_beside p role a k ≡ true
tested p role a k s =
    and_from (is_arc (record_at p a).kind) (list_any (links role a k) p.list) (ap is_arc s.is_arc)
    (list_any_at (links role a k) p.list s.link blank s.there (link_tested role a k (record_at p s.link) s.is_link s.has_role s.ends))

link_said : (role : Role) (a k : ℕ) (r : PlanRecord) → links role a k r ≡ true → (r.kind ≡ Lnk) × (r.role ≡ role) × ((targets r ≡ a ∷ k ∷ []) ⊎ (targets r ≡ k ∷ a ∷ []))
link_said role a k r e =
    let outer = and_parts (is_link r.kind) (same_role r.role role && are_two a k (targets r)) e in
    let inner = and_parts (same_role r.role role) (are_two a k (targets r)) outer.1 in
    (link_is r.kind outer.0, one_role r.role role inner.0, two_said a k (targets r) inner.1)

-- one of the records passes the test
found_at : (f : PlanRecord → Bool) (rs : List PlanRecord) → list_any f rs ≡ true → (i : ℕ) × (i < length rs) × (f (get_or rs i blank) ≡ true)
found_at f [] e = absurd (true≢false (sym e))
found_at f (r ∷ rs) e = go (or_cases (f r) (list_any f rs) e) (found_at f rs)
  where
    go : (f r ≡ true) ⊎ (list_any f rs ≡ true) → (list_any f rs ≡ true → (i : ℕ) × (i < length rs) × (f (get_or rs i blank) ≡ true))
        → (i : ℕ) × (i < length (r ∷ rs)) × (f (get_or (r ∷ rs) i blank) ≡ true)
    go (inl h) later = (0, omega arith, h)
    go (inr h) later = let rest = later h in (suc rest.0, omega (arith, rest.1), rest.2)

pub said : (p : PlanData) (role : Role) (a k : ℕ) → IsPlace p a → role ≢ Plain → is_beside p role a k ≡ true → Side p a role k
said p role a k there proper e =
    let parts = and_parts (is_arc (record_at p a).kind) (list_any (links role a k) p.list) e in
    let found = found_at (links role a k) p.list parts.1 in
    let link = link_said role a k (record_at p found.0) found.2 in
    record {
      link = found.0;
      there = found.1;
      is_link = link.0;
      has_role = link.1;
      not_plain = proper;
      arc_there = there;
      is_arc = arc_kind (record_at p a).kind parts.0;
      ends = link.2;
    }

-- what an arc has by a role is what the test finds
pub beside_some : (p : PlanData) → IsJoined p → (role : Role) (a k x : ℕ) → role ≢ Plain → Side p a role x → (x == k) ≡ is_beside p role a k
beside_some p joined role a k x proper s = go (x == k) refl
  where
    go : (b : Bool) → (x == k) ≡ b → (x == k) ≡ is_beside p role a k
    go true e = e ∙ sym (tested p role a k (subst (λ y. Side p a role y) (eqb-true x k e) s))
    go false e =
        e ∙ sym (false_from_ne_true (is_beside p role a k) (λ h. eqb-false x k e (one_side p joined a x k role s (said p role a k s.arc_there proper h))))

pub beside_none : (p : PlanData) (role : Role) (a k : ℕ) → IsPlace p a → role ≢ Plain → ((x : ℕ) → ¬ (Side p a role x)) → false ≡ is_beside p role a k
beside_none p role a k there proper none = sym (false_from_ne_true (is_beside p role a k) (λ h. none k (said p role a k there proper h)))
