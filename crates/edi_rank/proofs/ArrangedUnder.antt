-- The plan that labels make of a plan is whole, agrees with the schema, and is of nodes alone, where the plan is.
use Rattle.std.proofs.Common.{◌≡◌, ℕ, zero, suc, ◌<◌, ◌≤◌, Bool, true, false, cond, true≢false, List, map, length, Some, None, unwrap_or, refl, sym, ap, ◌∙◌, subst, arith, IsPermutation, count_by, nat_lt}
use Rattle.std.specs.List.{AllByRecursion, position_or_len}
use Rattle.std.proofs.lemmas.Bool.{ltb-true}
use Rattle.std.proofs.lemmas.List.{length-map, length-reverse}
use Rattle.std.proofs.lemmas.List.Sorted.{length_permutation, IsPermutation-sym}
use Rattle.edi_line.proofs.EachElement.{each_in_any_order, each_mapped, each_weaker, each_from_places}
use Rattle.edi_record.specs.Shapes.{may_have_points, may_have_ends}
use Rattle.edi_record.specs.declared.record.Point.{Point}
use Rattle.edi_schema.specs.Classes.{Classes, IsPaired, role_of, partner_of, has_role}
use Rattle.edi_schema.specs.Roles.{is_plain, exchanged}
use Rattle.edi_schema.specs.declared.role.Role.{Role}
use Rattle.edi_schema.specs.declared.role.Role.TheVariants.{Initial, Final, Left, Right, Plain}
use Rattle.edi_schema.proofs.SortedLists.{IsPermutation-sort_by, counts_from_permutation}
use Rattle.edi_plan.specs.Agreeing.{AttributeAgrees, RecordAgrees, Agrees}
use Rattle.edi_plan.specs.Orders.{attribute_cmp}
use Rattle.edi_record.specs.Records.{is_link}
use Rattle.edi_schema.proofs.RoleTests.{still_plain}
use Rattle.edi_plan.specs.Plans.{PlanData, IsPlace, record_at, blank, is_arc}
use Rattle.edi_plan.specs.Whole.{IsWholePlan}
use Rattle.edi_plan.specs.declared.record.PlanRecord.{PlanRecord}
use Rattle.edi_plan.specs.declared.record.PlanEnd.{PlanEnd}
use Rattle.edi_plan.proofs.Orders.{attribute_total}
use Rattle.edi_topo.specs.Ranking.{sum_below}
use Rattle.edi_rank.specs.Arranged.{new_place, arranged_record, arranged}
use Rattle.edi_rank.specs.Labelling.{Labelling, AreLabels, turned_at}
use Rattle.edi_rank.specs.Laws.{IsPlanUnder}
use Rattle.edi_rank.specs.Same.{OneToOne, moved, has_turned_arc, class_after, directed, Carries}
use Rattle.edi_rank.specs.Turned.{role_after}
use Rattle.edi_rank.proofs.Arranging.{carries_arranged, From, came_from, new_places}
use Rattle.edi_rank.proofs.KeysPreserved.{two_hold, count_by-map, counted_equal}
use Rattle.edi_rank.proofs.SameLaws.{ends_moved, record_agrees}
use Rattle.edi_rank.proofs.Sums.{sum_below-renamed}

-- lists

pub directed_long : (t : Bool) (points : List Point) → length (directed t points) ≡ length points
directed_long true points = length-reverse points
directed_long false points = refl

-- as many places on the one side as on the other
pub one_to_one_long : (to : ℕ → ℕ) (n m : ℕ) → OneToOne to n m → m ≡ n
one_to_one_long to n m places = sym (ones m) ∙ (sym (sum_below-renamed to n m places (λ _. 1) (λ _. 1) (λ i h. refl)) ∙ ones n)
  where
    ones : (n : ℕ) → sum_below n (λ _. 1) ≡ n
    ones zero = refl
    ones (suc n) = omega (arith, ones n)

-- classes and roles

partner_within : (s : Classes) (class : ℕ) → class < length s → partner_of s class < length s
partner_within s class h = go (is_plain (role_of s class)) (nat_lt place (length s)) refl
  where
    place : ℕ
    place = position_or_len (has_role (exchanged (role_of s class))) s

    go : (a b : Bool) → nat_lt place (length s) ≡ b → unwrap_or (cond a None (cond b (Some place) None)) class < length s
    go true b e = h
    go false true e = ltb-true _ _ e
    go false false e = h

plain_itself : (r : Role) → is_plain r ≡ true → exchanged r ≡ r
plain_itself Initial h = absurd (true≢false (sym h))
plain_itself Final h = absurd (true≢false (sym h))
plain_itself Left h = absurd (true≢false (sym h))
plain_itself Right h = absurd (true≢false (sym h))
plain_itself Plain h = refl

pub plain_after : (turned : ℕ → Bool) (r : PlanRecord) → is_plain (role_after turned r) ≡ is_plain r.role
plain_after turned r = go (has_turned_arc turned r)
  where
    go : (t : Bool) → is_plain (cond t (exchanged r.role) r.role) ≡ is_plain r.role
    go true = still_plain r.role
    go false = refl

class_within : (s : Classes) (turned : ℕ → Bool) (r : PlanRecord) → r.class < length s → class_after (partner_of s) turned r < length s
class_within s turned r h = go (is_plain r.role) (has_turned_arc turned r)
  where
    go : (a t : Bool) → cond a r.class (cond t (partner_of s r.class) r.class) < length s
    go true t = h
    go false true = partner_within s r.class h
    go false false = h

role_agrees : (s : Classes) → IsPaired s → (turned : ℕ → Bool) (r : PlanRecord) → r.role ≡ role_of s r.class → role_after turned r ≡ role_of s (class_after (partner_of s) turned r)
role_agrees s paired turned r is = go (is_plain r.role) (has_turned_arc turned r) refl
  where
    go : (a t : Bool) → is_plain r.role ≡ a → cond t (exchanged r.role) r.role ≡ role_of s (cond a r.class (cond t (partner_of s r.class) r.class))
    go true true e = plain_itself r.role e ∙ is
    go true false e = is
    go false true e = ap exchanged is ∙ sym (paired.exchanges r.class (ap is_plain (sym is) ∙ e))
    go false false e = is

module _ (s : Classes) (p : PlanData) (l : Labelling) (labels : AreLabels s p l) where
  c : Carries s (new_place l p) (turned_at l.turned) p (arranged s l p)
  c = carries_arranged s p l labels

  -- as many records
  pub arranged_long : length (arranged s l p).list ≡ length p.list
  arranged_long = one_to_one_long (new_place l p) _ _ (new_places s p l labels)

  from : (j : ℕ) → IsPlace (arranged s l p) j → From s p l labels j
  from j h = came_from s p l labels j h

  -- what holds of what is made of each record holds at each place
  at_each : (P : PlanRecord → Type 0) → ((k : ℕ) → IsPlace p k → P (arranged_record s l p k)) → (j : ℕ) → IsPlace (arranged s l p) j → P (record_at (arranged s l p) j)
  at_each P each j h = let w = from j h in subst P (sym w.made) (each w.old w.there)

  pub agrees_arranged : IsPaired s → Agrees s p → Agrees s (arranged s l p)
  agrees_arranged paired agrees = each_from_places (RecordAgrees s) (arranged s l p).list blank (at_each (RecordAgrees s) each)
    where
      each : (k : ℕ) → IsPlace p k → RecordAgrees s (arranged_record s l p k)
      each k h =
          let r = record_agrees s p.list agrees k h in
          record {
            known = class_within s (turned_at l.turned) (record_at p k) r.known;
            role = role_agrees s paired (turned_at l.turned) (record_at p k) r.role;
            attributes = each_in_any_order (AttributeAgrees s) (record_at p k).attributes _ (IsPermutation-sym _ _ (IsPermutation-sort_by attribute_cmp attribute_total (record_at p k).attributes)) r.attributes;
          }

  module _ (whole : IsWholePlan p) where
    moved_ends : (k : ℕ) → IsPlace p k → IsPermutation (map (moved (new_place l p)) (record_at p k).ends) (record_at (arranged s l p) (new_place l p k)).ends
    moved_ends k h = ends_moved s (new_place l p) (turned_at l.turned) k (record_at p k) (record_at (arranged s l p) (new_place l p k)) (c.each k h)

    -- what holds of each end that is there, once it is renamed, holds of the ends of the arranged record
    ends_hold : (P : PlanEnd → Type 0) (k : ℕ) → IsPlace p k → AllByRecursion (λ e. P (moved (new_place l p) e)) (record_at p k).ends
        → AllByRecursion P (record_at (arranged s l p) (new_place l p k)).ends
    ends_hold P k h all = each_in_any_order P _ _ (moved_ends k h) (each_mapped P (moved (new_place l p)) (record_at p k).ends all)

    -- a place is the new place of an old one
    at_new : (P : ℕ → Type 0) → ((k : ℕ) → IsPlace p k → P (new_place l p k)) → (j : ℕ) → IsPlace (arranged s l p) j → P j
    at_new P each j h = let w = from j h in subst P w.is (each w.old w.there)

    kind_kept : (t : ℕ) → IsPlace p t → (record_at (arranged s l p) (new_place l p t)).kind ≡ (record_at p t).kind
    kind_kept t h = (c.each t h).kind

    pub whole_arranged : IsWholePlan (arranged s l p)
    whole_arranged = record {
      few = omega (arith, arranged_long, whole.few);
      there = at_new (λ j. AllByRecursion (λ e. IsPlace (arranged s l p) e.target) (record_at (arranged s l p) j).ends) there;
      no_link = at_new (λ j. AllByRecursion (λ e. is_link (record_at (arranged s l p) e.target).kind ≡ false) (record_at (arranged s l p) j).ends) no_link;
      points = at_each (λ r. may_have_points r.kind (length r.points) ≡ true)
          (λ k h. ap (may_have_points (record_at p k).kind) (directed_long (turned_at l.turned k) (record_at p k).points) ∙ whole.points k h);
      ends = at_new (λ j. may_have_ends (record_at (arranged s l p) j).kind (length (record_at (arranged s l p) j).ends) ≡ true) ends;
      one_arc = at_new (λ j. is_plain (record_at (arranged s l p) j).role ≡ false → count_by (λ e. is_arc (record_at (arranged s l p) e.target).kind) (record_at (arranged s l p) j).ends ≤ 1) one_arc;
    }
      where
        there : (k : ℕ) → IsPlace p k → AllByRecursion (λ e. IsPlace (arranged s l p) e.target) (record_at (arranged s l p) (new_place l p k)).ends
        there k h = ends_hold (λ e. IsPlace (arranged s l p) e.target) k h
            (each_weaker (λ e. IsPlace p e.target) (λ e. IsPlace (arranged s l p) (new_place l p e.target)) (λ e t. c.places.within e.target t) (record_at p k).ends (whole.there k h))

        no_link : (k : ℕ) → IsPlace p k → AllByRecursion (λ e. is_link (record_at (arranged s l p) e.target).kind ≡ false) (record_at (arranged s l p) (new_place l p k)).ends
        no_link k h = ends_hold (λ e. is_link (record_at (arranged s l p) e.target).kind ≡ false) k h
            (each_weaker (λ e. IsPlace p e.target × (is_link (record_at p e.target).kind ≡ false)) (λ e. is_link (record_at (arranged s l p) (new_place l p e.target)).kind ≡ false)
            (λ e t. ap is_link (kind_kept e.target t.0) ∙ t.1) (record_at p k).ends (two_hold _ _ _ (whole.there k h) (whole.no_link k h)))

        ends : (k : ℕ) → IsPlace p k → may_have_ends (record_at (arranged s l p) (new_place l p k)).kind (length (record_at (arranged s l p) (new_place l p k)).ends) ≡ true
        ends k h = ap (λ kind. may_have_ends kind (length (record_at (arranged s l p) (new_place l p k)).ends)) (kind_kept k h)
            ∙ (ap (may_have_ends (record_at p k).kind) (length_permutation _ _ (moved_ends k h) ∙ length-map (record_at p k).ends (moved (new_place l p))) ∙ whole.ends k h)

        one_arc : (k : ℕ) → IsPlace p k → is_plain (record_at (arranged s l p) (new_place l p k)).role ≡ false
            → count_by (λ e. is_arc (record_at (arranged s l p) e.target).kind) (record_at (arranged s l p) (new_place l p k)).ends ≤ 1
        one_arc k h kind =
            let before : is_plain (record_at p k).role ≡ false = sym (plain_after (turned_at l.turned) (record_at p k))
            ∙ (ap (λ (r : PlanRecord). is_plain r.role) (sym (Rattle.edi_rank.proofs.Arranging.record_placed s p l labels k h)) ∙ kind) in
            let counts = sym (counts_from_permutation _ _ (moved_ends k h) (λ (e : PlanEnd). is_arc (record_at (arranged s l p) e.target).kind)) in
            let mapped = count_by-map (λ (e : PlanEnd). is_arc (record_at (arranged s l p) e.target).kind) (moved (new_place l p)) (record_at p k).ends in
            let alike = counted_equal (λ (e : PlanEnd). IsPlace p e.target) (λ e. is_arc (record_at (arranged s l p) (new_place l p e.target)).kind) (λ e. is_arc (record_at p e.target).kind)
            (λ e t. ap is_arc (kind_kept e.target t)) (record_at p k).ends (whole.there k h) in
            subst (λ n. n ≤ 1) (sym (counts ∙ (mapped ∙ alike))) (whole.one_arc k h before)

pub under_arranged : (s : Classes) (p : PlanData) (l : Labelling) → IsPlanUnder s p → AreLabels s p l → IsPlanUnder s (arranged s l p)
under_arranged s p l under labels = record { paired = under.paired; whole = whole_arranged s p l labels under.whole; agrees = agrees_arranged s p l labels under.paired under.agrees }
