-- What is kept from a plan to each plan that is the same: the sides of its arcs, the rules of topology, its joins.
use Rattle.std.proofs.Common.{◌≡◌, ◌≢◌, ℕ, suc, ◌+◌, ◌<◌, ◌≤◌, Bool, true, false, cond, List, [], ◌∷◌, ◌++◌, map, reverse, length, get_or, option_map, refl, sym, ap, ap₂, ◌∙◌, subst, arith, ◌⊎◌, inl, inr, IsPermutation, count_by, true≢false, eqb-true}
use mathlib.Core.List.{reverse-cons}
use Rattle.std.specs.List.{list_any, AllByRecursion}
use Rattle.std.proofs.lemmas.Bool.{cases_order, false_from_ne_true}
use Rattle.std.proofs.lemmas.List.{reverse-reverse, reverse-append}
use Rattle.std.proofs.lemmas.List.Elements.{recursion_from_All, All-from_recursion}
use Rattle.std.proofs.lemmas.List.Sorted.{All-permutation, length_permutation, IsPermutation-sym, IsPermutation-trans}
use Rattle.edi_line.specs.Refusal.{IsUnbroken}
use Rattle.edi_line.proofs.Truths.{or_false}
use Rattle.edi_record.specs.declared.record.Point.{Point}
use Rattle.edi_record.specs.declared.record.Kind.{Kind}
use Rattle.edi_record.specs.declared.record.Kind.TheVariants.{Pno, Par, Pfe}
use Rattle.edi_record.specs.Shapes.{may_have_ends}
use Rattle.edi_schema.specs.Classes.{Classes, role_of, partner_of}
use Rattle.edi_schema.specs.Roles.{is_plain, exchanged}
use Rattle.edi_schema.specs.declared.role.Role.{Role}
use Rattle.edi_schema.specs.declared.role.Role.TheVariants.{Initial, Final, Left, Right, Plain}
use Rattle.edi_plan.specs.Plans.{PlanData, IsPlace, record_at, is_arc, first_of, rest_of}
use Rattle.edi_plan.specs.Sides.{Side, targets}
use Rattle.edi_plan.specs.Whole.{IsWholePlan}
use Rattle.edi_plan.specs.Orders.{attribute_cmp}
use Rattle.edi_plan.proofs.Orders.{attribute_total, attribute_exact}
use Rattle.edi_topo.specs.NodeKeys.{no_point, node_key}
use Rattle.edi_plan.specs.declared.record.PlanEnd.{PlanEnd}
use Rattle.edi_topo.specs.TopologyRules.{BreaksTopologyRule, HasPoints, AreEqualNodes}
use Rattle.edi_topo.specs.TopologyRules.BreaksTopologyRule.{starts_elsewhere, ends_elsewhere, repeats_node, equals_reverse, repeats_arc, bounds_nothing}
use Rattle.edi_rank.specs.Same.{has_turned_arc, directed, moved, Carries, Same}
use Rattle.edi_rank.specs.Laws.{IsPlanUnder}
use Rattle.edi_plan.specs.Joined.{beside, HasEnds, JoinsArc, IsJoin, IsJoined}
use Rattle.edi_rank.proofs.SameLaws.{list_any-map, role_at, same_sym}
use Rattle.edi_schema.proofs.SortedLists.{count_by-cons, counts_from_permutation, sort_by-same}
use Rattle.edi_schema.proofs.RoleTests.{is_plain_not, not_plain}

-- roles

-- the role as an arc that is reversed has it
abbrev pub role_turned : Bool → Role → Role
role_turned t r = cond t (exchanged r) r

pub plain_turned : (t : Bool) (r : Role) → is_plain (role_turned t r) ≡ is_plain r
plain_turned false r = refl
plain_turned true Initial = refl
plain_turned true Final = refl
plain_turned true Left = refl
plain_turned true Right = refl
plain_turned true Plain = refl

pub plain_stays : (t : Bool) (r : Role) → is_plain r ≡ true → role_turned t r ≡ r
plain_stays false r e = refl
plain_stays true Initial e = absurd (true≢false (sym e))
plain_stays true Final e = absurd (true≢false (sym e))
plain_stays true Left e = absurd (true≢false (sym e))
plain_stays true Right e = absurd (true≢false (sym e))
plain_stays true Plain e = refl

beside_turned : (t : Bool) (r : Role) → beside (role_turned t r) ≡ beside r
beside_turned false r = refl
beside_turned true Initial = refl
beside_turned true Final = refl
beside_turned true Left = refl
beside_turned true Right = refl
beside_turned true Plain = refl

beside_no_arc : (r : Role) → is_arc (beside r) ≡ false
beside_no_arc Initial = refl
beside_no_arc Final = refl
beside_no_arc Left = refl
beside_no_arc Right = refl
beside_no_arc Plain = refl

-- two ends

one_left : {X : Type 0} (x : X) (ys : List X) → IsPermutation (x ∷ []) ys → ys ≡ x ∷ []
one_left x [] same = absurd (omega (arith, length_permutation _ _ same))
one_left x (y ∷ []) same = ap (λ z. z ∷ []) (recursion_from_All (λ z. z ≡ x) (y ∷ []) (All-permutation (λ z. z ≡ x) (x ∷ []) (y ∷ []) same (All-from_recursion (λ z. z ≡ x) (x ∷ []) (refl, tt)))).0
one_left x (y ∷ z ∷ ys) same = absurd (omega (arith, length_permutation _ _ same))

abbrev pub places_of : List PlanEnd → List ℕ
places_of xs = map (λ e. e.target) xs

two_ends : (to : ℕ → ℕ) (xs ys : List PlanEnd) (m n : ℕ) → places_of xs ≡ m ∷ n ∷ [] → first_of ys ≡ option_map (moved to) (first_of xs)
    → IsPermutation (map (moved to) (rest_of xs)) (rest_of ys) → places_of ys ≡ to m ∷ to n ∷ []
two_ends to [] ys m n e f h = cc
two_ends to (x ∷ []) ys m n e f h = cc
two_ends to (x ∷ w ∷ v ∷ xs) ys m n e f h = cc
two_ends to (x ∷ w ∷ []) [] m n e f h = cc
two_ends to (x ∷ w ∷ []) (y ∷ ys) m n e f h =
    let first : y ≡ moved to x = cc in
    let rest : ys ≡ moved to w ∷ [] = one_left (moved to w) ys h in
    let a : x.target ≡ m = cc in
    let b : w.target ≡ n = cc in
    rw (first, rest) (ap₂ (λ i j. to i ∷ to j ∷ []) a b)

both_there : (P : ℕ → Type 0) (xs : List PlanEnd) (m n : ℕ) → places_of xs ≡ m ∷ n ∷ [] → AllByRecursion (λ e. P e.target) xs → P m × P n
both_there P [] m n e all = cc
both_there P (x ∷ []) m n e all = cc
both_there P (x ∷ w ∷ v ∷ xs) m n e all = cc
both_there P (x ∷ w ∷ []) m n e all =
    let a : x.target ≡ m = cc in
    let b : w.target ≡ n = cc in
    (subst P a all.0, subst P b all.1.0)

two_pass : {X : Type 0} (t : X → Bool) (x w : X) → t x ≡ true → t w ≡ true → count_by t (x ∷ w ∷ []) ≤ 1 → ⊥
two_pass t x w a b one =
    let first : count_by t (x ∷ w ∷ []) ≡ 1 + count_by t (w ∷ []) = count_by-cons t x (w ∷ []) ∙ ap (λ k. cond k 1 0 + count_by t (w ∷ [])) a in
    let second : count_by t (w ∷ []) ≡ 1 + count_by t [] = count_by-cons t w [] ∙ ap (λ k. cond k 1 0 + count_by t []) b in
    absurd (omega (arith, one, first, second))

both_count : (t : ℕ → Bool) (xs : List PlanEnd) (m n : ℕ) → places_of xs ≡ m ∷ n ∷ [] → t m ≡ true → t n ≡ true → count_by (λ e. t e.target) xs ≤ 1 → ⊥
both_count t [] m n e f g one = cc
both_count t (x ∷ []) m n e f g one = cc
both_count t (x ∷ w ∷ v ∷ xs) m n e f g one = cc
both_count t (x ∷ w ∷ []) m n e f g one =
    let a : t x.target ≡ true = cc in
    let b : t w.target ≡ true = cc in
    two_pass (λ (y : PlanEnd). t y.target) x w a b one

-- lists of points

related_turned : (t u : Bool) (a b : List Point) → (b ≡ a) ⊎ (b ≡ reverse a) → (directed u b ≡ directed t a) ⊎ (directed u b ≡ reverse (directed t a))
related_turned false false a b h = h
related_turned true true a b (inl e) = inl (ap reverse e)
related_turned true true a b (inr e) = inr (ap reverse e)
related_turned true false a b (inl e) = inr (e ∙ sym (reverse-reverse a))
related_turned true false a b (inr e) = inl e
related_turned false true a b (inl e) = inr (ap reverse e)
related_turned false true a b (inr e) = inl (ap reverse e ∙ reverse-reverse a)

related_back : (a b : List Point) → (b ≡ a) ⊎ (b ≡ reverse a) → (a ≡ b) ⊎ (a ≡ reverse b)
related_back a b (inl e) = inl (sym e)
related_back a b (inr e) = inr (sym (ap reverse e ∙ reverse-reverse a))

palindrome_turned : (t : Bool) (a : List Point) → a ≡ reverse a → directed t a ≡ reverse (directed t a)
palindrome_turned false a e = e
palindrome_turned true a e = ap reverse e

-- some rule is broken somewhere
abbrev pub Broken : PlanData → Type 0
Broken p = (rule at : ℕ) × BreaksTopologyRule p rule at

module _ (s : Classes) (p q : PlanData) (whole : IsWholePlan p) (to : ℕ → ℕ) (turned : ℕ → Bool) (c : Carries s to turned p q) where
  straight : (i : ℕ) → IsPlace p i → (kind : Kind) → (record_at p i).kind ≡ kind → is_arc kind ≡ false → turned i ≡ false
  straight i h kind is plain = false_from_ne_true (turned i) (λ t. true≢false (ap is_arc (sym (c.arcs i h t)) ∙ (ap is_arc is ∙ plain)))

  -- a node has no ends, so its class stays
  node_class : (i : ℕ) → IsPlace p i → (record_at p i).kind ≡ Pno → (record_at q (to i)).class ≡ (record_at p i).class
  node_class i h is = (c.each i h).class ∙ go (record_at p i).role (record_at p i).ends (subst (λ k. may_have_ends k (length (record_at p i).ends) ≡ true) is (whole.ends i h))
    where
      go : (role : Role) (xs : List PlanEnd) → may_have_ends Pno (length xs) ≡ true
          → cond (is_plain role) (record_at p i).class (cond (list_any (λ (x : PlanEnd). turned x.target) xs) (partner_of s (record_at p i).class) (record_at p i).class) ≡ (record_at p i).class
      go role [] none = elim (is_plain role) as (λ b. cond b (record_at p i).class (record_at p i).class ≡ (record_at p i).class) [ true ↦ refl | false ↦ refl ]
      go role (x ∷ xs) none = let e : suc (length xs) ≡ 0 = eqb-true _ _ none in absurd (omega (arith, e))

  node_points : (i : ℕ) → IsPlace p i → (record_at p i).kind ≡ Pno → (record_at q (to i)).points ≡ (record_at p i).points
  node_points i h is = (c.each i h).points ∙ ap (λ t. directed t (record_at p i).points) (straight i h Pno is refl)

  pub node_key_preserved : (i : ℕ) → IsPlace p i → (record_at p i).kind ≡ Pno → node_key (record_at q (to i)) ≡ node_key (record_at p i)
  node_key_preserved i h is =
      let k = c.each i h in
      let points = node_points i h is in
      let class = node_class i h is in
      let attributes = sym (sort_by-same attribute_cmp attribute_total attribute_exact (record_at p i).attributes (record_at q (to i)).attributes (counts_from_permutation _ _ k.attributes)) in
      λ j. record { point = get_or (points j) 0 no_point; class = class j; attributes = attributes j; extras = k.extras j }

module _ (s : Classes) (p q : PlanData) (under : IsPlanUnder s p) (under' : IsPlanUnder s q) (to : ℕ → ℕ) (turned : ℕ → Bool) (c : Carries s to turned p q) where
  kind_kept : (i : ℕ) → IsPlace p i → (record_at q (to i)).kind ≡ (record_at p i).kind
  kind_kept i h = (c.each i h).kind

  -- a role is exchanged with an arc that is reversed
  pub role_carried : (i : ℕ) → IsPlace p i → (record_at q (to i)).role ≡ role_turned (has_turned_arc turned (record_at p i)) (record_at p i).role
  role_carried i h = role_at s q under' (to i) (c.places.within i h)
      ∙ (ap (role_of s) (c.each i h).class ∙ (go (is_plain (record_at p i).role) (has_turned_arc turned (record_at p i)) refl ∙ ap (role_turned (has_turned_arc turned (record_at p i))) (sym role)))
    where
      role : (record_at p i).role ≡ role_of s (record_at p i).class
      role = role_at s p under i h

      go : (b t : Bool) → is_plain (record_at p i).role ≡ b
          → role_of s (cond b (record_at p i).class (cond t (partner_of s (record_at p i).class) (record_at p i).class)) ≡ role_turned t (role_of s (record_at p i).class)
      go true t e = sym (plain_stays t (role_of s (record_at p i).class) (ap is_plain (sym role) ∙ e))
      go false true e = under.paired.exchanges (record_at p i).class (ap is_plain (sym role) ∙ e)
      go false false e = refl

  ends_there : (k a x : ℕ) → IsPlace p k → HasEnds p k a x → IsPlace p a × IsPlace p x
  ends_there k a x h (inl e) = both_there (IsPlace p) (record_at p k).ends a x e (under.whole.there k h)
  ends_there k a x h (inr e) =
      let both = both_there (IsPlace p) (record_at p k).ends x a e (under.whole.there k h) in
      (both.1, both.0)

  ends_kept : (k a x : ℕ) → IsPlace p k → HasEnds p k a x → HasEnds q (to k) (to a) (to x)
  ends_kept k a x h (inl e) = inl (two_ends to (record_at p k).ends (record_at q (to k)).ends a x e (c.each k h).origin (c.each k h).others)
  ends_kept k a x h (inr e) = inr (two_ends to (record_at p k).ends (record_at q (to k)).ends x a e (c.each k h).origin (c.each k h).others)

  module _ (k a x : ℕ) (join : IsJoin p k) (arc : (record_at p a).kind ≡ Par) (ends : HasEnds p k a x) where
    other_straight : turned x ≡ false
    other_straight = false_from_ne_true (turned x) (λ t. go (ap is_arc (c.arcs x (ends_there k a x join.there ends).1 t)) ends)
      where
        go : is_arc (record_at p x).kind ≡ true → HasEnds p k a x → ⊥
        go is (inl e) = both_count (λ i. is_arc (record_at p i).kind) (record_at p k).ends a x e (ap is_arc arc) is (under.whole.one_arc k join.there join.not_plain)
        go is (inr e) = both_count (λ i. is_arc (record_at p i).kind) (record_at p k).ends x a e is (ap is_arc arc) (under.whole.one_arc k join.there join.not_plain)

    known_by_arc : has_turned_arc turned (record_at p k) ≡ turned a
    known_by_arc = sym (list_any-map turned (λ e. e.target) (record_at p k).ends) ∙ go ends
      where
        go : HasEnds p k a x → list_any turned (targets (record_at p k)) ≡ turned a
        go (inl e) = rw (e, other_straight) (or_false (turned a))
        go (inr e) = rw (e, other_straight) (or_false (turned a))

    pub role_kept : (record_at q (to k)).role ≡ role_turned (turned a) (record_at p k).role
    role_kept = role_carried k join.there ∙ ap (λ t. role_turned t (record_at p k).role) known_by_arc

    pub join_kept : IsJoin q (to k)
    join_kept = record {
      there = c.places.within k join.there;
      is_link = kind_kept k join.there ∙ join.is_link;
      not_plain = ap is_plain role_kept ∙ (plain_turned (turned a) (record_at p k).role ∙ join.not_plain);
    }

  -- the arc has the other by its role, exchanged where the arc is reversed
  pub side_kept : (a x : ℕ) (role : Role) → Side p a role x → Side q (to a) (role_turned (turned a) role) (to x)
  side_kept a x role d = record {
    link = to d.link;
    there = c.places.within d.link d.there;
    is_link = kind_kept d.link d.there ∙ d.is_link;
    has_role = role_kept d.link a x join d.is_arc d.ends ∙ ap (role_turned (turned a)) d.has_role;
    not_plain = not_plain (role_turned (turned a) role) (plain_turned (turned a) role ∙ is_plain_not role d.not_plain);
    arc_there = c.places.within a d.arc_there;
    is_arc = kind_kept a d.arc_there ∙ d.is_arc;
    ends = ends_kept d.link a x d.there d.ends;
  }
    where
      join : IsJoin p d.link
      join = record { there = d.there; is_link = d.is_link; not_plain = ap is_plain d.has_role ∙ is_plain_not role d.not_plain }

  pub points_kept : (kind : Kind) (i : ℕ) (points : List Point) → HasPoints p kind i points → HasPoints q kind (to i) (directed (turned i) points)
  points_kept kind i points h = (c.places.within i h.0, kind_kept i h.0 ∙ h.1, (c.each i h.0).points ∙ ap (directed (turned i)) h.2)

  straight_kept : (kind : Kind) (i : ℕ) (points : List Point) → is_arc kind ≡ false → HasPoints p kind i points → HasPoints q kind (to i) points
  straight_kept kind i points plain h = subst (λ t. HasPoints q kind (to i) (directed t points)) (straight s p q under.whole to turned c i h.0 kind h.1 plain) (points_kept kind i points h)

  -- the rules that say what is there go forth

  starts_kept : (a n : ℕ) (first place : Point) (others : List Point) → HasPoints p Par a (first ∷ others) → Side p a Initial n → HasPoints p Pno n (place ∷ []) → place ≢ first → Broken q
  starts_kept a n first place others arc side node ne = go (turned a) (points_kept Par a (first ∷ others) arc) (side_kept a n Initial side)
    where
      there : HasPoints q Pno (to n) (place ∷ [])
      there = straight_kept Pno n (place ∷ []) refl node

      go : (t : Bool) → HasPoints q Par (to a) (directed t (first ∷ others)) → Side q (to a) (role_turned t Initial) (to n) → Broken q
      go false points d = (401, suc (to a), starts_elsewhere refl (to a, to n, first, place, others, refl, points, d, there, ne))
      go true points d = (402, suc (to a), ends_elsewhere refl (to a, to n, first, place, reverse others, refl, subst (HasPoints q Par (to a)) (reverse-cons first others) points, d, there, ne))

  ends_elsewhere_kept : (a n : ℕ) (last place : Point) (others : List Point) → HasPoints p Par a (others ++ last ∷ []) → Side p a Final n → HasPoints p Pno n (place ∷ []) → place ≢ last → Broken q
  ends_elsewhere_kept a n last place others arc side node ne = go (turned a) (points_kept Par a (others ++ last ∷ []) arc) (side_kept a n Final side)
    where
      there : HasPoints q Pno (to n) (place ∷ [])
      there = straight_kept Pno n (place ∷ []) refl node

      go : (t : Bool) → HasPoints q Par (to a) (directed t (others ++ last ∷ [])) → Side q (to a) (role_turned t Final) (to n) → Broken q
      go false points d = (402, suc (to a), ends_elsewhere refl (to a, to n, last, place, others, refl, points, d, there, ne))
      go true points d = (401, suc (to a), starts_elsewhere refl (to a, to n, last, place, reverse others, refl, subst (HasPoints q Par (to a)) (reverse-append others (last ∷ [])) points, d, there, ne))

  equal_preserved : (m n : ℕ) → AreEqualNodes p m n → AreEqualNodes q (to m) (to n)
  equal_preserved m n d = record {
    first = c.places.within m d.first;
    second = c.places.within n d.second;
    first_node = kind_kept m d.first ∙ d.first_node;
    second_node = kind_kept n d.second ∙ d.second_node;
    points = points m d.first d.first_node ∙ (d.points ∙ sym (points n d.second d.second_node));
    class = class m d.first d.first_node ∙ (d.class ∙ sym (class n d.second d.second_node));
    attributes = IsPermutation-trans _ _ _ (IsPermutation-sym _ _ (c.each m d.first).attributes) (IsPermutation-trans _ _ _ d.attributes (c.each n d.second).attributes);
    extras = (c.each m d.first).extras ∙ (d.extras ∙ sym (c.each n d.second).extras);
  }
    where
      points : (i : ℕ) → IsPlace p i → (record_at p i).kind ≡ Pno → (record_at q (to i)).points ≡ (record_at p i).points
      points = node_points s p q under.whole to turned c

      class : (i : ℕ) → IsPlace p i → (record_at p i).kind ≡ Pno → (record_at q (to i)).class ≡ (record_at p i).class
      class = node_class s p q under.whole to turned c

  equal_back : (m n : ℕ) → AreEqualNodes q m n → AreEqualNodes q n m
  equal_back m n d = record { first = d.second; second = d.first; first_node = d.second_node; second_node = d.first_node; points = sym d.points; class = sym d.class; attributes = IsPermutation-sym _ _ d.attributes; extras = sym d.extras }

  repeats_node_kept : (m n : ℕ) → m < n → AreEqualNodes p m n → Broken q
  repeats_node_kept m n less d = go (cases_order (to m) (to n)) (equal_preserved m n d)
    where
      go : (to m ≡ to n) ⊎ ((to m < to n) ⊎ (to n < to m)) → AreEqualNodes q (to m) (to n) → Broken q
      go (inl e) f = absurd (omega (arith, less, c.places.apart m n d.first d.second e))
      go (inr (inl l)) f = (403, suc (to n), repeats_node refl (to m, to n, refl, l, f))
      go (inr (inr l)) f = (403, suc (to m), repeats_node refl (to n, to m, refl, l, equal_back (to m) (to n) f))

  equals_kept : (a : ℕ) (points : List Point) → HasPoints p Par a points → points ≡ reverse points → Broken q
  equals_kept a points arc e = (404, suc (to a), equals_reverse refl (to a, directed (turned a) points, refl, points_kept Par a points arc, palindrome_turned (turned a) points e))

  repeats_kept : (a b : ℕ) (earlier points : List Point) → a < b → HasPoints p Par a earlier → HasPoints p Par b points → (points ≡ earlier) ⊎ (points ≡ reverse earlier) → Broken q
  repeats_kept a b earlier points less first second same =
      go (cases_order (to a) (to b)) (points_kept Par a earlier first) (points_kept Par b points second) (related_turned (turned a) (turned b) earlier points same)
    where
      go : (to a ≡ to b) ⊎ ((to a < to b) ⊎ (to b < to a)) → HasPoints q Par (to a) (directed (turned a) earlier) → HasPoints q Par (to b) (directed (turned b) points)
          → (directed (turned b) points ≡ directed (turned a) earlier) ⊎ (directed (turned b) points ≡ reverse (directed (turned a) earlier)) → Broken q
      go (inl e) f g h = absurd (omega (arith, less, c.places.apart a b first.0 second.0 e))
      go (inr (inl d)) f g h = (405, suc (to b), repeats_arc refl (to a, to b, directed (turned a) earlier, directed (turned b) points, refl, d, f, g, h))
      go (inr (inr d)) f g h = (405, suc (to a), repeats_arc refl (to b, to a, directed (turned b) points, directed (turned a) earlier, refl, d, g, f, related_back _ _ h))

  -- the rule that says what isn't there goes back

  unbounded_before : (y : ℕ) (points : List Point) → HasPoints q Pfe y points → ((b : ℕ) → ¬ (Side q b Left y ⊎ Side q b Right y)) → Broken p
  unbounded_before y points face free = go (c.places.onto y face.0).0 (c.places.onto y face.0).1 (c.places.onto y face.0).2
    where
      go : (x : ℕ) → IsPlace p x → to x ≡ y → Broken p
      go x h e = (406, suc x, bounds_nothing refl (x, (record_at p x).points, refl, (h, sym (kind_kept x h) ∙ (ap (λ j. (record_at q j).kind) e ∙ face.1), refl), none))
        where
          left : (a : ℕ) (t : Bool) → Side q (to a) (role_turned t Left) (to x) → ⊥
          left a false d = free (to a) (inl (subst (Side q (to a) Left) e d))
          left a true d = free (to a) (inr (subst (Side q (to a) Right) e d))

          right : (a : ℕ) (t : Bool) → Side q (to a) (role_turned t Right) (to x) → ⊥
          right a false d = free (to a) (inr (subst (Side q (to a) Right) e d))
          right a true d = free (to a) (inl (subst (Side q (to a) Left) e d))

          none : (a : ℕ) → ¬ (Side p a Left x ⊎ Side p a Right x)
          none a (inl d) = left a (turned a) (side_kept a x Left d)
          none a (inr d) = right a (turned a) (side_kept a x Right d)

  -- the joins

  plain_kept : (i : ℕ) → IsPlace p i → is_plain (record_at q (to i)).role ≡ is_plain (record_at p i).role
  plain_kept i h = ap is_plain (role_carried i h) ∙ plain_turned (has_turned_arc turned (record_at p i)) (record_at p i).role

  joins_on : IsJoined p → (k : ℕ) → IsJoin q k → JoinsArc q k
  joins_on joined k join = go (c.places.onto k join.there).0 (c.places.onto k join.there).1 (c.places.onto k join.there).2
    where
      go : (i : ℕ) → IsPlace p i → to i ≡ k → JoinsArc q k
      go i h e = subst (JoinsArc q) e (record {
        arc = to d.arc;
        other = to d.other;
        ends = ends_kept i d.arc d.other h d.ends;
        is_arc = kind_kept d.arc (ends_there i d.arc d.other h d.ends).0 ∙ d.is_arc;
        is_beside = kind_kept d.other (ends_there i d.arc d.other h d.ends).1 ∙ (d.is_beside
            ∙ sym (ap beside (role_kept i d.arc d.other before d.is_arc d.ends) ∙ beside_turned (turned d.arc) (record_at p i).role));
      })
        where
          before : IsJoin p i
          before = record {
            there = h;
            is_link = sym (kind_kept i h) ∙ (ap (λ j. (record_at q j).kind) e ∙ join.is_link);
            not_plain = sym (plain_kept i h) ∙ (ap (λ j. is_plain (record_at q j).role) e ∙ join.not_plain);
          }

          d : JoinsArc p i
          d = joined.joins i before

  one_side_before : IsJoined q → (j k a x y : ℕ) → IsJoin p j → IsJoin p k → (record_at p j).role ≡ (record_at p k).role → (record_at p a).kind ≡ Par
      → HasEnds p j a x → HasEnds p k a y → j ≡ k
  one_side_before joined j k a x y first second same arc ends ends' = c.places.apart j k first.there second.there
      (joined.one_side (to j) (to k) (to a) (to x) (to y) (join_kept j a x first arc ends) (join_kept k a y second arc ends')
      (role_kept j a x first arc ends ∙ (ap (role_turned (turned a)) same ∙ sym (role_kept k a y second arc ends')))
      (kind_kept a (ends_there j a x first.there ends).0 ∙ arc)
      (ends_kept j a x first.there ends) (ends_kept k a y second.there ends'))

-- what q breaks, p breaks

pub broken_before : (s : Classes) (p q : PlanData) → IsPlanUnder s p → IsPlanUnder s q → Same s p q → Same s q p → (rule at : ℕ) → BreaksTopologyRule q rule at → Broken p
broken_before s p q under under' forth back rule at (starts_elsewhere e h) = starts_kept s q p under' under back.0 back.1 back.2 h.0 h.1 h.2 h.3 h.4 h.6 h.7 h.8 h.9
broken_before s p q under under' forth back rule at (ends_elsewhere e h) = ends_elsewhere_kept s q p under' under back.0 back.1 back.2 h.0 h.1 h.2 h.3 h.4 h.6 h.7 h.8 h.9
broken_before s p q under under' forth back rule at (repeats_node e h) = repeats_node_kept s q p under' under back.0 back.1 back.2 h.0 h.1 h.3 h.4
broken_before s p q under under' forth back rule at (equals_reverse e h) = equals_kept s q p under' under back.0 back.1 back.2 h.0 h.1 h.3 h.4
broken_before s p q under under' forth back rule at (repeats_arc e h) = repeats_kept s q p under' under back.0 back.1 back.2 h.0 h.1 h.2 h.3 h.5 h.6 h.7 h.8
broken_before s p q under under' forth back rule at (bounds_nothing e h) = unbounded_before s p q under under' forth.0 forth.1 forth.2 h.0 h.1 h.3 h.4

pub topology_preserved : (s : Classes) (p q : PlanData) → IsPlanUnder s p → IsPlanUnder s q → Same s p q → IsUnbroken (BreaksTopologyRule p) → IsUnbroken (BreaksTopologyRule q)
topology_preserved s p q under under' same unbroken rule at broken =
    let before = broken_before s p q under under' same (same_sym s p q under under' same) rule at broken in
    unbroken before.0 before.1 before.2

pub joins_kept : (s : Classes) (p q : PlanData) → IsPlanUnder s p → IsPlanUnder s q → Same s p q → IsJoined p → IsJoined q
joins_kept s p q under under' same joined = record {
  joins = joins_on s p q under under' same.0 same.1 same.2 joined;
  one_side = let back = same_sym s p q under under' same in one_side_before s q p under' under back.0 back.1 back.2 joined;
}
