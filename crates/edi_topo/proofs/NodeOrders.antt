-- The order of nodes is total, and nodes tie exactly where they are equal.
use Rattle.std.proofs.Common.{◌≡◌, ℕ, suc, true, true≢false, List, [], ◌∷◌, length, get_or, refl, sym, ap, ◌∙◌, subst, arith, nat_cmp, IsPermutation, Equal, eqb-true}
use Rattle.std.specs.Cmp.{IsTotalOrder}
use Rattle.std.specs.Cmp.Lexicographic.{slice_cmp}
use Rattle.std.specs.Ordering.{ordering_then}
use Rattle.std.proofs.lemmas.Cmp.{then_total, on_total, lists_total, nat_cmp_total, tied_itself}
use Rattle.std.proofs.lemmas.Map.Lookups.{CmpEqualImpliesEq, exact_unsigned}
use Rattle.std.proofs.lemmas.List.Sorted.{IsPermutation-sym, IsPermutation-trans}
use Rattle.edi_line.proofs.Truths.{first_tied, then_tied}
use Rattle.edi_record.specs.Orders.{point_cmp, extra_cmp}
use Rattle.edi_record.specs.Shapes.{may_have_points}
use Rattle.edi_record.specs.declared.record.Point.{Point}
use Rattle.edi_record.specs.declared.record.Extra.{Extra}
use Rattle.edi_record.specs.declared.record.Kind.TheVariants.{Pno}
use Rattle.edi_record.proofs.ValueOrder.{extra_order}
use Rattle.edi_schema.specs.Sorted.{sort_by}
use Rattle.edi_schema.proofs.SortedLists.{sort_by-same, counts_from_permutation, IsPermutation-sort_by}
use Rattle.edi_plan.specs.Orders.{attribute_cmp}
use Rattle.edi_plan.specs.Plans.{PlanData, IsPlace, record_at}
use Rattle.edi_plan.specs.Whole.{IsWholePlan}
use Rattle.edi_plan.specs.declared.record.PlanAttribute.{PlanAttribute}
use Rattle.edi_plan.proofs.DerivedOrders.{attribute_order}
use Rattle.edi_plan.proofs.Orders.{exact_lists, point_total, point_exact, attribute_total, attribute_exact, extra_total, extra_exact}
use Rattle.edi_topo.specs.NodeKeys.{node_key, node_key_cmp, no_point}
use Rattle.edi_topo.specs.TopologyRules.{AreEqualNodes}
use Rattle.edi_topo.specs.declared.node_key.NodeKey.{NodeKey}
use Rattle.edi_topo.specs.contracts.node_key.NodeKeyOrd.TheImpl.{ghosts as nodes}

pub node_key_total : IsTotalOrder node_key_cmp
node_key_total = then_total (on_total (λ (a : NodeKey). a.point) point_total) (then_total (on_total (λ (a : NodeKey). a.class) nat_cmp_total)
    (then_total (on_total (λ (a : NodeKey). a.attributes) (lists_total attribute_total)) (on_total (λ (a : NodeKey). a.extras) (lists_total extra_total))))

pub node_key_exact : CmpEqualImpliesEq node_key_cmp
node_key_exact a b h =
    let h1 = then_tied _ _ h in
    let h2 = then_tied _ _ h1 in
    let p = point_exact a.point b.point (first_tied _ _ h) in
    let c = exact_unsigned a.class b.class (first_tied _ _ h1) in
    let t = exact_lists attribute_cmp attribute_exact a.attributes b.attributes (first_tied _ _ h2) in
    let e = exact_lists extra_cmp extra_exact a.extras b.extras (then_tied _ _ h2) in
    λ i. record { point = p i; class = c i; attributes = t i; extras = e i }

-- the derived order is the written one
pub node_order : (a b : NodeKey) → nodes.cmp a b ≡ node_key_cmp a b
node_order a b =
    λ i. ordering_then (point_cmp a.point b.point) (ordering_then (nat_cmp a.class b.class)
    (ordering_then (slice_cmp (λ (x y : PlanAttribute). attribute_order x y i) a.attributes b.attributes) (slice_cmp (λ (x y : Extra). extra_order x y i) a.extras b.extras)))

one_point : (points : List Point) → may_have_points Pno (length points) ≡ true → points ≡ get_or points 0 no_point ∷ []
one_point [] h = absurd (true≢false (sym h))
one_point (x ∷ []) h = refl
one_point (x ∷ y ∷ points) h = let e : suc (suc (length points)) ≡ 1 = eqb-true _ _ h in absurd (omega (arith, e))

pub keys_of_alike : (p : PlanData) (m n : ℕ) → AreEqualNodes p m n → node_key_cmp (node_key (record_at p m)) (node_key (record_at p n)) ≡ Equal
keys_of_alike p m n d = subst (λ k. node_key_cmp (node_key (record_at p m)) k ≡ Equal) same (tied_itself node_key_total (node_key (record_at p m)))
  where
    same : node_key (record_at p m) ≡ node_key (record_at p n)
    same =
        let t = sort_by-same attribute_cmp attribute_total attribute_exact (record_at p m).attributes (record_at p n).attributes (counts_from_permutation _ _ d.attributes) in
        λ i. record { point = get_or (d.points i) 0 no_point; class = d.class i; attributes = t i; extras = d.extras i }

pub equal_from_keys : (p : PlanData) (m n : ℕ) → IsWholePlan p → IsPlace p m → IsPlace p n → (record_at p m).kind ≡ Pno → (record_at p n).kind ≡ Pno
    → node_key_cmp (node_key (record_at p m)) (node_key (record_at p n)) ≡ Equal → AreEqualNodes p m n
equal_from_keys p m n whole first second node node' tie =
    let same = node_key_exact (node_key (record_at p m)) (node_key (record_at p n)) tie in
    let sorted : sort_by attribute_cmp (record_at p m).attributes ≡ sort_by attribute_cmp (record_at p n).attributes = ap (λ (k : NodeKey). k.attributes) same in
    record {
      first = first;
      second = second;
      first_node = node;
      second_node = node';
      points = points m first node ∙ (ap (λ (k : NodeKey). k.point ∷ []) same ∙ sym (points n second node'));
      class = ap (λ (k : NodeKey). k.class) same;
      attributes = IsPermutation-trans _ _ _ (subst (λ xs. IsPermutation (record_at p m).attributes xs) sorted (IsPermutation-sym _ _ (IsPermutation-sort_by attribute_cmp attribute_total (record_at p m).attributes)))
          (IsPermutation-sort_by attribute_cmp attribute_total (record_at p n).attributes);
      extras = ap (λ (k : NodeKey). k.extras) same;
    }
  where
    points : (k : ℕ) → IsPlace p k → (record_at p k).kind ≡ Pno → (record_at p k).points ≡ (node_key (record_at p k)).point ∷ []
    points k there is = one_point (record_at p k).points (subst (λ kind. may_have_points kind (length (record_at p k).points) ≡ true) is (whole.points k there))
