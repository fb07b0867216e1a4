-- What is found by its key is the only place where a partner can be.
use Rattle.std.proofs.Common.{◌≡◌, ◌≢◌, ℕ, ◌+◌, ◌<◌, ◌≤◌, ◌⊎◌, inl, inr, Bool, true, false, List, [], length, reverse, Option, None, Some, MatchOption, get_or, refl, sym, ap, ◌∙◌, subst, arith, All, IsPermutation, IsSorted, Ordering, Less, Equal, Greater, is_lt, nat_cmp}
use Rattle.std.specs.Cmp.{IsTotalOrder}
use Rattle.std.specs.List.Sorted.{IsSortedBy}
use Rattle.std.specs.Ordering.{ordering_then}
use Rattle.std.proofs.lemmas.Bool.{cases_lt}
use Rattle.std.proofs.lemmas.Cmp.{tied_itself}
use Rattle.std.proofs.lemmas.List.{get_or-map}
use Rattle.std.proofs.lemmas.List.Sorted.{All-permutation, Contains-permutation}
use Rattle.std.proofs.lemmas.Map.Lookups.{CmpEqualImpliesEq}
use Rattle.edi_line.specs.Refusal.{IsUnbroken}
use Rattle.edi_line.proofs.Truths.{first_not_less}
use Rattle.edi_record.specs.Orders.{points_cmp, point_cmp}
use Rattle.edi_record.specs.declared.record.Kind.{Kind}
use Rattle.edi_record.specs.declared.record.Kind.TheVariants.{Pno, Par}
use Rattle.edi_record.specs.declared.record.Point.{Point}
use Rattle.edi_schema.proofs.SortedLists.{sort_by-same, counts_from_permutation}
use Rattle.edi_plan.specs.Orders.{attribute_cmp}
use Rattle.edi_plan.specs.Places.{places_of}
use Rattle.edi_plan.specs.Plans.{PlanData, IsPlace, record_at}
use Rattle.edi_plan.specs.Whole.{IsWholePlan}
use Rattle.edi_plan.specs.declared.record.PlanRecord.{PlanRecord}
use Rattle.edi_plan.proofs.Orders.{attribute_total, attribute_exact, points_total, point_exact, exact_lists}
use Rattle.edi_plan.proofs.PlaceLemmas.{has_place, place_there, place_of_kind}
use Rattle.edi_topo.specs.Arcs.{forward_keys}
use Rattle.edi_topo.specs.Directions.{forward}
use Rattle.edi_topo.specs.Ranking.{keyed}
use Rattle.edi_topo.specs.NodeKeys.{node_key, node_keys, node_key_cmp, no_node, no_point}
use Rattle.edi_topo.specs.TopologyRules.{BreaksTopologyRule}
use Rattle.edi_topo.specs.declared.node_key.NodeKey.{NodeKey}
use Rattle.edi_topo.proofs.FirstArcRepeat.{one_direction}
use Rattle.edi_topo.proofs.KeyOrder.{AreMembers, has_member}
use Rattle.edi_topo.proofs.NodeOrders.{node_key_total, node_key_exact, node_order}
use Rattle.edi_topo.specs.contracts.node_key.NodeKeyOrd.TheImpl.{ghosts as nodes}
use Rattle.edi_rank.specs.Same.{directed}
use Rattle.edi_rank.proofs.KeysApart.{one_node, one_arc}
use Rattle.edi_matching.specs.Differences.{HoldsSame, ArePartners}
use Rattle.edi_matching.specs.inner.Partners.{TwoPlans, IsOnlyAt, IsSameIfAny}

-- members that are found by their keys

module _ {K : Type 0} (cmp : K → K → Ordering) (total : IsTotalOrder cmp) (exact : CmpEqualImpliesEq cmp) (q : PlanData) (kind : Kind) (contents : ℕ → K) (keys : ℕ → K)
    (is : (m : ℕ) → m < length (places_of kind q) → keys m ≡ contents (get_or (places_of kind q) m 0))
    (pairs : List (K × ℕ)) (members : IsPermutation (keyed keys (length (places_of kind q))) pairs) (key : K) where
  abbrev count : ℕ
  count = length (places_of kind q)

  pub none_known : All (λ (x : K × ℕ). cmp x.0 key ≢ Equal) pairs → (j : ℕ) → IsPlace q j → (record_at q j).kind ≡ kind → contents j ≢ key
  none_known none j h of_kind e =
      let w = has_place kind q j h of_kind in
      let same : keys w.0 ≡ key = is w.0 w.1 ∙ (ap contents w.2 ∙ e) in
      let c = Contains-permutation (keyed keys count) pairs (keys w.0, w.0) members (has_member keys count w.0 w.1) in
      let apart : cmp (get_or pairs c.0 (keys w.0, w.0)).0 key ≢ Equal = none c.0 (keys w.0, w.0) c.1 in
      apart (ap (λ (x : K × ℕ). cmp x.0 key) c.2 ∙ (ap (λ k. cmp k key) same ∙ tied_itself total key))

  pub one_known_of : (m k : ℕ) → k < length pairs → ((d : K × ℕ) → (cmp (get_or pairs k d).0 key ≡ Equal) × ((get_or pairs k d).1 ≡ m))
      → (m < count) × (contents (get_or (places_of kind q) m 0) ≡ key)
  one_known_of m k h found =
      let d : K × ℕ = (key, m) in
      let member : ((get_or pairs k d).1 < count) × ((get_or pairs k d).0 ≡ keys (get_or pairs k d).1) =
      All-permutation (λ (x : K × ℕ). (x.1 < count) × (x.0 ≡ keys x.1)) (keyed keys count) pairs members (AreMembers keys count) k d h in
      let same : (get_or pairs k d).1 ≡ m = (found d).1 in
      let less : m < count = subst (λ n. n < count) same member.0 in
      (less, sym (is m less) ∙ (ap keys (sym same) ∙ (sym member.1 ∙ exact (get_or pairs k d).0 key (found d).0)))

-- the keys of partners

points_same : (a b : PlanRecord) (turned : Bool) → HoldsSame a b turned → a.kind ≡ Pno → b.points ≡ a.points
points_same a b true same node = let e : Pno ≡ Par = sym node ∙ same.arc refl in cc
points_same a b false same node = same.points

pub node_keys_same : (a b : PlanRecord) (turned : Bool) → HoldsSame a b turned → a.kind ≡ Pno → node_key b ≡ node_key a
node_keys_same a b turned same node =
    let points = points_same a b turned same node in
    let sorted = sort_by-same attribute_cmp attribute_total attribute_exact a.attributes b.attributes (counts_from_permutation _ _ same.attributes) in
    λ i. record { point = get_or (points i) 0 no_point; class = same.class i; attributes = sym sorted i; extras = same.extras i }

either : (turned : Bool) (xs ys : List Point) → ys ≡ directed turned xs → (ys ≡ xs) ⊎ (ys ≡ reverse xs)
either true xs ys e = inr e
either false xs ys e = inl e

pub arc_keys_same : (a b : PlanRecord) (turned : Bool) → HoldsSame a b turned → forward b.points ≡ forward a.points
arc_keys_same a b turned same = sym (one_direction a.points b.points (either turned a.points b.points same.points))

-- so a partner is where its key is found

module _ (p q : PlanData) (whole : IsWholePlan q) (sound : IsUnbroken (BreaksTopologyRule q)) (i : ℕ) where
  abbrev two : TwoPlans
  two = record { plan = p; other = q }

  module _ (node : (record_at p i).kind ≡ Pno) (pairs : List (NodeKey × ℕ)) (members : IsPermutation (keyed (λ m. get_or (node_keys q) m no_node) (length (places_of Pno q))) pairs) where
    abbrev contents : ℕ → NodeKey
    contents j = node_key (record_at q j)

    keys_are : (m : ℕ) → m < length (places_of Pno q) → get_or (node_keys q) m no_node ≡ contents (get_or (places_of Pno q) m 0)
    keys_are m h = get_or-map contents (places_of Pno q) m 0 no_node h

    partner_key : (j : ℕ) (turned : Bool) → ArePartners p q i j turned → contents j ≡ node_key (record_at p i)
    partner_key j turned are = node_keys_same (record_at p i) (record_at q j) turned are.same node

    pub no_node_partner : All (λ (x : NodeKey × ℕ). node_key_cmp x.0 (node_key (record_at p i)) ≢ Equal) pairs → IsOnlyAt two i None
    no_node_partner none j turned are =
        none_known node_key_cmp node_key_total node_key_exact q Pno contents (λ m. get_or (node_keys q) m no_node) keys_are pairs members (node_key (record_at p i)) none j are.there (are.same.kind ∙ node)
        (partner_key j turned are)

    pub node_member : (m k : ℕ) → k < length pairs → ((d : NodeKey × ℕ) → (node_key_cmp (get_or pairs k d).0 (node_key (record_at p i)) ≡ Equal) × ((get_or pairs k d).1 ≡ m))
        → (m < length (places_of Pno q)) × IsOnlyAt two i (Some (get_or (places_of Pno q) m 0))
    node_member m k h found =
        let w = one_known_of node_key_cmp node_key_total node_key_exact q Pno contents (λ m. get_or (node_keys q) m no_node) keys_are pairs members (node_key (record_at p i)) m k h found in
        let there = place_there Pno q m w.0 in
        (w.0, (there, λ j turned are. one_node q whole (λ at. sound 403 at) j (get_or (places_of Pno q) m 0) are.there there (are.same.kind ∙ node) (place_of_kind Pno q m w.0) (partner_key j turned are ∙ sym w.1)))

  module _ (arc : (record_at p i).kind ≡ Par) (pairs : List (List Point × ℕ)) (members : IsPermutation (keyed (λ m. get_or (forward_keys q) m []) (length (places_of Par q))) pairs) where
    abbrev arc_known : ℕ → List Point
    arc_known j = forward (record_at q j).points

    abbrev arc_key : List Point
    arc_key = forward (record_at p i).points

    arc_keys_are : (m : ℕ) → m < length (places_of Par q) → get_or (forward_keys q) m [] ≡ arc_known (get_or (places_of Par q) m 0)
    arc_keys_are m h = get_or-map arc_known (places_of Par q) m 0 [] h

    arc_partner_key : (j : ℕ) (turned : Bool) → ArePartners p q i j turned → arc_known j ≡ arc_key
    arc_partner_key j turned are = arc_keys_same (record_at p i) (record_at q j) turned are.same

    pub no_arc_partner : All (λ (x : List Point × ℕ). points_cmp x.0 arc_key ≢ Equal) pairs → IsOnlyAt two i None
    no_arc_partner none j turned are =
        none_known points_cmp points_total (exact_lists point_cmp point_exact) q Par arc_known (λ m. get_or (forward_keys q) m []) arc_keys_are pairs members arc_key none j are.there (are.same.kind ∙ arc)
        (arc_partner_key j turned are)

    pub arc_member : (m k : ℕ) → k < length pairs → ((d : List Point × ℕ) → (points_cmp (get_or pairs k d).0 arc_key ≡ Equal) × ((get_or pairs k d).1 ≡ m))
        → (m < length (places_of Par q)) × IsOnlyAt two i (Some (get_or (places_of Par q) m 0))
    arc_member m k h found =
        let w = one_known_of points_cmp points_total (exact_lists point_cmp point_exact) q Par arc_known (λ m. get_or (forward_keys q) m []) arc_keys_are pairs members arc_key m k h found in
        let there = place_there Par q m w.0 in
        (w.0, (there, λ j turned are. one_arc q (λ at. sound 405 at) j (get_or (places_of Par q) m 0) are.there there (are.same.kind ∙ arc) (place_of_kind Par q m w.0) (arc_partner_key j turned are ∙ sym w.1)))

-- sorted by pairs is sorted by keys

pub keys_sorted : {K : Type 0} (cmp : K → K → Ordering) (pairs : List (K × ℕ)) → IsSorted (λ x y. ordering_then (cmp x.0 y.0) (nat_cmp x.1 y.1)) pairs
    → IsSortedBy (λ x y. is_lt (cmp x.0 y.0)) pairs
keys_sorted cmp pairs sorted k d low high = first_not_less (cmp (get_or pairs (k + 1) d).0 (get_or pairs k d).0) (nat_cmp (get_or pairs (k + 1) d).1 (get_or pairs k d).1) (sorted k d low high)

-- the same of what the code has: the plans of the two, their records as they were found, and the key as it was made

pub node_orders : (λ (a b : NodeKey). nodes.cmp a b) ≡ node_key_cmp
node_orders = λ i a b. node_order a b i

pub nodes_sorted : (pairs : List (NodeKey × ℕ)) → IsSorted (λ x y. ordering_then (node_key_cmp x.0 y.0) (nat_cmp x.1 y.1)) pairs → IsSorted (λ x y. ordering_then (nodes.cmp x.0 y.0) (nat_cmp x.1 y.1)) pairs
nodes_sorted pairs h = subst (λ (cmp : NodeKey → NodeKey → Ordering). IsSorted (λ x y. ordering_then (cmp x.0 y.0) (nat_cmp x.1 y.1)) pairs) (sym node_orders) h

pub nodes_sorted_back : (pairs : List (NodeKey × ℕ)) → IsSorted (λ x y. ordering_then (nodes.cmp x.0 y.0) (nat_cmp x.1 y.1)) pairs → IsSorted (λ x y. ordering_then (node_key_cmp x.0 y.0) (nat_cmp x.1 y.1)) pairs
nodes_sorted_back pairs h = subst (λ (cmp : NodeKey → NodeKey → Ordering). IsSorted (λ x y. ordering_then (cmp x.0 y.0) (nat_cmp x.1 y.1)) pairs) node_orders h

-- what a search for a key tells
abbrev pub IsFound : {K : Type 0} → (K → K → Ordering) → List (K × ℕ) → K → ℕ → Type 0
IsFound {K} cmp pairs key m = (k : ℕ) × (k < length pairs) × ((d : K × ℕ) → (cmp (get_or pairs k d).0 key ≡ Equal) × ((get_or pairs k d).1 ≡ m))

abbrev pub IsSearched : {K : Type 0} → (K → K → Ordering) → List (K × ℕ) → K → Option ℕ → Type 0
IsSearched cmp pairs key found = MatchOption found (All (λ pair. cmp pair.0 key ≢ Equal) pairs) (IsFound cmp pairs key)

pub nodes_searched : (pairs : List (NodeKey × ℕ)) (key : NodeKey) (found : Option ℕ) → IsSearched nodes.cmp pairs key found → IsSearched node_key_cmp pairs key found
nodes_searched pairs key found h = subst (λ (cmp : NodeKey → NodeKey → Ordering). IsSearched cmp pairs key found) node_orders h

-- the members of a layer, with their keys
abbrev pub AreNodesOf : PlanData → List (NodeKey × ℕ) → Type 0
AreNodesOf q pairs = IsPermutation (keyed (λ m. get_or (node_keys q) m no_node) (length (places_of Pno q))) pairs

abbrev pub AreArcsOf : PlanData → List (List Point × ℕ) → Type 0
AreArcsOf q pairs = IsPermutation (keyed (λ m. get_or (forward_keys q) m []) (length (places_of Par q))) pairs

-- a search found no such element
pub missing : {X : Type 0} (ord : X → Ordering) (xs : List X) (i : ℕ) → ((k : ℕ) (d : X) → 0 ≤ k → k < i → ord (get_or xs k d) ≡ Less) × ((k : ℕ) (d : X) → i ≤ k → k < length xs → ord (get_or xs k d) ≡ Greater)
    → (k : ℕ) (d : X) → k < length xs → ord (get_or xs k d) ≡ Equal → ⊥
missing ord xs i both k d h tie = go (cases_lt k i)
  where
    go : (k < i) ⊎ (i ≤ k) → ⊥
    go (inl less) = let e : Less ≡ Equal = sym (both.0 k d (omega arith) less) ∙ tie in cc
    go (inr more) = let e : Greater ≡ Equal = sym (both.1 k d more h) ∙ tie in cc

module _ (t : TwoPlans) (p q : PlanData) (is : record { plan = p; other = q } ≡ t) (whole : IsWholePlan q) (sound : IsUnbroken (BreaksTopologyRule q)) (i : ℕ) where
  kind_there : (kind : Kind) → (record_at t.plan i).kind ≡ kind → (record_at p i).kind ≡ kind
  kind_there kind e = subst (λ (x : TwoPlans). (record_at x.plan i).kind ≡ kind) (sym is) e

  module _ (node : (record_at t.plan i).kind ≡ Pno) (pairs items : List (NodeKey × ℕ)) (same : items ≡ pairs) (key : NodeKey) (key_is : key ≡ node_key (record_at p i))
      (members : IsPermutation (keyed (λ m. get_or (node_keys q) m no_node) (length (places_of Pno q))) pairs) where
    pub node_none : All (λ (x : NodeKey × ℕ). node_key_cmp x.0 key ≢ Equal) items → IsOnlyAt t i None
    node_none none =
        subst (λ (x : TwoPlans). IsOnlyAt x i None) is (no_node_partner p q whole sound i (kind_there Pno node) pairs members
        (subst (λ (k : NodeKey). All (λ (x : NodeKey × ℕ). node_key_cmp x.0 k ≢ Equal) pairs) key_is (subst (λ (xs : List (NodeKey × ℕ)). All (λ (x : NodeKey × ℕ). node_key_cmp x.0 key ≢ Equal) xs) same none)))

    found_there : (m : ℕ) → IsFound node_key_cmp items key m → (m < length (places_of Pno q)) × IsOnlyAt (record { plan = p; other = q }) i (Some (get_or (places_of Pno q) m 0))
    found_there m found =
        let w = subst (λ (k : NodeKey). IsFound node_key_cmp pairs k m) key_is (subst (λ (xs : List (NodeKey × ℕ)). IsFound node_key_cmp xs key m) same found) in
        node_member p q whole sound i (kind_there Pno node) pairs members m w.0 w.1 w.2

    pub node_within : (m : ℕ) (places : List ℕ) → places ≡ places_of Pno q → IsFound node_key_cmp items key m → m < length places
    node_within m places e found = subst (λ (ps : List ℕ). m < length ps) (sym e) (found_there m found).0

    pub node_some : (m : ℕ) (places : List ℕ) → places ≡ places_of Pno q → IsFound node_key_cmp items key m → IsOnlyAt t i (Some (get_or places m 0))
    node_some m places e found = subst (λ (ps : List ℕ). IsOnlyAt t i (Some (get_or ps m 0))) (sym e) (subst (λ (x : TwoPlans). IsOnlyAt x i (Some (get_or (places_of Pno q) m 0))) is (found_there m found).1)

  module _ (arc : (record_at t.plan i).kind ≡ Par) (pairs items : List (List Point × ℕ)) (same : items ≡ pairs) (key : List Point) (key_is : key ≡ forward (record_at p i).points)
      (members : IsPermutation (keyed (λ m. get_or (forward_keys q) m []) (length (places_of Par q))) pairs) where
    pub arc_none : All (λ (x : List Point × ℕ). points_cmp x.0 key ≢ Equal) items → IsOnlyAt t i None
    arc_none none =
        subst (λ (x : TwoPlans). IsOnlyAt x i None) is (no_arc_partner p q whole sound i (kind_there Par arc) pairs members
        (subst (λ (k : List Point). All (λ (x : List Point × ℕ). points_cmp x.0 k ≢ Equal) pairs) key_is (subst (λ (xs : List (List Point × ℕ)). All (λ (x : List Point × ℕ). points_cmp x.0 key ≢ Equal) xs) same none)))

    arc_there : (m : ℕ) → IsFound points_cmp items key m → (m < length (places_of Par q)) × IsOnlyAt (record { plan = p; other = q }) i (Some (get_or (places_of Par q) m 0))
    arc_there m found =
        let w = subst (λ (k : List Point). IsFound points_cmp pairs k m) key_is (subst (λ (xs : List (List Point × ℕ)). IsFound points_cmp xs key m) same found) in
        arc_member p q whole sound i (kind_there Par arc) pairs members m w.0 w.1 w.2

    pub arc_within : (m : ℕ) (places : List ℕ) → places ≡ places_of Par q → IsFound points_cmp items key m → m < length places
    arc_within m places e found = subst (λ (ps : List ℕ). m < length ps) (sym e) (arc_there m found).0

    pub arc_some : (m : ℕ) (places : List ℕ) → places ≡ places_of Par q → IsFound points_cmp items key m → IsOnlyAt t i (Some (get_or places m 0))
    arc_some m places e found = subst (λ (ps : List ℕ). IsOnlyAt t i (Some (get_or ps m 0))) (sym e) (subst (λ (x : TwoPlans). IsOnlyAt x i (Some (get_or (places_of Par q) m 0))) is (arc_there m found).1)

-- where the only place has another record, there is no partner
pub not_there : (t : TwoPlans) (p q : PlanData) → record { plan = p; other = q } ≡ t → (i k : ℕ) → ((j : ℕ) (turned : Bool) → ArePartners t.plan t.other i j turned → j ≡ k)
    → (found : Option Bool) → found ≡ None → IsSameIfAny (record_at p i) (record_at q k) found → (j : ℕ) (turned : Bool) → ¬ (ArePartners t.plan t.other i j turned)
not_there t p q is i k only (Some x) e contents j turned are = cc
not_there t p q is i k only None e contents j turned are =
    contents turned (subst (λ (x : TwoPlans). HoldsSame (record_at x.plan i) (record_at x.other k) turned) (sym is) (subst (λ n. HoldsSame (record_at t.plan i) (record_at t.other n) turned) (only j turned are) are.same))
