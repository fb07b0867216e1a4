-- The least member of a layer of nodes that ties is the least node that equals an earlier one.
use Rattle.std.proofs.Common.{◌≡◌, ℕ, ◌<◌, ◌≤◌, ◌⊎◌, inl, inr, Bool, List, length, get_or, sym, ap, ◌∙◌, subst, arith, Equal}
use Rattle.std.proofs.lemmas.List.{get_or-map}
use Rattle.std.proofs.lemmas.Bool.{cases_order}
use Rattle.edi_record.specs.declared.record.Kind.TheVariants.{Pno}
use Rattle.edi_plan.specs.EarlierLinks.{IsLeast}
use Rattle.edi_plan.specs.Places.{places_of}
use Rattle.edi_plan.specs.Plans.{PlanData, record_at}
use Rattle.edi_plan.specs.Whole.{IsWholePlan}
use Rattle.edi_plan.proofs.PlaceLemmas.{place_there, place_of_kind, places_rise, has_place}
use Rattle.edi_topo.specs.EarlierRecords.{IsEqualNode}
use Rattle.edi_topo.specs.NodeKeys.{node_key, node_keys, node_key_cmp, no_node, IsNodeRanking}
use Rattle.edi_topo.specs.Marks.{AreMarksOf, IsPlaceOfMark}
use Rattle.edi_topo.specs.inner.Nodes.{RepeatsAnEarlier}
use Rattle.edi_topo.specs.Ranking.{HasItsKey, Ties, IsRanking}
use Rattle.edi_topo.specs.TopologyRules.{AreEqualNodes}
use Rattle.edi_topo.specs.declared.node_key.NodeKey.{NodeKey}
use Rattle.edi_topo.proofs.LeastPlaces.{least_place, lesser_member}
use Rattle.edi_topo.proofs.MarksPlaced.{marks_at_places}
use Rattle.edi_topo.proofs.NodeOrders.{node_order, keys_of_alike, equal_from_keys}
use Rattle.edi_topo.specs.contracts.node_key.NodeKeyOrd.TheImpl.{ghosts as nodes}

-- how many nodes there are, and the key of each

abbrev pub count_of : PlanData → ℕ
count_of p = length (places_of Pno p)

abbrev pub key_of : PlanData → ℕ → NodeKey
key_of p m = get_or (node_keys p) m no_node

module _ (p : PlanData) (whole : IsWholePlan p) where
  abbrev pub place : ℕ → ℕ
  place m = get_or (places_of Pno p) m 0

  key_is : (m : ℕ) → m < count_of p → key_of p m ≡ node_key (record_at p (place m))
  key_is m h = get_or-map (λ k. node_key (record_at p k)) (places_of Pno p) m 0 no_node h

  -- members tie exactly where their nodes are equal

  equal_there : (m n : ℕ) → m < count_of p → n < count_of p → nodes.cmp (key_of p m) (key_of p n) ≡ Equal → AreEqualNodes p (place m) (place n)
  equal_there m n h l tie = equal_from_keys p (place m) (place n) whole (place_there Pno p m h) (place_there Pno p n l) (place_of_kind Pno p m h) (place_of_kind Pno p n l)
      (subst (λ k. node_key_cmp k (node_key (record_at p (place n))) ≡ Equal) (key_is m h) (subst (λ k. node_key_cmp (key_of p m) k ≡ Equal) (key_is n l) (sym (node_order (key_of p m) (key_of p n)) ∙ tie)))

  tie_there : (m n : ℕ) → m < count_of p → n < count_of p → AreEqualNodes p (place m) (place n) → nodes.cmp (key_of p m) (key_of p n) ≡ Equal
  tie_there m n h l d = node_order (key_of p m) (key_of p n) ∙ subst (λ k. node_key_cmp (key_of p m) k ≡ Equal) (sym (key_is n l))
      (subst (λ k. node_key_cmp k (node_key (record_at p (place n))) ≡ Equal) (sym (key_is m h)) (keys_of_alike p (place m) (place n) d))

  -- an earlier node that is equal to a member's is that of an earlier member with its key
  earlier_member : (j k : ℕ) → j < count_of p → IsEqualNode p (place j) k → (i : ℕ) × HasItsKey nodes.cmp (key_of p) (count_of p) j i × (place i ≡ k)
  earlier_member j k h d =
      let a = has_place Pno p k d.1.first d.1.first_node in
      (a.0, (lesser_member Pno p a.0 j a.1 (omega (arith, a.2, d.0)), tie_there a.0 j a.1 h (subst (λ n. AreEqualNodes p n (place j)) (sym a.2) d.1)), a.2)

  -- the member of a node that equals an earlier one
  tying_member : (n : ℕ) → RepeatsAnEarlier p n → (m : ℕ) × Ties nodes.cmp (key_of p) (count_of p) m × (place m ≡ n)
  tying_member n d =
      let b = has_place Pno p n d.2.second d.2.second_node in
      let a = earlier_member b.0 d.0 b.1 (subst (λ k. IsEqualNode p k d.0) (sym b.2) (d.1, d.2)) in
      (b.0, (b.1, (a.0, a.1.0, a.1.1)), b.2)

  -- the first member with the key of one has the first node that is equal to its node
  pub first_equal : (m e : ℕ) → m < count_of p → IsLeast (HasItsKey nodes.cmp (key_of p) (count_of p) m) e → IsLeast (IsEqualNode p (place m)) (place e)
  first_equal m e h first = least_place Pno p (HasItsKey nodes.cmp (key_of p) (count_of p) m) (IsEqualNode p (place m)) (λ i k. omega (arith, k.0, h))
      (λ i k. (places_rise Pno p i m k.0 h, equal_there i m (omega (arith, k.0, h)) h k.1)) (λ k d. earlier_member m k h d) e first

  pub none_repeats : ((m : ℕ) → ¬ (Ties nodes.cmp (key_of p) (count_of p) m)) → (n : ℕ) → ¬ (RepeatsAnEarlier p n)
  none_repeats none n d = let t = tying_member n d in none t.0 t.1

  pub tie_repeats : (m : ℕ) → Ties nodes.cmp (key_of p) (count_of p) m → RepeatsAnEarlier p (place m)
  tie_repeats m tie = let i = tie.1.0 in (place i, places_rise Pno p i m tie.1.1 tie.0, equal_there i m (omega (arith, tie.0, tie.1.1)) tie.0 tie.1.2)

  pub least_repeats : (m : ℕ) → Ties nodes.cmp (key_of p) (count_of p) m → ((n : ℕ) → Ties nodes.cmp (key_of p) (count_of p) n → m ≤ n) → RepeatsAnEarlier p (place m) × ((k : ℕ) → RepeatsAnEarlier p k → place m ≤ k)
  least_repeats m tie least = (tie_repeats m tie, λ k d. let t = tying_member k d in behind t.0 t.1.0 k t.2 (least t.0 t.1) (cases_order m t.0))
    where
      behind : (j : ℕ) → j < count_of p → (k : ℕ) → place j ≡ k → m ≤ j → (m ≡ j) ⊎ ((m < j) ⊎ (j < m)) → place m ≤ k
      behind j h k e le (inl same) = omega (arith, ap place same, e)
      behind j h k e le (inr (inl less)) = omega (arith, places_rise Pno p m j less h, e)
      behind j h k e le (inr (inr more)) = absurd (omega arith)

  -- the places of the members that tie are those of the nodes that equal an earlier one
  pub marks_repeat : (q : PlanData) → q ≡ p → (marks read by_place : List Bool) (places : List ℕ) (count : ℕ) → read ≡ marks → places ≡ places_of Pno p → count ≡ length p.list
      → AreMarksOf (count_of q) (Ties nodes.cmp (key_of q) (count_of q)) marks → AreMarksOf count (IsPlaceOfMark places read) by_place → AreMarksOf (length p.list) (RepeatsAnEarlier p) by_place
  marks_repeat q same marks read by_place places count e f g tied placed = marks_at_places Pno p (Ties nodes.cmp (key_of p) (count_of p)) (RepeatsAnEarlier p) (λ m t. t.0) tie_repeats tying_member
      marks read by_place places (count_of p) count e f g (subst (λ r. AreMarksOf (count_of r) (Ties nodes.cmp (key_of r) (count_of r)) marks) same tied) placed

-- the numbers by the derived order are those by the written one
pub ranking_of : (p q : PlanData) (numbers : List ℕ) → q ≡ p → IsRanking nodes.cmp (key_of q) (count_of q) numbers → IsNodeRanking p numbers
ranking_of p q numbers e h = subst (λ r. IsRanking node_key_cmp (key_of r) (count_of r) numbers) e (subst (λ cmp. IsRanking cmp (key_of q) (count_of q) numbers) (λ i a b. node_order a b i) h)
