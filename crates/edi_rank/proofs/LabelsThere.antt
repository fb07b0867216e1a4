-- A plan that breaks no rule has labels.
use Rattle.std.proofs.Common.{◌≡◌, ℕ, ◌<◌, false, true≢false, List, [], ◌∷◌, map, length, get_or, refl, sym, ap, ◌∙◌, subst, arith, Ordering}
use Rattle.std.specs.Cmp.{IsTotalOrder}
use Rattle.std.proofs.lemmas.List.{get_or-map}
use Rattle.std.proofs.lemmas.List.Sorted.{IsPermutation-sym}
use Rattle.std.proofs.lemmas.Map.Lookups.{CmpEqualImpliesEq}
use Rattle.edi_line.specs.Refusal.{IsUnbroken}
use Rattle.edi_record.specs.Orders.{point_cmp, points_cmp}
use Rattle.edi_record.specs.Records.{is_link}
use Rattle.edi_record.specs.declared.record.Kind.{Kind}
use Rattle.edi_record.specs.declared.record.Kind.TheVariants.{Pno, Par, Pfe, Fea, Lnk}
use Rattle.edi_schema.specs.Classes.{Classes}
use Rattle.edi_schema.specs.Sorted.{sort_by}
use Rattle.edi_schema.proofs.SortedLists.{IsPermutation-sort_by, NeverFalls-sort_by}
use Rattle.edi_plan.specs.Joined.{IsJoined}
use Rattle.edi_plan.specs.Places.{places_of, member_of}
use Rattle.edi_plan.specs.Plans.{PlanData, IsPlace, record_at, is_object, others_of}
use Rattle.edi_plan.specs.Whole.{IsWholePlan}
use Rattle.edi_plan.specs.declared.record.PlanEnd.{PlanEnd}
use Rattle.edi_plan.proofs.Orders.{points_total, point_exact, exact_lists}
use Rattle.edi_plan.proofs.PlaceLemmas.{places_rise, place_there, place_of_kind}
use Rattle.edi_topo.specs.Arcs.{forward_keys}
use Rattle.edi_topo.specs.Directions.{forward}
use Rattle.edi_topo.specs.NodeKeys.{node_key, node_key_cmp, node_keys, no_node}
use Rattle.edi_topo.specs.Ranking.{keyed, IsRanking, Ties}
use Rattle.edi_topo.specs.TopologyRules.{BreaksTopologyRule}
use Rattle.edi_topo.proofs.FirstArcRepeat.{key_is}
use Rattle.edi_topo.proofs.NodeOrders.{node_key_total, node_key_exact}
use Rattle.edi_rank.specs.EndOrder.{PutsInOrder}
use Rattle.edi_rank.specs.EqualObjects.{BreaksObjectRule}
use Rattle.edi_rank.specs.KeyLaws.{TellsTypeApart}
use Rattle.edi_rank.specs.Keys.{face_key_cmp, object_key, object_key_cmp, numbered}
use Rattle.edi_rank.specs.Labelling.{Labelling, AreLabels, order_of}
use Rattle.edi_rank.specs.Laws.{TellsApart}
use Rattle.edi_rank.specs.Layers.{face_keys, no_side, ranked}
use Rattle.edi_rank.specs.Turned.{is_backward}
use Rattle.edi_rank.specs.inner.Layers.{LinkSource, placed_link_cmp, placed_link_key}
use Rattle.edi_rank.proofs.FacesApart.{no_face_ties}
use Rattle.edi_rank.proofs.KeysApart.{one_node, one_arc, one_object}
use Rattle.edi_rank.proofs.LabelsMade.{KindLabels, Ranked, ranks_of, kind_labels, lower_ranked, no_link, labels_made}
use Rattle.edi_rank.proofs.LinksApart.{placed_total, no_link_ties}
use Rattle.edi_rank.proofs.LowerNumbers.{lower_apart}
use Rattle.edi_rank.proofs.ObjectTies.{object_key_exact}
use Rattle.edi_rank.proofs.ObjectsRise.{objects_rise}
use Rattle.edi_rank.proofs.Orders.{face_key_total, object_key_total}
use Rattle.edi_rank.proofs.OthersSorted.{derived_pair_cmp, pair_total, pair_order, end_at, few_in_order, pairs_in_order, no_object}
use Rattle.edi_rank.proofs.Rankings.{ranks_each}
use Rattle.edi_rank.proofs.RankingsThere.{listed, length-listed, listed_at, sorted_from_never_falls, ranking, is_ranking, by_number, numbered_back}

-- ---- the other ends of a link

module _ (p : PlanData) (number : ℕ → ℕ) where
  derived_total : IsTotalOrder derived_pair_cmp
  derived_total = subst IsTotalOrder (λ i a b. sym (pair_order a b) i) pair_total

  abbrev positions : List PlanEnd → List ℕ
  positions [] = []
  positions (e ∷ ends) = map (λ pair. pair.1) (sort_by derived_pair_cmp (keyed (λ i. numbered p number (end_at (e ∷ ends) i)) (length (e ∷ ends))))

  puts_in_order : (ends : List PlanEnd) → PutsInOrder p number (positions ends) ends
  puts_in_order [] = few_in_order p number [] (omega arith)
  puts_in_order (e ∷ ends) =
      let pairs = keyed (λ i. numbered p number (end_at (e ∷ ends) i)) (length (e ∷ ends)) in
      pairs_in_order p number (e ∷ ends) (sort_by derived_pair_cmp pairs) (omega arith)
      (IsPermutation-sym _ _ (IsPermutation-sort_by derived_pair_cmp derived_total pairs))
      (sorted_from_never_falls derived_pair_cmp derived_total (sort_by derived_pair_cmp pairs) (NeverFalls-sort_by derived_pair_cmp derived_total pairs))

-- ---- members of which no two have one key

-- what tells the records of a type apart tells its members apart
pub no_ties : {K : Type 0} (p : PlanData) (kind : Kind) (cmp : K → K → Ordering) → CmpEqualImpliesEq cmp → (by_place by_member : ℕ → K) → TellsTypeApart p kind by_place
    → ((m : ℕ) → m < length (places_of kind p) → by_member m ≡ by_place (get_or (places_of kind p) m 0)) → (m : ℕ) → ¬ (Ties cmp by_member (length (places_of kind p)) m)
no_ties p kind cmp exact by_place by_member apart is m tie =
    let n = tie.1.0 in
    let less : n < length (places_of kind p) = omega (arith, tie.0, tie.1.1) in
    let same : by_place (get_or (places_of kind p) n 0) ≡ by_place (get_or (places_of kind p) m 0) = sym (is n less) ∙ (exact (by_member n) (by_member m) tie.1.2 ∙ is m tie.0) in
    let one : get_or (places_of kind p) n 0 ≡ get_or (places_of kind p) m 0 =
    apart _ _ (place_there kind p n less) (place_there kind p m tie.0) (place_of_kind kind p n less) (place_of_kind kind p m tie.0) same in
    omega (arith, one, places_rise kind p n m tie.1.1 tie.0)

-- ---- the labels

module _ (s : Classes) (p : PlanData) (whole : IsWholePlan p) (joined : IsJoined p) (sound : IsUnbroken (BreaksTopologyRule p)) (distinct : IsUnbroken (BreaksObjectRule p)) where
  abbrev count : Kind → ℕ
  count kind = length (places_of kind p)

  -- a layer: its ranking, and the places by number
  pub record Layer (kind : Kind) : Type 1 where
    pub K : Type 0
    pub cmp : K → K → Ordering
    pub total : IsTotalOrder cmp
    pub key : ℕ → K
    pub apart : (m : ℕ) → ¬ (Ties cmp key (length (places_of kind p)) m)

  abbrev ranks : (kind : Kind) → Layer kind → List ℕ
  ranks kind l = ranking l.cmp l.total l.key (count kind) l.apart

  abbrev places : (kind : Kind) → Layer kind → List ℕ
  places kind l = by_number l.cmp l.total l.key (count kind) l.apart (places_of kind p)

  pub rank_layer : (kind : Kind) (l : Layer kind) → IsRanking l.cmp l.key (length (places_of kind p)) (ranks kind l)
  rank_layer kind l = is_ranking l.cmp l.total l.key (count kind) l.apart

  label_layer : (kind : Kind) (l : Layer kind) → KindLabels p kind (ranks kind l) (places kind l)
  label_layer kind l = kind_labels l.cmp l.total l.key p kind (ranks kind l) (places kind l) (rank_layer kind l) (length-listed _ (count kind)) (λ m h. numbered_back l.cmp l.total l.key (count kind) l.apart (places_of kind p) m h)

  abbrev nodes : Layer Pno
  nodes = record {
    K = _;
    cmp = node_key_cmp;
    total = node_key_total;
    key = λ m. get_or (node_keys p) m no_node;
    apart = no_ties p Pno node_key_cmp node_key_exact (λ n. node_key (record_at p n)) (λ m. get_or (node_keys p) m no_node) (one_node p whole (sound 403))
        (λ m h. get_or-map (λ k. node_key (record_at p k)) (places_of Pno p) m 0 no_node h);
  }

  abbrev arcs : Layer Par
  arcs = record {
    K = _;
    cmp = points_cmp;
    total = points_total;
    key = λ m. get_or (forward_keys p) m [];
    apart = no_ties p Par points_cmp (exact_lists point_cmp point_exact) (λ a. forward (record_at p a).points) (λ m. get_or (forward_keys p) m []) (one_arc p (sound 405)) (λ m h. key_is p m h);
  }

  abbrev faces : Layer Pfe
  faces = record {
    K = _;
    cmp = face_key_cmp;
    total = face_key_total;
    key = λ m. get_or (face_keys p (ranks Par arcs)) m no_side;
    apart = no_face_ties p whole joined (ranks Par arcs) (ranks_each points_cmp points_total (λ m. get_or (forward_keys p) m []) (count Par) (ranks Par arcs) (rank_layer Par arcs)) (length-listed _ (count Par)) sound;
  }

  -- the numbers of nodes, arcs and faces, and then those of objects too, by place
  abbrev below_objects : List ℕ
  below_objects = listed (ranked p (ranks Pno nodes) (ranks Par arcs) (ranks Pfe faces)) (length p.list)

  lower_number_is : (k : ℕ) → IsPlace p k → get_or below_objects k 0 ≡ ranked p (ranks Pno nodes) (ranks Par arcs) (ranks Pfe faces) k
  lower_number_is k h = listed_at (ranked p (ranks Pno nodes) (ranks Par arcs) (ranks Pfe faces)) (length p.list) k 0 h

  pub tells_apart : TellsApart p (λ k. get_or below_objects k 0)
  tells_apart = lower_apart p (ranks Pno nodes) (ranks Par arcs) (ranks Pfe faces) below_objects (rank_layer Pno nodes) (rank_layer Par arcs) (rank_layer Pfe faces) lower_number_is

  abbrev objects : Layer Fea
  objects = record {
    K = _;
    cmp = object_key_cmp;
    total = object_key_total;
    key = λ m. object_key p (λ k. get_or below_objects k 0) (get_or (places_of Fea p) m 0);
    apart = no_ties p Fea object_key_cmp object_key_exact (object_key p (λ k. get_or below_objects k 0)) (λ m. object_key p (λ k. get_or below_objects k 0) (get_or (places_of Fea p) m 0))
        (one_object p whole distinct (λ k. get_or below_objects k 0) tells_apart) (λ m h. refl);
  }

  abbrev lower : Ranked
  lower = record { nodes = ranks Pno nodes; arcs = ranks Par arcs; faces = ranks Pfe faces; objects = ranks Fea objects; links = [] }

  abbrev number_in : Ranked → ℕ → ℕ
  number_in r k = get_or (ranks_of r (record_at p k).kind) (member_of p k) 0

  abbrev unlinked : List ℕ
  unlinked = listed (number_in lower) (length p.list)

  abbrev source : LinkSource
  source = record { plan = p; classes = s; turned = listed (is_backward p) (length p.list); numbers = unlinked }

  abbrev links : Layer Lnk
  links = record {
    K = _;
    cmp = placed_link_cmp;
    total = placed_total;
    key = λ m. placed_link_key source (get_or (places_of Lnk p) m 0);
    apart = no_link_ties source;
  }

  abbrev all : Ranked
  all = record { nodes = ranks Pno nodes; arcs = ranks Par arcs; faces = ranks Pfe faces; objects = ranks Fea objects; links = ranks Lnk links }

  abbrev pub labels : Labelling
  labels = record {
    numbers = listed (number_in all) (length p.list);
    turned = listed (is_backward p) (length p.list);
    others = listed (λ k. positions p (λ j. get_or unlinked j 0) (others_of (record_at p k))) (length p.list);
    nodes = places Pno nodes;
    arcs = places Par arcs;
    faces = places Pfe faces;
    objects = places Fea objects;
    links = places Lnk links;
  }

  kinds : (kind : Kind) → KindLabels p kind (ranks_of all kind) (order_of labels kind)
  kinds Pno = label_layer Pno nodes
  kinds Par = label_layer Par arcs
  kinds Pfe = label_layer Pfe faces
  kinds Fea = label_layer Fea objects
  kinds Lnk = label_layer Lnk links

  number_is : (k : ℕ) → IsPlace p k → get_or labels.numbers k 0 ≡ number_in all k
  number_is k h = listed_at (number_in all) (length p.list) k 0 h

  same_below : (kind : Kind) → is_link kind ≡ false → ranks_of all kind ≡ ranks_of lower kind
  same_below Pno h = refl
  same_below Par h = refl
  same_below Pfe h = refl
  same_below Fea h = refl
  same_below Lnk h = absurd (true≢false h)

  below : (k : ℕ) → IsPlace p k → is_link (record_at p k).kind ≡ false → get_or labels.numbers k 0 ≡ get_or unlinked k 0
  below k h e = number_is k h ∙ (ap (λ r. get_or r (member_of p k) 0) (same_below (record_at p k).kind e) ∙ sym (listed_at (number_in lower) (length p.list) k 0 h))

  bare : (k : ℕ) → IsPlace p k → is_link (record_at p k).kind ≡ false → is_object (record_at p k).kind ≡ false → get_or labels.numbers k 0 ≡ get_or below_objects k 0
  bare k h e f = number_is k h ∙ (sym (lower_ranked all (record_at p k).kind (member_of p k) (no_link (record_at p k).kind e) (no_object (record_at p k).kind f)) ∙ sym (lower_number_is k h))

  pub are_labels : AreLabels s p labels
  are_labels = labels_made s p whole joined sound labels all unlinked (length-listed _ (length p.list)) (length-listed _ (length p.list))
      (λ k h. listed_at (is_backward p) (length p.list) k false h) kinds number_is below (rank_layer Pno nodes) (rank_layer Par arcs) (rank_layer Pfe faces) (rank_layer Lnk links)
      (length-listed _ (length p.list))
      (λ k h. subst (λ q. PutsInOrder p (λ j. get_or unlinked j 0) q (others_of (record_at p k))) (sym (listed_at (λ k. positions p (λ j. get_or unlinked j 0) (others_of (record_at p k))) (length p.list) k [] h))
      (puts_in_order p (λ j. get_or unlinked j 0) (others_of (record_at p k))))
      (objects_rise s p whole joined labels (ranks Fea objects) (places Fea objects) below_objects bare (label_layer Fea objects) (λ k h e. number_is k h ∙ ap (λ kind. get_or (ranks_of all kind) (member_of p k) 0) e) (rank_layer Fea objects))
