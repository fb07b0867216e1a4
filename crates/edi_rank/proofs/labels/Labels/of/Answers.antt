use Rattle.std.proofs.Common.{◌≡◌, ◌≢◌, ◌∙◌, ◌⊎◌, inl, inr, ℕ, true, List, [], sym, subst, ap, length, get_or, refl}
use Rattle.edi_line.specs.Refusal.{IsUnbroken}
use Rattle.edi_record.specs.Orders.{points_cmp}
use Rattle.edi_record.specs.declared.record.Kind.{Kind}
use Rattle.edi_record.specs.declared.record.Kind.TheVariants.{Pno, Par, Pfe, Fea, Lnk}
use Rattle.edi_plan.specs.Joined.{IsJoined}
use Rattle.edi_plan.specs.Places.{places_of, member_of}
use Rattle.edi_plan.specs.Plans.{PlanData, IsPlace, record_at, is_object}
use Rattle.edi_plan.specs.Whole.{IsWholePlan}
use Rattle.edi_plan.proofs.Orders.{points_total}
use Rattle.edi_topo.specs.NodeKeys.{node_key_cmp, node_keys, no_node, IsNodeRanking}
use Rattle.edi_topo.specs.TopologyRules.{BreaksTopologyRule}
use Rattle.edi_topo.proofs.NodeOrders.{node_key_total}
use Rattle.edi_rank.specs.EndOrder.{OthersInOrder}
use Rattle.edi_rank.specs.Laws.{TellsApart}
use Rattle.edi_rank.specs.inner.Pieces.{IsObjectRanking}
use Rattle.edi_rank.specs.Keys.{face_key_cmp, object_key, object_key_cmp}
use Rattle.edi_rank.specs.Labelling.{Labelling, AreLabels, order_of}
use Rattle.edi_topo.specs.Arcs.{forward_keys, IsForwardRanking}
use Rattle.edi_rank.specs.Layers.{face_keys, no_side, number_by, ranked}
use Rattle.edi_rank.specs.inner.Layers.{AreNumbersOf, placed_link_cmp, placed_link_key, LinkSource, IsFaceRanking, IsLinkRanking}
use Rattle.edi_rank.proofs.LabelsMade.{KindLabels, Ranked, ranks_of, kind_labels, lower_ranked, link_or_not, no_link, labels_made}
use Rattle.edi_rank.proofs.LinksApart.{placed_total}
use Rattle.edi_rank.proofs.LowerNumbers.{lower_apart, objects_zero}
use Rattle.edi_rank.proofs.Orders.{face_key_total, object_key_total}
use Rattle.edi_rank.proofs.ObjectsRise.{objects_rise}
use Rattle.edi_rank.proofs.OthersSorted.{no_object}
use Rattle.edi_rank.proofs.Rankings.{ranks_each}
use Rattle.edi_rank.proofs.labels.Labels.of.Goals as goal

pub orders_by_number-requires-clause-nodes : goal.orders_by_number-requires-clause-nodes
orders_by_number-requires-clause-nodes c =
    let p = c.args.sound.now in
    let numbers = c.in_ok-lower.lower.nodes.now in
    subst (λ (q : PlanData). AreNumbersOf q Pno numbers) (sym c.plan-plan.ensures.plan) (record {
      all = c.in_ok-lower.ensures.nodes.all;
      each = ranks_each node_key_cmp node_key_total (λ m. get_or (node_keys p) m no_node) (length (places_of Pno p)) numbers c.in_ok-lower.ensures.nodes;
    })

pub orders_by_number-requires-clause-arcs : goal.orders_by_number-requires-clause-arcs
orders_by_number-requires-clause-arcs c =
    let p = c.args.sound.now in
    let numbers = c.in_ok-lower.lower.arcs.now in
    subst (λ (q : PlanData). AreNumbersOf q Par numbers) (sym c.plan-plan.ensures.plan) (record {
      all = c.in_ok-lower.ensures.arcs.all;
      each = ranks_each points_cmp points_total (λ m. get_or (forward_keys p) m []) (length (places_of Par p)) numbers c.in_ok-lower.ensures.arcs;
    })

pub orders_by_number-requires-clause-faces : goal.orders_by_number-requires-clause-faces
orders_by_number-requires-clause-faces c =
    let p = c.args.sound.now in
    let numbers = c.in_ok-lower.lower.faces in
    subst (λ (q : PlanData). AreNumbersOf q Pfe numbers) (sym c.plan-plan.ensures.plan) (record {
      all = c.in_ok-lower.ensures.faces.all;
      each = ranks_each face_key_cmp face_key_total (λ m. get_or (face_keys p c.in_ok-lower.lower.arcs.now) m no_side) (length (places_of Pfe p)) numbers c.in_ok-lower.ensures.faces;
    })

pub orders_by_number-requires-clause-objects : goal.orders_by_number-requires-clause-objects
orders_by_number-requires-clause-objects c =
    let p = c.args.sound.now in
    let numbers = c.in_ok-below_links.below_links.objects in
    subst (λ (q : PlanData). AreNumbersOf q Fea numbers) (sym c.plan-plan.ensures.plan) (record {
      all = c.in_ok-below_links.ensures.ranks.all;
      each = ranks_each object_key_cmp object_key_total (λ m. object_key p (λ k. get_or c.in_ok-below_objects.below_objects.items k 0) (get_or (places_of Fea p) m 0)) (length (places_of Fea p)) numbers c.in_ok-below_links.ensures.ranks;
    })

pub orders_by_number-requires-clause-links : goal.orders_by_number-requires-clause-links
orders_by_number-requires-clause-links c =
    let p = c.plan-plan.result.now in
    let source : LinkSource = record { plan = p; classes = c.args.schema.now; turned = c.deref-2.result.now; numbers = c.deref-3.result.now } in
    record {
      all = c.in_ok-links.ensures.all;
      each = ranks_each placed_link_cmp placed_total (λ m. placed_link_key source (get_or (places_of Lnk p) m 0)) (length (places_of Lnk p)) c.in_ok-links.links c.in_ok-links.ensures;
    }

pub returns-clause-labels : goal.returns-clause-labels
returns-clause-labels c =
    let p = c.plan-plan.result.now in
    let s = c.args.schema.now in
    let is = c.plan-plan.ensures.plan in
    let whole : IsWholePlan p = subst IsWholePlan (sym is) c.plan-plan.ensures.whole in
    let joined : IsJoined p = subst IsJoined (sym is) c.plan-plan.ensures.joined in
    let sound : IsUnbroken (BreaksTopologyRule p) = subst (λ q. IsUnbroken (BreaksTopologyRule q)) (sym is) c.plan-plan.ensures.sound in
    let lower = c.in_ok-lower.lower in
    let turned = c.in_ok-turned.turned.items in
    let below_objects = c.in_ok-below_objects.below_objects.items in
    let unlinked = c.in_ok-below_links.below_links.numbers.items in
    let others = c.in_ok-below_links.below_links.others.items in
    let objects_ranked = c.in_ok-below_links.below_links.objects in
    let numbered : c.from_vec.result ≡ c.number_kind-numbers.result.items = c.from_vec.ensures in
    let directed : c.from_vec-2.result ≡ turned = c.from_vec-2.ensures in
    let ordered : c.from_vec-3.result ≡ others = c.from_vec-3.ensures in
    let r : Ranked = record { nodes = lower.nodes.now; arcs = lower.arcs.now; faces = lower.faces; objects = objects_ranked; links = c.in_ok-links.links } in
    let l : Labelling = record {
      numbers = c.number_kind-numbers.result.items;
      turned = turned;
      others = others;
      nodes = c.in_ok-orders.orders.nodes;
      arcs = c.in_ok-orders.orders.arcs;
      faces = c.in_ok-orders.orders.faces;
      objects = c.in_ok-orders.orders.objects;
      links = c.in_ok-orders.orders.links;
    } in
    let by_node : IsNodeRanking p lower.nodes.now = subst (λ q. IsNodeRanking q lower.nodes.now) (sym is) c.in_ok-lower.ensures.nodes in
    let by_arc : IsForwardRanking p lower.arcs.now = subst (λ q. IsForwardRanking q lower.arcs.now) (sym is) c.in_ok-lower.ensures.arcs in
    let by_face : IsFaceRanking p lower.arcs.now lower.faces = subst (λ q. IsFaceRanking q lower.arcs.now lower.faces) (sym is) c.in_ok-lower.ensures.faces in
    let source : LinkSource = record { plan = p; classes = s; turned = turned; numbers = unlinked } in
    let by_link : IsLinkRanking source c.in_ok-links.links = subst (λ (l : LinkSource). IsLinkRanking l c.in_ok-links.links)
    (λ i. record { plan = p; classes = s; turned = c.deref-2.ensures.value i; numbers = c.deref-3.ensures.value i }) c.in_ok-links.ensures in
    let by_object : IsObjectRanking (record { plan = p; numbers = below_objects }) objects_ranked = subst (λ (q : PlanData). IsObjectRanking (record { plan = q; numbers = below_objects }) objects_ranked) (sym is) c.in_ok-below_links.ensures.ranks in
    let numbering = c.number_kind-numbers.ensures in
    let named_each : (k : ℕ) → IsPlace p k → (record_at p k).kind ≡ Fea → get_or unlinked k 0 ≡ get_or objects_ranked (member_of p k) 0 =
    subst (λ (q : PlanData). (k : ℕ) → IsPlace q k → (record_at q k).kind ≡ Fea → get_or unlinked k 0 ≡ get_or objects_ranked (member_of q k) 0) (sym is) c.in_ok-below_links.ensures.each in
    let named_rest : (k : ℕ) → IsPlace p k → (record_at p k).kind ≢ Fea → get_or unlinked k 0 ≡ get_or below_objects k 0 =
    subst (λ (q : PlanData). (k : ℕ) → IsPlace q k → (record_at q k).kind ≢ Fea → get_or unlinked k 0 ≡ get_or below_objects k 0) (sym is) c.in_ok-below_links.ensures.rest in
    let in_order : (k : ℕ) → IsPlace p k → OthersInOrder p (λ j. get_or unlinked j 0) others k =
    subst (λ (q : PlanData). (k : ℕ) → IsPlace q k → OthersInOrder q (λ j. get_or unlinked j 0) others k) (sym is) c.in_ok-below_links.ensures.others in
    let ordered_long : length others ≡ length p.list = subst (λ (q : PlanData). length others ≡ length q.list) (sym is) c.in_ok-below_links.ensures.ordered in
    let objects : KindLabels p Fea r.objects l.objects = kind_labels object_key_cmp object_key_total (λ m. object_key p (λ k. get_or below_objects k 0) (get_or (places_of Fea p) m 0)) p Fea r.objects l.objects by_object
    c.in_ok-orders.ensures.objects.all c.in_ok-orders.ensures.objects.each in
    let made : AreLabels s p l = labels_made s p whole joined sound l r unlinked numbering.length c.in_ok-turned.ensures.length c.in_ok-turned.ensures.turned
    (kinds p r l
    (kind_labels node_key_cmp node_key_total (λ m. get_or (node_keys p) m no_node) p Pno lower.nodes.now l.nodes by_node c.in_ok-orders.ensures.nodes.all c.in_ok-orders.ensures.nodes.each)
    (kind_labels points_cmp points_total (λ m. get_or (forward_keys p) m []) p Par lower.arcs.now l.arcs by_arc c.in_ok-orders.ensures.arcs.all c.in_ok-orders.ensures.arcs.each)
    (kind_labels face_key_cmp face_key_total (λ m. get_or (face_keys p lower.arcs.now) m no_side) p Pfe lower.faces l.faces by_face c.in_ok-orders.ensures.faces.all c.in_ok-orders.ensures.faces.each)
    objects
    (kind_labels placed_link_cmp placed_total (λ m. placed_link_key source (get_or (places_of Lnk p) m 0)) p Lnk c.in_ok-links.links l.links by_link c.in_ok-orders.ensures.links.all c.in_ok-orders.ensures.links.each))
    (λ k h. number_is p r l.numbers unlinked below_objects k h (numbering.each k h) (numbering.others k h) (named_each k h) (named_rest k h) (c.in_ok-below_objects.ensures.ranked k h) (link_or_not (record_at p k).kind) (object_or_not (record_at p k).kind))
    (λ k h e. numbering.others k h (no_link (record_at p k).kind e))
    by_node by_arc by_face by_link ordered_long in_order
    (objects_rise s p whole joined l r.objects l.objects below_objects (λ k h e f. numbering.others k h (no_link (record_at p k).kind e) ∙ named_rest k h (no_object (record_at p k).kind f))
    objects (λ k h e. numbering.others k h (λ f. object_link (sym e ∙ f)) ∙ named_each k h e) by_object) in
    let last : Labelling = record { numbers = c.from_vec.result; turned = c.from_vec-2.result; others = c.from_vec-3.result; nodes = l.nodes; arcs = l.arcs; faces = l.faces; objects = l.objects; links = l.links } in
    subst (λ q. AreLabels s q last) is (subst (AreLabels s p) (λ i. record {
      numbers = sym numbered i;
      turned = sym directed i;
      others = sym ordered i;
      nodes = l.nodes;
      arcs = l.arcs;
      faces = l.faces;
      objects = l.objects;
      links = l.links;
    }) made)
  where
    object_link : Fea ≡ Lnk → ⊥
    object_link e = cc

    object_or_not : (kind : Kind) → (kind ≡ Fea) ⊎ (kind ≢ Fea)
    object_or_not Pno = inr (λ e. cc)
    object_or_not Par = inr (λ e. cc)
    object_or_not Pfe = inr (λ e. cc)
    object_or_not Fea = inl refl
    object_or_not Lnk = inr (λ e. cc)

    kinds : (p : PlanData) (r : Ranked) (l : Labelling) → KindLabels p Pno r.nodes l.nodes → KindLabels p Par r.arcs l.arcs → KindLabels p Pfe r.faces l.faces → KindLabels p Fea r.objects l.objects → KindLabels p Lnk r.links l.links
        → (kind : Kind) → KindLabels p kind (ranks_of r kind) (order_of l kind)
    kinds p r l nodes arcs faces objects links Pno = nodes
    kinds p r l nodes arcs faces objects links Par = arcs
    kinds p r l nodes arcs faces objects links Pfe = faces
    kinds p r l nodes arcs faces objects links Fea = objects
    kinds p r l nodes arcs faces objects links Lnk = links

    number_is : (p : PlanData) (r : Ranked) (numbers unlinked below_objects : List ℕ) (k : ℕ) → IsPlace p k
        → ((record_at p k).kind ≡ Lnk → get_or numbers k 0 ≡ get_or r.links (member_of p k) 0) → ((record_at p k).kind ≢ Lnk → get_or numbers k 0 ≡ get_or unlinked k 0)
        → ((record_at p k).kind ≡ Fea → get_or unlinked k 0 ≡ get_or r.objects (member_of p k) 0) → ((record_at p k).kind ≢ Fea → get_or unlinked k 0 ≡ get_or below_objects k 0)
        → get_or below_objects k 0 ≡ number_by r.nodes r.arcs r.faces (record_at p k).kind (member_of p k)
        → ((record_at p k).kind ≡ Lnk) ⊎ ((record_at p k).kind ≢ Lnk) → ((record_at p k).kind ≡ Fea) ⊎ ((record_at p k).kind ≢ Fea)
        → get_or numbers k 0 ≡ get_or (ranks_of r (record_at p k).kind) (member_of p k) 0
    number_is p r numbers unlinked below_objects k h links others objects rest ranked (inl e) either = links e ∙ sym (ap (λ kind. get_or (ranks_of r kind) (member_of p k) 0) e)
    number_is p r numbers unlinked below_objects k h links others objects rest ranked (inr e) (inl f) = others e ∙ (objects f ∙ sym (ap (λ kind. get_or (ranks_of r kind) (member_of p k) 0) f))
    number_is p r numbers unlinked below_objects k h links others objects rest ranked (inr e) (inr f) = others e ∙ (rest f ∙ (ranked ∙ lower_ranked r (record_at p k).kind (member_of p k) e f))

pub number_objects-requires-clause-objects : goal.number_objects-requires-clause-objects
number_objects-requires-clause-objects c =
    let lower = c.in_ok-lower.lower in
    let below_objects = c.in_ok-below_objects.below_objects.items in
    subst (λ (q : PlanData). (k : ℕ) → IsPlace q k → is_object (record_at q k).kind ≡ true → get_or below_objects k 0 ≡ 0) c.plan-plan.ensures.plan
    (objects_zero c.plan-plan.result.now lower.nodes.now lower.arcs.now lower.faces below_objects c.in_ok-below_objects.ensures.ranked)

pub number_objects-requires-clause-apart : goal.number_objects-requires-clause-apart
number_objects-requires-clause-apart c =
    let p = c.plan-plan.result.now in
    let is = c.plan-plan.ensures.plan in
    let lower = c.in_ok-lower.lower in
    let below_objects = c.in_ok-below_objects.below_objects.items in
    subst (λ q. TellsApart q (λ k. get_or below_objects k 0)) is (lower_apart p lower.nodes.now lower.arcs.now lower.faces below_objects
    (subst (λ q. IsNodeRanking q lower.nodes.now) (sym is) c.in_ok-lower.ensures.nodes)
    (subst (λ q. IsForwardRanking q lower.arcs.now) (sym is) c.in_ok-lower.ensures.arcs)
    (subst (λ q. IsFaceRanking q lower.arcs.now lower.faces) (sym is) c.in_ok-lower.ensures.faces) c.in_ok-below_objects.ensures.ranked)

pub number_objects-requires-clause-numbers : goal.number_objects-requires-clause-numbers
number_objects-requires-clause-numbers c = c.in_ok-below_objects.ensures.length ∙ ap (λ (q : PlanData). length q.list) c.plan-plan.ensures.plan

pub link_ranks-requires-clause-numbers : goal.link_ranks-requires-clause-numbers
link_ranks-requires-clause-numbers c = ap length c.deref-3.ensures.value ∙ (c.in_ok-below_links.ensures.length ∙ ap (λ (q : PlanData). length q.list) (sym c.plan-plan.ensures.plan))

pub link_ranks-requires-clause-ordered : goal.link_ranks-requires-clause-ordered
link_ranks-requires-clause-ordered c = ap length c.deref-4.ensures.value ∙ (c.in_ok-below_links.ensures.ordered ∙ ap (λ (q : PlanData). length q.list) (sym c.plan-plan.ensures.plan))

pub link_ranks-requires-clause-orders : goal.link_ranks-requires-clause-orders
link_ranks-requires-clause-orders c =
    let p = c.plan-plan.result.now in
    subst (λ (orders : List (List ℕ)). (k : ℕ) → IsPlace p k → OthersInOrder p (λ j. get_or c.deref-3.result.now j 0) orders k) (sym c.deref-4.ensures.value)
    (subst (λ (numbers : List ℕ). (k : ℕ) → IsPlace p k → OthersInOrder p (λ j. get_or numbers j 0) c.in_ok-below_links.below_links.others.items k) (sym c.deref-3.ensures.value)
    (subst (λ (q : PlanData). (k : ℕ) → IsPlace q k → OthersInOrder q (λ j. get_or c.in_ok-below_links.below_links.numbers.items j 0) c.in_ok-below_links.below_links.others.items k) (sym c.plan-plan.ensures.plan) c.in_ok-below_links.ensures.others))

pub number_kind-numbers-requires-clause-numbers : goal.number_kind-numbers-requires-clause-numbers
number_kind-numbers-requires-clause-numbers c = c.in_ok-below_links.ensures.length ∙ ap (λ (q : PlanData). length q.list) (sym c.plan-plan.ensures.plan)
