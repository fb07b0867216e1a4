-- The labels that the numbers of the layers make.
use Rattle.std.proofs.Common.{◌≡◌, ◌≢◌, ℕ, ◌+◌, ◌-◌, ◌<◌, ◌⊎◌, inl, inr, Bool, true, false, cond, true≢false, ◌&&◌, not, List, [], ◌∷◌, map, length, get_or, Some, refl, sym, ap, ap₂, ◌∙◌, subst, arith, Ordering, Less, Equal, Greater, is_gt}
use Rattle.std.specs.List.{AllByRecursion, slice_get, list_any}
use Rattle.std.specs.Option.{option_cmp}
use Rattle.std.specs.Ordering.{ordering_then}
use Rattle.std.proofs.lemmas.Bool.{cases_order}
use Rattle.std.proofs.lemmas.List.{get_or-map}
use Rattle.std.proofs.lemmas.Option.{slice_get-get_or, get_or_from_slice_get, slice_get_within}
use Rattle.edi_line.specs.Refusal.{IsUnbroken}
use Rattle.edi_line.proofs.EachElement.{each_weaker}
use Rattle.edi_record.specs.Orders.{points_cmp}
use Rattle.edi_record.specs.declared.record.Kind.{Kind}
use Rattle.edi_record.specs.declared.record.Kind.TheVariants.{Pno, Par, Pfe, Fea, Lnk}
use Rattle.edi_schema.specs.Classes.{Classes, partner_of}
use Rattle.edi_schema.specs.Roles.{is_plain}
use Rattle.edi_schema.specs.Sorted.{sort_by}
use Rattle.edi_plan.specs.Joined.{IsJoined}
use Rattle.edi_plan.specs.Places.{places_of, member_of}
use Rattle.edi_record.specs.Records.{is_link}
use Rattle.edi_plan.specs.Plans.{PlanData, IsPlace, record_at, is_arc, others_of}
use Rattle.edi_plan.specs.Whole.{IsWholePlan}
use Rattle.edi_plan.specs.declared.record.PlanRecord.{PlanRecord}
use Rattle.edi_plan.specs.declared.record.PlanEnd.{PlanEnd}
use Rattle.edi_plan.proofs.Orders.{points_total}
use Rattle.edi_plan.proofs.PlaceLemmas.{places_rise, place_there, place_of_kind}
use Rattle.edi_topo.specs.NodeKeys.{node_key, node_keys, node_key_cmp, no_node, no_point, IsNodeRanking}
use Rattle.edi_topo.specs.TopologyRules.{BreaksTopologyRule}
use Rattle.edi_topo.proofs.NodeOrders.{node_key_total}
use Rattle.edi_rank.specs.EndOrder.{OthersInOrder, positions_at}
use Rattle.edi_rank.specs.InOrder.{Both}
use Rattle.edi_rank.specs.Keys.{end_cmp, numbered, ends_key, link_key, link_key_cmp, object_key, object_key_cmp, face_key_cmp, least_side}
use Rattle.edi_rank.specs.Labelling.{Labelling, AreLabels, NumbersEach, number_of, turned_at, turned_by, order_of}
use Rattle.edi_topo.specs.Arcs.{forward_keys, IsForwardRanking}
use Rattle.edi_topo.specs.Directions.{forward}
use Rattle.edi_topo.proofs.FirstArcRepeat.{key_is}
use Rattle.edi_rank.specs.Layers.{face_keys, no_side, ranked}
use Rattle.edi_rank.specs.inner.Layers.{IsFaceRanking, IsLinkRanking, LinkSource, turned_link_key, placed_link_key, placed_link_cmp}
use Rattle.edi_rank.specs.Same.{class_after, directed}
use Rattle.edi_rank.specs.Turned.{is_forward, is_backward, turned_record}
use Rattle.edi_rank.proofs.ArrangedOrder.{no_ends}
use Rattle.edi_rank.proofs.FacesApart.{least_is}
use Rattle.edi_rank.proofs.KeysPreserved.{two_hold}
use Rattle.edi_rank.proofs.LinksApart.{placed_total}
use Rattle.edi_rank.proofs.OthersSorted.{in_order_alike, rest_hold}
use Rattle.edi_rank.proofs.TurnedRecords.{record_turned, turned_place}
use Rattle.edi_rank.proofs.Orders.{face_key_total}
use Rattle.edi_rank.proofs.RankedApart.{place_of_member}
use Rattle.edi_rank.proofs.Rankings.{ranks_each, keys_rise}
use Rattle.edi_rank.proofs.SameLaws.{map_alike}
use Rattle.edi_rank.proofs.Sided.{arc_is, least_equal}

-- the numbers of the members of a kind, and their places by number
pub record KindLabels (p : PlanData) (kind : Kind) (ranks order : List ℕ) : Type 0 where
  pub each : NumbersEach ranks
  pub onto : (i : ℕ) → i < length (places_of kind p) → (m : ℕ) × (m < length (places_of kind p)) × (get_or ranks m 0 ≡ i + 1)
  pub ranks_long : length ranks ≡ length (places_of kind p)
  pub order_long : length order ≡ length (places_of kind p)
  pub placed : (m : ℕ) → m < length (places_of kind p) → get_or order (get_or ranks m 0 - 1) 0 ≡ get_or (places_of kind p) m 0

pub one_member : (kind : Kind) (p : PlanData) (m n : ℕ) → m < length (places_of kind p) → n < length (places_of kind p) → get_or (places_of kind p) m 0 ≡ get_or (places_of kind p) n 0 → m ≡ n
one_member kind p m n h l e = go (cases_order m n)
  where
    go : (m ≡ n) ⊎ ((m < n) ⊎ (n < m)) → m ≡ n
    go (inl same) = same
    go (inr (inl less)) = absurd (omega (arith, e, places_rise kind p m n less l))
    go (inr (inr more)) = absurd (omega (arith, e, places_rise kind p n m more h))

module _ (p : PlanData) (kind : Kind) (ranks order : List ℕ) (of : KindLabels p kind ranks order) where
  pub member_there : (k : ℕ) → IsPlace p k → (record_at p k).kind ≡ kind → (member_of p k < length (places_of kind p)) × (get_or (places_of kind p) (member_of p k) 0 ≡ k)
  member_there k h is = subst (λ kind. (member_of p k < length (places_of kind p)) × (get_or (places_of kind p) (member_of p k) 0 ≡ k)) is (place_of_member p k h)

  order_at : (k : ℕ) → IsPlace p k → (record_at p k).kind ≡ kind → slice_get order (get_or ranks (member_of p k) 0 - 1) ≡ Some k
  order_at k h is =
      let m = member_there k h is in
      let each = of.each in
      slice_get-get_or order (get_or ranks (member_of p k) 0 - 1) 0 (omega (arith, m.0, of.order_long, of.ranks_long, each.from_one (member_of p k) (omega (arith, m.0, of.ranks_long)), each.to_count (member_of p k) (omega (arith, m.0, of.ranks_long))))
      ∙ ap Some (of.placed (member_of p k) m.0 ∙ m.1)

  found_at : (i k : ℕ) → slice_get order i ≡ Some k → IsPlace p k × ((record_at p k).kind ≡ kind) × (get_or ranks (member_of p k) 0 ≡ i + 1)
  found_at i k e =
      let within = slice_get_within order i k e in
      let from = of.onto i (omega (arith, within, of.order_long)) in
      let here : get_or order i 0 ≡ get_or (places_of kind p) from.0 0 = let j : get_or ranks from.0 0 - 1 ≡ i = omega (arith, from.2) in ap (λ n. get_or order n 0) (sym j) ∙ of.placed from.0 from.1 in
      let same : get_or (places_of kind p) from.0 0 ≡ k = sym here ∙ get_or_from_slice_get order i k 0 e in
      let there : IsPlace p k = subst (IsPlace p) same (place_there kind p from.0 from.1) in
      let is : (record_at p k).kind ≡ kind = ap (λ j. (record_at p j).kind) (sym same) ∙ place_of_kind kind p from.0 from.1 in
      let m = member_there k there is in
      let member : member_of p k ≡ from.0 = one_member kind p (member_of p k) from.0 m.0 from.1 (m.1 ∙ sym same) in
      (there, is, ap (λ n. get_or ranks n 0) member ∙ from.2)

not_greater : (o q : Ordering) → ordering_then o q ≡ Less → is_gt o ≡ false
not_greater Less q e = refl
not_greater Equal q e = refl
not_greater Greater q e = cc

-- the numbers of the members of each kind
pub record Ranked : Type 0 where
  pub nodes : List ℕ
  pub arcs : List ℕ
  pub faces : List ℕ
  pub objects : List ℕ
  pub links : List ℕ

abbrev pub ranks_of : Ranked → Kind → List ℕ
ranks_of r Pno = r.nodes
ranks_of r Par = r.arcs
ranks_of r Pfe = r.faces
ranks_of r Fea = r.objects
ranks_of r Lnk = r.links

module _ (s : Classes) (p : PlanData) (whole : IsWholePlan p) (joined : IsJoined p) (sound : IsUnbroken (BreaksTopologyRule p)) (l : Labelling) (r : Ranked) (unlinked : List ℕ)
    (all_numbered : length l.numbers ≡ length p.list) (all_directed : length l.turned ≡ length p.list) (directions : (k : ℕ) → IsPlace p k → turned_at l.turned k ≡ is_backward p k)
    (kinds : (kind : Kind) → KindLabels p kind (ranks_of r kind) (order_of l kind))
    (numbers : (k : ℕ) → IsPlace p k → number_of l k ≡ get_or (ranks_of r (record_at p k).kind) (member_of p k) 0)
    (lower : (k : ℕ) → IsPlace p k → is_link (record_at p k).kind ≡ false → number_of l k ≡ get_or unlinked k 0)
    (by_node : IsNodeRanking p r.nodes) (by_arc : IsForwardRanking p r.arcs) (by_face : IsFaceRanking p r.arcs r.faces)
    (by_link : IsLinkRanking (record { plan = p; classes = s; turned = l.turned; numbers = unlinked }) r.links)
    (all_ordered : length l.others ≡ length p.list) (in_order : (k : ℕ) → IsPlace p k → OthersInOrder p (λ j. get_or unlinked j 0) l.others k) where
  abbrev made : PlanData
  made = turned_by s l p

  abbrev source : LinkSource
  source = record { plan = p; classes = s; turned = l.turned; numbers = unlinked }

  there_before : (k : ℕ) → IsPlace made k → IsPlace p k
  there_before k h = turned_place (partner_of s) (turned_at l.turned) p k h

  after : (k : ℕ) → IsPlace p k → record_at made k ≡ turned_record (partner_of s) (turned_at l.turned) k (record_at p k)
  after k h = record_turned (partner_of s) (turned_at l.turned) p k h

  kind_made : (k : ℕ) → IsPlace p k → (record_at made k).kind ≡ (record_at p k).kind
  kind_made k h = ap (λ (r : PlanRecord). r.kind) (after k h)

  number_is : (kind : Kind) (k : ℕ) → IsPlace p k → (record_at p k).kind ≡ kind → number_of l k ≡ get_or (ranks_of r kind) (member_of p k) 0
  number_is kind k h is = numbers k h ∙ ap (λ kind. get_or (ranks_of r kind) (member_of p k) 0) is

  module _ (i k : ℕ) (kind : Kind) (both : Both made (number_of l) kind i k) where
    first_there : IsPlace p i
    first_there = there_before i both.first

    second_there : IsPlace p k
    second_there = there_before k both.second

    first_is : (record_at p i).kind ≡ kind
    first_is = sym (kind_made i first_there) ∙ both.first_kind

    second_is : (record_at p k).kind ≡ kind
    second_is = sym (kind_made k second_there) ∙ both.second_kind

    lesser : get_or (ranks_of r kind) (member_of p i) 0 < get_or (ranks_of r kind) (member_of p k) 0
    lesser = omega (arith, both.lesser, number_is kind i first_there first_is, number_is kind k second_there second_is)

  -- the member of a kind that a record is, and its place

  member : (kind : Kind) (k : ℕ) → IsPlace p k → (record_at p k).kind ≡ kind → (member_of p k < length (places_of kind p)) × (get_or (places_of kind p) (member_of p k) 0 ≡ k)
  member kind k h is = member_there p kind (ranks_of r kind) (order_of l kind) (kinds kind) k h is

  -- nodes

  node_stays : (k : ℕ) → IsPlace p k → (record_at p k).kind ≡ Pno → get_or (node_keys p) (member_of p k) no_node ≡ node_key (record_at made k)
  node_stays k h is =
      let m = member Pno k h is in
      get_or-map (λ k. node_key (record_at p k)) (places_of Pno p) (member_of p k) 0 no_node m.0
      ∙ (ap (λ k. node_key (record_at p k)) m.1 ∙ (sym same ∙ sym (ap node_key (after k h))))
    where
      class : class_after (partner_of s) (turned_at l.turned) (record_at p k) ≡ (record_at p k).class
      class = go (record_at p k).ends (no_ends (record_at p k) is (whole.ends k h)) (is_plain (record_at p k).role)
        where
          go : (xs : List PlanEnd) → xs ≡ [] → (b : Bool) → cond b (record_at p k).class (cond (list_any (λ (x : PlanEnd). turned_at l.turned x.target) xs) (partner_of s (record_at p k).class) (record_at p k).class) ≡ (record_at p k).class
          go [] e true = refl
          go [] e false = refl
          go (x ∷ xs) e b = cc

      points : directed (turned_at l.turned k) (record_at p k).points ≡ (record_at p k).points
      points = ap (λ t. directed t (record_at p k).points) (directions k h ∙ ap (λ kind. is_arc kind && not (is_forward (record_at p k).points)) is)

      same : node_key (turned_record (partner_of s) (turned_at l.turned) k (record_at p k)) ≡ node_key (record_at p k)
      same = λ j. record { point = get_or (points j) 0 no_point; class = class j; attributes = (node_key (record_at p k)).attributes; extras = (record_at p k).extras }

  nodes_rise : (i k : ℕ) → Both made (number_of l) Pno i k → node_key_cmp (node_key (record_at made i)) (node_key (record_at made k)) ≡ Less
  nodes_rise i k both =
      let h = first_there i k Pno both in
      let g = second_there i k Pno both in
      let first = first_is i k Pno both in
      let second = second_is i k Pno both in
      ap₂ node_key_cmp (sym (node_stays i h first)) (sym (node_stays k g second))
      ∙ keys_rise node_key_cmp node_key_total (λ m. get_or (node_keys p) m no_node) (length (places_of Pno p)) r.nodes by_node (member_of p i) (member_of p k) (member Pno i h first).0 (member Pno k g second).0 (lesser i k Pno both)

  -- arcs

  arc_stays : (k : ℕ) → IsPlace p k → (record_at p k).kind ≡ Par → get_or (forward_keys p) (member_of p k) [] ≡ (record_at made k).points
  arc_stays k h is =
      let m = member Par k h is in
      key_is p (member_of p k) m.0 ∙ (ap (λ k. forward (record_at p k).points) m.1 ∙ (sym (ap (λ kind. directed (is_arc kind && not (is_forward (record_at p k).points)) (record_at p k).points) is)
      ∙ (sym (ap (λ t. directed t (record_at p k).points) (directions k h)) ∙ sym (ap (λ (r : PlanRecord). r.points) (after k h)))))

  arcs_rise : (i k : ℕ) → Both made (number_of l) Par i k → points_cmp (record_at made i).points (record_at made k).points ≡ Less
  arcs_rise i k both =
      let h = first_there i k Par both in
      let g = second_there i k Par both in
      let first = first_is i k Par both in
      let second = second_is i k Par both in
      ap₂ points_cmp (sym (arc_stays i h first)) (sym (arc_stays k g second))
      ∙ keys_rise points_cmp points_total (λ m. get_or (forward_keys p) m []) (length (places_of Par p)) r.arcs by_arc (member_of p i) (member_of p k) (member Par i h first).0 (member Par k g second).0 (lesser i k Par both)

  -- faces

  face_stays : (k : ℕ) → IsPlace p k → (record_at p k).kind ≡ Pfe → least_side made (number_of l) k ≡ Some (get_or (face_keys p r.arcs) (member_of p k) no_side)
  face_stays k h is =
      let m = member Pfe k h is in
      let arcs = kinds Par in
      least_equal p whole joined (partner_of s) (λ c. c) (turned_at l.turned) (is_backward p) directions (λ j g. refl) (number_of l) (ranked p [] r.arcs []) (λ j g e.
      let par = arc_is (record_at p j).kind e in
      number_is Par j g par ∙ sym (ap (λ kind. Rattle.edi_rank.specs.Layers.number_by [] r.arcs [] kind (member_of p j)) par)) k
      ∙ (ap (least_side (Rattle.edi_rank.specs.Layers.forward_plan p) (ranked p [] r.arcs [])) (sym m.1) ∙ least_is p whole joined r.arcs arcs.each arcs.ranks_long sound (member_of p k) m.0)

  faces_rise : (i k : ℕ) → Both made (number_of l) Pfe i k → option_cmp face_key_cmp (least_side made (number_of l) i) (least_side made (number_of l) k) ≡ Less
  faces_rise i k both =
      let h = first_there i k Pfe both in
      let g = second_there i k Pfe both in
      let first = first_is i k Pfe both in
      let second = second_is i k Pfe both in
      ap₂ (option_cmp face_key_cmp) (face_stays i h first) (face_stays k g second)
      ∙ keys_rise face_key_cmp face_key_total (λ m. get_or (face_keys p r.arcs) m no_side) (length (places_of Pfe p)) r.faces by_face (member_of p i) (member_of p k) (member Pfe i h first).0 (member Pfe k g second).0 (lesser i k Pfe both)

  -- links

  abbrev BelowLinks : PlanEnd → Type 0
  BelowLinks e = IsPlace p e.target × (is_link (record_at p e.target).kind ≡ false)

  end_stays : (e : PlanEnd) → BelowLinks e → numbered p (λ k. get_or unlinked k 0) e ≡ numbered made (number_of l) e
  end_stays e h = ap₂ (λ kind n. record { kind = kind; number = n; sns = e.sns }) (sym (kind_made e.target h.0)) (sym (lower e.target h.0 h.1))

  ends_stay : (ends : List PlanEnd) → AllByRecursion BelowLinks ends → ends_key p (λ k. get_or unlinked k 0) ends ≡ ends_key made (number_of l) ends
  ends_stay [] all = refl
  ends_stay (e ∷ ends) all = ap₂ ◌∷◌ (end_stays e all.0) (ap (sort_by end_cmp) (map_alike BelowLinks (numbered p (λ k. get_or unlinked k 0)) (numbered made (number_of l)) end_stays ends all.1))

  ends_named : (k : ℕ) → IsPlace p k → AllByRecursion BelowLinks (record_at p k).ends
  ends_named k h = two_hold (λ e. IsPlace p e.target) (λ e. is_link (record_at p e.target).kind ≡ false) (record_at p k).ends (whole.there k h) (whole.no_link k h)

  link_stays : (k : ℕ) → IsPlace p k → turned_link_key source k ≡ link_key made (number_of l) (record_at made k)
  link_stays k h =
      let ends = ends_stay (record_at p k).ends (ends_named k h) in
      let own = turned_link_key source k in
      let same : own ≡ link_key made (number_of l) (turned_record (partner_of s) (turned_at l.turned) k (record_at p k)) = λ i. record { class = own.class; ends = ends i; attributes = own.attributes; extras = own.extras } in
      same ∙ sym (ap (link_key made (number_of l)) (after k h))

  links_rise : (i k : ℕ) → Both made (number_of l) Lnk i k → is_gt (link_key_cmp (link_key made (number_of l) (record_at made i)) (link_key made (number_of l) (record_at made k))) ≡ false
  links_rise i k both =
      let h = first_there i k Lnk both in
      let g = second_there i k Lnk both in
      let first = first_is i k Lnk both in
      let second = second_is i k Lnk both in
      let less = keys_rise placed_link_cmp placed_total (λ m. placed_link_key source (get_or (places_of Lnk p) m 0)) (length (places_of Lnk p)) r.links by_link (member_of p i) (member_of p k)
      (member Lnk i h first).0 (member Lnk k g second).0 (lesser i k Lnk both) in
      ap is_gt (ap₂ link_key_cmp (sym (link_stays i h)) (sym (link_stays k g)))
      ∙ not_greater (link_key_cmp (turned_link_key source i) (turned_link_key source k)) (Rattle.std.proofs.Common.nat_cmp i k)
      (subst (λ j. placed_link_cmp (placed_link_key source i) (placed_link_key source j) ≡ Less) (member Lnk k g second).1
      (subst (λ j. placed_link_cmp (placed_link_key source j) (placed_link_key source (get_or (places_of Lnk p) (member_of p k) 0)) ≡ Less) (member Lnk i h first).1 less))

  -- other ends

  others_ordered : (k : ℕ) → IsPlace p k → OthersInOrder p (number_of l) l.others k
  others_ordered k h = in_order_alike p (λ j. get_or unlinked j 0) (number_of l) (positions_at l.others k) (others_of (record_at p k))
      (each_weaker BelowLinks (λ e. get_or unlinked e.target 0 ≡ number_of l e.target) (λ e below_links. sym (lower e.target below_links.0 below_links.1)) (others_of (record_at p k)) (rest_hold BelowLinks (record_at p k).ends (ends_named k h)))
      (in_order k h)

  pub labels_made : ((i k : ℕ) → Both made (number_of l) Fea i k → object_key_cmp (object_key made (number_of l) i) (object_key made (number_of l) k) ≡ Less) → AreLabels s p l
  labels_made objects_rise = record {
    all_numbered = all_numbered;
    all_directed = all_directed;
    all_ordered = all_ordered;
    turned = directions;
    from_one = λ k h.
        let of = kinds (record_at p k).kind in
        let each = of.each in
        let m = member (record_at p k).kind k h refl in
        omega (arith, numbers k h, each.from_one (member_of p k) (omega (arith, m.0, of.ranks_long)));
    to_count = λ k h. ap (λ n. slice_get (order_of l (record_at p k).kind) (n - 1)) (numbers k h) ∙ order_at p (record_at p k).kind (ranks_of r (record_at p k).kind) (order_of l (record_at p k).kind) (kinds (record_at p k).kind) k h refl;
    orders = λ kind i k e. let at = found_at p kind (ranks_of r kind) (order_of l kind) (kinds kind) i k e in (at.0, at.1, number_is kind k at.0 at.1 ∙ at.2);
    rise = record { nodes = nodes_rise; arcs = arcs_rise; faces = faces_rise; objects = objects_rise; links = links_rise };
    others = others_ordered;
  }

-- a kind that is ranked

pub kind_labels : {K : Type 0} (cmp : K → K → Ordering) → Rattle.std.specs.Cmp.IsTotalOrder cmp → (key : ℕ → K) (p : PlanData) (kind : Kind) (ranks order : List ℕ)
    → Rattle.edi_topo.specs.Ranking.IsRanking cmp key (length (places_of kind p)) ranks → length order ≡ length (places_of kind p)
    → ((m : ℕ) → m < length (places_of kind p) → get_or order (get_or ranks m 0 - 1) 0 ≡ get_or (places_of kind p) m 0) → KindLabels p kind ranks order
kind_labels cmp total key p kind ranks order ranking long placed = record {
  each = ranks_each cmp total key (length (places_of kind p)) ranks ranking;
  onto = ranking.onto;
  ranks_long = ranking.all;
  order_long = long;
  placed = placed;
}

-- the numbers below those of links are the ranked ones
pub lower_ranked : (r : Ranked) (kind : Kind) (m : ℕ) → kind ≢ Lnk → kind ≢ Fea → Rattle.edi_rank.specs.Layers.number_by r.nodes r.arcs r.faces kind m ≡ get_or (ranks_of r kind) m 0
lower_ranked r Pno m link object = refl
lower_ranked r Par m link object = refl
lower_ranked r Pfe m link object = refl
lower_ranked r Fea m link object = absurd (object refl)
lower_ranked r Lnk m link object = absurd (link refl)

pub link_or_not : (kind : Kind) → (kind ≡ Lnk) ⊎ (kind ≢ Lnk)
link_or_not Pno = inr (λ e. cc)
link_or_not Par = inr (λ e. cc)
link_or_not Pfe = inr (λ e. cc)
link_or_not Fea = inr (λ e. cc)
link_or_not Lnk = inl refl

pub no_link : (kind : Kind) → is_link kind ≡ false → kind ≢ Lnk
no_link Pno h e = cc
no_link Par h e = cc
no_link Pfe h e = cc
no_link Fea h e = cc
no_link Lnk h e = true≢false h
