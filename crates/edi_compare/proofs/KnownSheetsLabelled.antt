-- That labels are those of a known plan, by computing.
use Rattle.std.proofs.Common.{◌≡◌, ◌∙◌, sym, subst, ap, refl, ℕ, zero, suc, ◌+◌, ◌-◌, Bool, true, false, not, ◌||◌, ◌&&◌, List, [], ◌∷◌, length, Option, Some, None, arith, true≢false, eqb-true}
use Rattle.std.specs.Prelude.{slice_get, nat_eq, nat_lt, nat_le}
use Rattle.std.specs.Option.{option_cmp}
use Rattle.std.specs.Ordering.{is_lt, is_gt}
use Rattle.std.specs.declared.cmp.Ordering.{Ordering}
use Rattle.std.proofs.lemmas.Bool.{ltb-true, lt-ltb, leb-true, not-true, and_parts}
use Rattle.std.proofs.lemmas.Option.{same_Some}
use Rattle.std.proofs.lemmas.List.{nil_from_length}
use Rattle.edi_line.proofs.Truths.{less_is}
use Rattle.edi_record.specs.Orders.{points_cmp}
use Rattle.edi_record.specs.declared.record.Kind.{Kind}
use Rattle.edi_record.specs.declared.record.Kind.TheVariants.{Pno, Par, Pfe, Fea, Lnk}
use Rattle.edi_schema.specs.Classes.{Classes}
use Rattle.edi_plan.specs.Plans.{PlanData, IsPlace, record_at, same_kind, others_of, kind_rank}
use Rattle.edi_plan.proofs.PlaceLemmas.{one_kind}
use Rattle.edi_topo.specs.NodeKeys.{node_key, node_key_cmp}
use Rattle.edi_rank.specs.EndOrder.{OthersInOrder, PutsInOrder, positions_at}
use Rattle.edi_rank.specs.InOrder.{Both, AllRise}
use Rattle.edi_rank.specs.Keys.{link_key_cmp, object_key_cmp, face_key_cmp, link_key, least_side, object_key}
use Rattle.edi_rank.specs.Labelling.{Labelling, AreLabels, number_of, order_of, turned_at, turned_by}
use Rattle.edi_rank.specs.Turned.{is_backward}
use Rattle.edi_rank.proofs.OthersSorted.{few_in_order}
use Rattle.edi_compare.proofs.KnownSheetsTests.{all_below, true_below, is_same, same_said}

-- ---- tests

abbrev is_number : ℕ → Option ℕ → Bool
is_number k None = false
is_number k (Some j) = nat_eq j k

number_said : (k : ℕ) (o : Option ℕ) → is_number k o ≡ true → o ≡ Some k
number_said k None e = absurd (true≢false (sym e))
number_said k (Some j) e = ap Some (eqb-true j k e)

passes : (b c : Bool) → b ≡ true → not b || c ≡ true → c ≡ true
passes true c h e = e
passes false c h e = absurd (true≢false (sym h))

kind_said : (a b : Kind) → same_kind a b ≡ true → a ≡ b
kind_said a b e = one_kind a b (eqb-true (kind_rank a) (kind_rank b) e)

kind_itself : (kind : Kind) → same_kind kind kind ≡ true
kind_itself Pno = refl
kind_itself Par = refl
kind_itself Pfe = refl
kind_itself Fea = refl
kind_itself Lnk = refl

-- ---- the labels of a plan

module _ (s : Classes) (p : PlanData) (l : Labelling) where
  abbrev number : ℕ → ℕ
  number k = number_of l k

  abbrev q : PlanData
  q = turned_by s l p

  -- the records of a type by their numbers, from this number on
  abbrev is_placed : Kind → ℕ → ℕ → Bool
  is_placed kind from k = nat_lt k (length p.list) && (same_kind (record_at p k).kind kind && nat_eq (number k) from)

  abbrev are_placed : Kind → ℕ → List ℕ → Bool
  are_placed kind from [] = true
  are_placed kind from (k ∷ ks) = is_placed kind from k && are_placed kind (from + 1) ks

  placed_at : (kind : Kind) (from : ℕ) (ks : List ℕ) → are_placed kind from ks ≡ true → (i k : ℕ) → slice_get ks i ≡ Some k
      → IsPlace p k × ((record_at p k).kind ≡ kind) × (number k ≡ i + from)
  placed_at kind from [] e i k there = cc
  placed_at kind from (j ∷ ks) e zero k there =
      let here = and_parts (is_placed kind from j) (are_placed kind (from + 1) ks) e in
      let parts : is_placed kind from k ≡ true = subst (λ m. is_placed kind from m ≡ true) (same_Some j k there) here.0 in
      let within = and_parts (nat_lt k (length p.list)) (same_kind (record_at p k).kind kind && nat_eq (number k) from) parts in
      let rest = and_parts (same_kind (record_at p k).kind kind) (nat_eq (number k) from) within.1 in
      let numbered = eqb-true (number k) from rest.1 in
      (ltb-true k (length p.list) within.0, kind_said (record_at p k).kind kind rest.0, omega (arith, numbered))
  placed_at kind from (j ∷ ks) e (suc i) k there =
      let found = placed_at kind (from + 1) ks (and_parts (is_placed kind from j) (are_placed kind (from + 1) ks) e).1 i k there in
      let numbered = found.2 in
      (found.0, found.1, omega (arith, numbered))

  -- of two records of a kind the first has the lesser number
  abbrev is_lesser : Kind → ℕ → ℕ → Bool
  is_lesser kind i k = same_kind (record_at q i).kind kind && (same_kind (record_at q k).kind kind && nat_lt (number i) (number k))

  abbrev rise_all : Kind → (ℕ → ℕ → Bool) → Bool
  rise_all kind test = all_below (length q.list) (λ i. all_below (length q.list) (λ k. not (is_lesser kind i k) || test i k))

  both_lesser : (kind : Kind) (i k : ℕ) → Both q number kind i k → is_lesser kind i k ≡ true
  both_lesser kind i k h =
      ap (λ b. b && (same_kind (record_at q k).kind kind && nat_lt (number i) (number k))) (ap (λ j. same_kind j kind) h.first_kind ∙ kind_itself kind)
      ∙ (ap (λ b. b && nat_lt (number i) (number k)) (ap (λ j. same_kind j kind) h.second_kind ∙ kind_itself kind) ∙ lt-ltb (number i) (number k) h.lesser)

  risen : (kind : Kind) (test : ℕ → ℕ → Bool) → rise_all kind test ≡ true → (i k : ℕ) → Both q number kind i k → test i k ≡ true
  risen kind test e i k h =
      passes (is_lesser kind i k) (test i k) (both_lesser kind i k h)
      (true_below (length q.list) (λ j. not (is_lesser kind i j) || test i j)
      (true_below (length q.list) (λ j. all_below (length q.list) (λ m. not (is_lesser kind j m) || test j m)) e i h.first) k h.second)

  abbrev node_order : ℕ → ℕ → Ordering
  node_order i k = node_key_cmp (node_key (record_at q i)) (node_key (record_at q k))

  abbrev arc_order : ℕ → ℕ → Ordering
  arc_order i k = points_cmp (record_at q i).points (record_at q k).points

  abbrev face_order : ℕ → ℕ → Ordering
  face_order i k = option_cmp face_key_cmp (least_side q number i) (least_side q number k)

  abbrev object_order : ℕ → ℕ → Ordering
  object_order i k = object_key_cmp (object_key q number i) (object_key q number k)

  abbrev link_order : ℕ → ℕ → Ordering
  link_order i k = link_key_cmp (link_key q number (record_at q i)) (link_key q number (record_at q k))

  -- a record has one other end at most, and no positions are given
  abbrev is_short : ℕ → Bool
  is_short k = nat_eq (length (positions_at l.others k)) 0 && nat_lt (length (others_of (record_at p k))) 2

  pub record AreTested : Type 0 where
    pub all_numbered : length l.numbers ≡ length p.list
    pub all_directed : length l.turned ≡ length p.list
    pub all_ordered : length l.others ≡ length p.list
    pub turned : all_below (length p.list) (λ k. is_same (turned_at l.turned k) (is_backward p k)) ≡ true
    pub from_one : all_below (length p.list) (λ k. nat_le 1 (number k)) ≡ true
    pub to_count : all_below (length p.list) (λ k. is_number k (slice_get (order_of l (record_at p k).kind) (number k - 1))) ≡ true
    pub node_places : are_placed Pno 1 l.nodes ≡ true
    pub arc_places : are_placed Par 1 l.arcs ≡ true
    pub face_places : are_placed Pfe 1 l.faces ≡ true
    pub object_places : are_placed Fea 1 l.objects ≡ true
    pub link_places : are_placed Lnk 1 l.links ≡ true
    pub nodes : rise_all Pno (λ i k. is_lt (node_order i k)) ≡ true
    pub arcs : rise_all Par (λ i k. is_lt (arc_order i k)) ≡ true
    pub faces : rise_all Pfe (λ i k. is_lt (face_order i k)) ≡ true
    pub objects : rise_all Fea (λ i k. is_lt (object_order i k)) ≡ true
    pub links : rise_all Lnk (λ i k. not (is_gt (link_order i k))) ≡ true
    pub others : all_below (length p.list) is_short ≡ true

  module _ (e : AreTested) where
    orders_hold : (kind : Kind) (i k : ℕ) → slice_get (order_of l kind) i ≡ Some k → IsPlace p k × ((record_at p k).kind ≡ kind) × (number k ≡ i + 1)
    orders_hold Pno = placed_at Pno 1 l.nodes e.node_places
    orders_hold Par = placed_at Par 1 l.arcs e.arc_places
    orders_hold Pfe = placed_at Pfe 1 l.faces e.face_places
    orders_hold Fea = placed_at Fea 1 l.objects e.object_places
    orders_hold Lnk = placed_at Lnk 1 l.links e.link_places

    all_rise : AllRise q number
    all_rise = record {
      nodes = λ i k both. less_is (node_order i k) (risen Pno (λ i k. is_lt (node_order i k)) e.nodes i k both);
      arcs = λ i k both. less_is (arc_order i k) (risen Par (λ i k. is_lt (arc_order i k)) e.arcs i k both);
      faces = λ i k both. less_is (face_order i k) (risen Pfe (λ i k. is_lt (face_order i k)) e.faces i k both);
      objects = λ i k both. less_is (object_order i k) (risen Fea (λ i k. is_lt (object_order i k)) e.objects i k both);
      links = λ i k both. not-true (is_gt (link_order i k)) (risen Lnk (λ i k. not (is_gt (link_order i k))) e.links i k both);
    }

    others_hold : (k : ℕ) → IsPlace p k → OthersInOrder p number l.others k
    others_hold k h =
        let short = and_parts (nat_eq (length (positions_at l.others k)) 0) (nat_lt (length (others_of (record_at p k))) 2) (true_below (length p.list) is_short e.others k h) in
        subst (λ order. PutsInOrder p number order (others_of (record_at p k))) (sym (nil_from_length (positions_at l.others k) (eqb-true (length (positions_at l.others k)) 0 short.0)))
        (few_in_order p number (others_of (record_at p k)) (ltb-true (length (others_of (record_at p k))) 2 short.1))

    pub labels_as : AreLabels s p l
    labels_as = record {
      all_numbered = e.all_numbered;
      all_directed = e.all_directed;
      all_ordered = e.all_ordered;
      turned = λ k h. same_said (turned_at l.turned k) (is_backward p k) (true_below (length p.list) (λ j. is_same (turned_at l.turned j) (is_backward p j)) e.turned k h);
      from_one = λ k h. leb-true 1 (number k) (true_below (length p.list) (λ j. nat_le 1 (number j)) e.from_one k h);
      to_count = λ k h. number_said k (slice_get (order_of l (record_at p k).kind) (number k - 1))
          (true_below (length p.list) (λ j. is_number j (slice_get (order_of l (record_at p j).kind) (number j - 1))) e.to_count k h);
      orders = orders_hold;
      rise = all_rise;
      others = others_hold;
    }
