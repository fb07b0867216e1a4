-- The order of the records of a plan is the same with its classes renamed, where the renaming rises.
use Rattle.std.proofs.Common.{◌≡◌, ℕ, suc, ◌≤◌, Bool, true, false, cond, ◌&&◌, ◌==◌, List, [], ◌∷◌, map, filter_map, Option, Some, None, option_map, refl, sym, ap, ◌∙◌, subst, Ordering}
use Rattle.std.specs.Prelude.{option_and_then}
use Rattle.std.specs.List.{AllByRecursion}
use Rattle.std.specs.Ordering.{is_gt, nat_cmp, ordering_then}
use Rattle.std.specs.Cmp.Lexicographic.{slice_cmp}
use Rattle.std.specs.Option.{option_cmp}
use Rattle.edi_record.specs.declared.record.Kind.{Kind}
use Rattle.edi_record.specs.Orders.{extra_cmp, point_cmp, text_cmp, value_cmp}
use Rattle.edi_schema.specs.Sorted.{NeverFalls, insert_sorted, sort_by}
use Rattle.edi_plan.specs.Orders.{attribute_cmp}
use Rattle.edi_plan.specs.Plans.{PlanData, IsPlace, is_arc, kind_rank, others_of, record_at, first_of}
use Rattle.edi_plan.specs.declared.record.PlanAttribute.{PlanAttribute}
use Rattle.edi_plan.specs.declared.record.PlanEnd.{PlanEnd}
use Rattle.edi_plan.specs.declared.record.PlanRecord.{PlanRecord}
use Rattle.edi_topo.specs.NodeKeys.{node_key, node_key_cmp}
use Rattle.edi_rank.specs.InOrder.{AllRise, Both, IsInOrder}
use Rattle.edi_rank.specs.Keys.{arc_beside, end_cmp, ends_key, face_key_cmp, least_side, link_key, link_key_cmp, marked, numbered, object_key, object_key_cmp, piece_by, side_by, side_of}
use Rattle.edi_rank.specs.Turned.{is_forward}
use Rattle.edi_rank.specs.declared.keys.FaceKey.{FaceKey}
use Rattle.edi_rank.specs.declared.keys.LinkKey.{LinkKey}
use Rattle.edi_rank.specs.declared.keys.ObjectKey.{ObjectKey}
use Rattle.edi_schema_meaning.proofs.Broken.{piece_in}
use Rattle.edi_schema_meaning.proofs.Renamed.{filter_map-map, kind_at, place_back, place_in, points_at, record_in, renamed, renamed_attribute, renamed_record}

-- ---- lists whose elements compare as before

module _ {X : Type 0} (cmp : X → X → Ordering) (g : X → X) (same : (x y : X) → cmp (g x) (g y) ≡ cmp x y) where
  slices_same : (xs ys : List X) → slice_cmp cmp (map g xs) (map g ys) ≡ slice_cmp cmp xs ys
  slices_same [] [] = refl
  slices_same [] (y ∷ ys) = refl
  slices_same (x ∷ xs) [] = refl
  slices_same (x ∷ xs) (y ∷ ys) = λ i. ordering_then (same x y i) (slices_same xs ys i)

  insert_same : (x : X) (ys : List X) → insert_sorted cmp (g x) (map g ys) ≡ map g (insert_sorted cmp x ys)
  insert_same x [] = refl
  insert_same x (y ∷ ys) = go (is_gt (cmp x y)) (ap is_gt (same x y)) (insert_same x ys)
    where
      go : (b : Bool) → is_gt (cmp (g x) (g y)) ≡ b → insert_sorted cmp (g x) (map g ys) ≡ map g (insert_sorted cmp x ys)
          → cond (is_gt (cmp (g x) (g y))) (g y ∷ insert_sorted cmp (g x) (map g ys)) (g x ∷ g y ∷ map g ys) ≡ map g (cond b (y ∷ insert_sorted cmp x ys) (x ∷ y ∷ ys))
      go true e more = rw e (ap (λ l. g y ∷ l) more)
      go false e more = rw e refl

  sort_same : (xs : List X) → sort_by cmp (map g xs) ≡ map g (sort_by cmp xs)
  sort_same [] = refl
  sort_same (x ∷ xs) = ap (insert_sorted cmp (g x)) (sort_same xs) ∙ insert_same x (sort_by cmp xs)

  above_in : (x : X) (ys : List X) → AllByRecursion (λ y. is_gt (cmp x y) ≡ false) ys → AllByRecursion (λ y. is_gt (cmp (g x) y) ≡ false) (map g ys)
  above_in x [] all = tt
  above_in x (y ∷ ys) all = (ap is_gt (same x y) ∙ all.0, above_in x ys all.1)

  above_back : (x : X) (ys : List X) → AllByRecursion (λ y. is_gt (cmp (g x) y) ≡ false) (map g ys) → AllByRecursion (λ y. is_gt (cmp x y) ≡ false) ys
  above_back x [] all = tt
  above_back x (y ∷ ys) all = (sym (ap is_gt (same x y)) ∙ all.0, above_back x ys all.1)

  falls_in : (xs : List X) → NeverFalls cmp xs → NeverFalls cmp (map g xs)
  falls_in [] h = tt
  falls_in (x ∷ xs) h = (above_in x xs h.0, falls_in xs h.1)

  falls_back : (xs : List X) → NeverFalls cmp (map g xs) → NeverFalls cmp xs
  falls_back [] h = tt
  falls_back (x ∷ xs) h = (above_back x xs h.0, falls_back xs h.1)

module _ (f : ℕ → ℕ) (up : (a b : ℕ) → nat_cmp (f a) (f b) ≡ nat_cmp a b) where
  -- ---- attributes and keys

  attribute_same : (a b : PlanAttribute) → attribute_cmp (renamed_attribute f a) (renamed_attribute f b) ≡ attribute_cmp a b
  attribute_same a b = ap (λ o. ordering_then o (ordering_then (text_cmp a.tex b.tex) (value_cmp a.value b.value))) (up a.atp b.atp)

  attributes_sorted : (xs : List PlanAttribute) → sort_by attribute_cmp (map (renamed_attribute f) xs) ≡ map (renamed_attribute f) (sort_by attribute_cmp xs)
  attributes_sorted xs = sort_same attribute_cmp (renamed_attribute f) attribute_same xs

  attributes_compared : (xs ys : List PlanAttribute) → slice_cmp attribute_cmp (map (renamed_attribute f) xs) (map (renamed_attribute f) ys) ≡ slice_cmp attribute_cmp xs ys
  attributes_compared xs ys = slices_same attribute_cmp (renamed_attribute f) attribute_same xs ys

  -- nodes
  nodes_compared : (a b : PlanRecord) → node_key_cmp (node_key (renamed_record f a)) (node_key (renamed_record f b)) ≡ node_key_cmp (node_key a) (node_key b)
  nodes_compared a b = λ i. ordering_then (point_cmp (node_key a).point (node_key b).point) (ordering_then (up a.class b.class i)
      (ordering_then (sorted_compared a.attributes b.attributes i) (slice_cmp extra_cmp a.extras b.extras)))
    where
      sorted_compared : (xs ys : List PlanAttribute) → slice_cmp attribute_cmp (sort_by attribute_cmp (map (renamed_attribute f) xs)) (sort_by attribute_cmp (map (renamed_attribute f) ys))
          ≡ slice_cmp attribute_cmp (sort_by attribute_cmp xs) (sort_by attribute_cmp ys)
      sorted_compared xs ys = (λ i. slice_cmp attribute_cmp (attributes_sorted xs i) (attributes_sorted ys i)) ∙ attributes_compared (sort_by attribute_cmp xs) (sort_by attribute_cmp ys)

  -- links
  renamed_link : LinkKey → LinkKey
  renamed_link k = record { class = f k.class; ends = k.ends; attributes = map (renamed_attribute f) k.attributes; extras = k.extras }

  links_compared : (a b : LinkKey) → link_key_cmp (renamed_link a) (renamed_link b) ≡ link_key_cmp a b
  unfolding renamed_link
  links_compared a b = λ i. ordering_then (up a.class b.class i) (ordering_then (slice_cmp end_cmp a.ends b.ends)
      (ordering_then (attributes_compared a.attributes b.attributes i) (slice_cmp extra_cmp a.extras b.extras)))

  -- objects
  renamed_object : ObjectKey → ObjectKey
  renamed_object k = record { class = f k.class; attributes = map (renamed_attribute f) k.attributes; extras = k.extras; pieces = map renamed_link k.pieces }

  objects_compared : (a b : ObjectKey) → object_key_cmp (renamed_object a) (renamed_object b) ≡ object_key_cmp a b
  unfolding renamed_object
  objects_compared a b = λ i. ordering_then (up a.class b.class i) (ordering_then (attributes_compared a.attributes b.attributes i)
      (ordering_then (slice_cmp extra_cmp a.extras b.extras) (slices_same link_key_cmp renamed_link links_compared a.pieces b.pieces i)))

  module _ (p : PlanData) (number : ℕ → ℕ) where
    numbered_same : (number : ℕ → ℕ) (e : PlanEnd) → numbered (renamed f p) number e ≡ numbered p number e
    numbered_same number e = λ i. record { kind = kind_at f p e.target i; number = number e.target; sns = e.sns }

    ends_same : (number : ℕ → ℕ) (es : List PlanEnd) → ends_key (renamed f p) number es ≡ ends_key p number es
    ends_same number [] = refl
    ends_same number (origin ∷ others) = λ i. numbered_same number origin i ∷ sort_by end_cmp (map (λ e. numbered_same number e i) others)

    link_same : (number : ℕ → ℕ) (r : PlanRecord) → link_key (renamed f p) number (renamed_record f r) ≡ renamed_link (link_key p number r)
    unfolding renamed_link
    link_same number r = λ i. record { class = f r.class; ends = ends_same number r.ends i; attributes = attributes_sorted r.attributes i; extras = r.extras }

    piece_same : (object : ℕ) (r : PlanRecord) → piece_by (renamed f p) number object (renamed_record f r) ≡ option_map renamed_link (piece_by p number object r)
    piece_same object r = ap (λ b. cond b (Some (link_key (renamed f p) (marked number object) (renamed_record f r))) None) (piece_in f p object r) ∙ go (Rattle.edi_rank.specs.Keys.is_piece p object r)
      where
        go : (b : Bool) → cond b (Some (link_key (renamed f p) (marked number object) (renamed_record f r))) None ≡ option_map renamed_link (cond b (Some (link_key p (marked number object) r)) None)
        go true = ap Some (link_same (marked number object) r)
        go false = refl

    object_same : (object : ℕ) → IsPlace p object → object_key (renamed f p) number object ≡ renamed_object (object_key p number object)
    unfolding renamed_object
    object_same object h =
        let there = record_in f p object h in
        let gathered = filter_map-map (renamed_record f) renamed_link (piece_by (renamed f p) number object) (piece_by p number object) (piece_same object) p.list in
        λ i. record {
          class = (there i).class;
          attributes = ((λ j. sort_by attribute_cmp (there j).attributes) ∙ attributes_sorted (record_at p object).attributes) i;
          extras = (there i).extras;
          pieces = (ap (sort_by link_key_cmp) gathered ∙ sort_same link_key_cmp renamed_link links_compared (filter_map (piece_by p number object) p.list)) i;
        }

    -- faces
    beside_same : (face : ℕ) (es : List PlanEnd) → arc_beside (renamed f p) number face es ≡ arc_beside p number face es
    beside_same face [] = refl
    beside_same face (d ∷ []) = refl
    beside_same face (d ∷ e ∷ []) = λ i.
        cond (is_arc (kind_at f p d.target i) && (e.target == face)) (Some (number d.target))
        (cond (is_arc (kind_at f p e.target i) && (d.target == face)) (Some (number e.target)) None)
    beside_same face (d ∷ e ∷ g ∷ es) = refl

    side_same : (face : ℕ) (r : PlanRecord) → side_by (renamed f p) number face (renamed_record f r) ≡ option_map (λ (k : FaceKey). k) (side_by p number face r)
    side_same face r = ap (λ o. option_and_then (λ side. option_map (λ arc. record { arc = arc; side = side }) o) (side_of r.role)) (beside_same face r.ends) ∙ sym (kept (side_by p number face r))
      where
        kept : (o : Option FaceKey) → option_map (λ (k : FaceKey). k) o ≡ o
        kept None = refl
        kept (Some k) = refl

    face_same : (face : ℕ) → least_side (renamed f p) number face ≡ least_side p number face
    face_same face =
        ap (λ l. first_of (sort_by face_key_cmp l))
        (filter_map-map (renamed_record f) (λ (k : FaceKey). k) (side_by (renamed f p) number face) (side_by p number face) (side_same face) p.list ∙ kept_all (filter_map (side_by p number face) p.list))
      where
        kept_all : (ks : List FaceKey) → map (λ (k : FaceKey). k) ks ≡ ks
        kept_all [] = refl
        kept_all (k ∷ ks) = ap (λ l. k ∷ l) (kept_all ks)

    both_back : (kind : Kind) (i k : ℕ) → Both (renamed f p) number kind i k → Both p number kind i k
    both_back kind i k b = record {
      first = place_back f p i b.first;
      second = place_back f p k b.second;
      first_kind = sym (kind_at f p i) ∙ b.first_kind;
      second_kind = sym (kind_at f p k) ∙ b.second_kind;
      lesser = b.lesser;
    }

    both_in : (kind : Kind) (i k : ℕ) → Both p number kind i k → Both (renamed f p) number kind i k
    both_in kind i k b = record {
      first = place_in f p i b.first;
      second = place_in f p k b.second;
      first_kind = kind_at f p i ∙ b.first_kind;
      second_kind = kind_at f p k ∙ b.second_kind;
      lesser = b.lesser;
    }

    -- the comparisons of two records
    nodes_at : (i k : ℕ) → IsPlace p i → IsPlace p k → node_key_cmp (node_key (record_at (renamed f p) i)) (node_key (record_at (renamed f p) k)) ≡ node_key_cmp (node_key (record_at p i)) (node_key (record_at p k))
    nodes_at i k hi hk = (λ j. node_key_cmp (node_key (record_in f p i hi j)) (node_key (record_in f p k hk j))) ∙ nodes_compared (record_at p i) (record_at p k)

    objects_at : (i k : ℕ) → IsPlace p i → IsPlace p k → object_key_cmp (object_key (renamed f p) number i) (object_key (renamed f p) number k) ≡ object_key_cmp (object_key p number i) (object_key p number k)
    objects_at i k hi hk = (λ j. object_key_cmp (object_same i hi j) (object_same k hk j)) ∙ objects_compared (object_key p number i) (object_key p number k)

    links_at : (i k : ℕ) → IsPlace p i → IsPlace p k → link_key_cmp (link_key (renamed f p) number (record_at (renamed f p) i)) (link_key (renamed f p) number (record_at (renamed f p) k))
        ≡ link_key_cmp (link_key p number (record_at p i)) (link_key p number (record_at p k))
    links_at i k hi hk =
        (λ j. link_key_cmp (link_key (renamed f p) number (record_in f p i hi j)) (link_key (renamed f p) number (record_in f p k hk j)))
        ∙ ((λ j. link_key_cmp (link_same number (record_at p i) j) (link_same number (record_at p k) j)) ∙ links_compared (link_key p number (record_at p i)) (link_key p number (record_at p k)))

    rise_in : AllRise p number → AllRise (renamed f p) number
    rise_in r = record {
      nodes = λ i k b. let c = both_back _ i k b in nodes_at i k c.first c.second ∙ r.nodes i k c;
      arcs = λ i k b. (λ j. Rattle.edi_record.specs.Orders.points_cmp (points_at f p i j) (points_at f p k j)) ∙ r.arcs i k (both_back _ i k b);
      faces = λ i k b. (λ j. option_cmp face_key_cmp (face_same i j) (face_same k j)) ∙ r.faces i k (both_back _ i k b);
      objects = λ i k b. let c = both_back _ i k b in objects_at i k c.first c.second ∙ r.objects i k c;
      links = λ i k b. let c = both_back _ i k b in ap is_gt (links_at i k c.first c.second) ∙ r.links i k c;
    }

    rise_back : AllRise (renamed f p) number → AllRise p number
    rise_back r = record {
      nodes = λ i k c. sym (nodes_at i k c.first c.second) ∙ r.nodes i k (both_in _ i k c);
      arcs = λ i k c. sym (λ j. Rattle.edi_record.specs.Orders.points_cmp (points_at f p i j) (points_at f p k j)) ∙ r.arcs i k (both_in _ i k c);
      faces = λ i k c. sym (λ j. option_cmp face_key_cmp (face_same i j) (face_same k j)) ∙ r.faces i k (both_in _ i k c);
      objects = λ i k c. sym (objects_at i k c.first c.second) ∙ r.objects i k (both_in _ i k c);
      links = λ i k c. sym (ap is_gt (links_at i k c.first c.second)) ∙ r.links i k (both_in _ i k c);
    }

    others_same : (es : List PlanEnd) → map (numbered (renamed f p) number) es ≡ map (numbered p number) es
    others_same es = λ i. map (λ e. numbered_same number e i) es

  pub in_order_in : (p : PlanData) → IsInOrder p → IsInOrder (renamed f p)
  in_order_in p h = record {
    by_type = λ i k less there. subst (λ a. kind_rank a ≤ kind_rank (record_at (renamed f p) k).kind) (sym (kind_at f p i))
        (subst (λ a. kind_rank (record_at p i).kind ≤ kind_rank a) (sym (kind_at f p k)) (h.by_type i k less (place_back f p k there)));
    rise = rise_in p suc h.rise;
    forward = λ i there kind. ap is_forward (points_at f p i) ∙ h.forward i (place_back f p i there) (sym (kind_at f p i) ∙ kind);
    attributes = λ i there. let t = place_back f p i there in
        subst (λ r. NeverFalls attribute_cmp r.attributes) (sym (record_in f p i t)) (falls_in attribute_cmp (renamed_attribute f) attribute_same (record_at p i).attributes (h.attributes i t));
    others = λ i there. let t = place_back f p i there in
        subst (λ r. NeverFalls end_cmp (map (numbered (renamed f p) suc) (others_of r))) (sym (record_in f p i t)) (subst (NeverFalls end_cmp) (sym (others_same p suc (others_of (record_at p i)))) (h.others i t));
  }

  pub in_order_back : (p : PlanData) → IsInOrder (renamed f p) → IsInOrder p
  in_order_back p h = record {
    by_type = λ i k less there. subst (λ a. kind_rank a ≤ kind_rank (record_at p k).kind) (kind_at f p i)
        (subst (λ a. kind_rank (record_at (renamed f p) i).kind ≤ kind_rank a) (kind_at f p k) (h.by_type i k less (place_in f p k there)));
    rise = rise_back p suc h.rise;
    forward = λ i there kind. ap is_forward (sym (points_at f p i)) ∙ h.forward i (place_in f p i there) (kind_at f p i ∙ kind);
    attributes = λ i t. falls_back attribute_cmp (renamed_attribute f) attribute_same (record_at p i).attributes
        (subst (λ r. NeverFalls attribute_cmp r.attributes) (record_in f p i t) (h.attributes i (place_in f p i t)));
    others = λ i t. subst (NeverFalls end_cmp) (others_same p suc (others_of (record_at p i)))
        (subst (λ r. NeverFalls end_cmp (map (numbered (renamed f p) suc) (others_of r))) (record_in f p i t) (h.others i (place_in f p i t)));
  }
