-- What a renaming does not change: the keys, where it preserves the numbers of the layers below.
use Rattle.std.proofs.Common.{◌≡◌, ℕ, ◌+◌, ◌<◌, Bool, true, false, cond, ◌||◌, ◌&&◌, ◌==◌, nat_eq, List, [], ◌∷◌, map, length, filter_map, Option, Some, None, option_map, refl, sym, ap, ap₂, ◌∙◌, subst, arith, ◌⊎◌, inl, inr, IsPermutation, count_by, true≢false, eq-eqb, ne_eqb, eqb-true}
use Rattle.std.specs.List.{list_any, AllByRecursion}
use Rattle.std.proofs.lemmas.Bool.{cases_eq, and_parts}
use Rattle.std.proofs.lemmas.List.Elements.{recursion_from_All, All-from_recursion}
use Rattle.std.proofs.lemmas.List.Sorted.{IsPermutation-map, All-permutation, length_permutation}
use Rattle.edi_line.proofs.EachElement.{each_weaker}
use Rattle.edi_record.specs.declared.record.Kind.{Kind}
use Rattle.edi_record.specs.declared.record.Kind.TheVariants.{Pno, Par, Pfe, Fea, Lnk}
use Rattle.edi_schema.specs.Classes.{Classes}
use Rattle.edi_schema.specs.Sorted.{sort_by}
use Rattle.edi_record.specs.Records.{is_link}
use Rattle.edi_plan.specs.Plans.{PlanData, record_at, blank, kind_rank, is_arc, is_object, first_of, rest_of, origin_of, others_of}
use Rattle.edi_plan.specs.Whole.{IsWholePlan}
use Rattle.edi_plan.specs.declared.record.PlanRecord.{PlanRecord}
use Rattle.edi_plan.specs.declared.record.PlanEnd.{PlanEnd}
use Rattle.edi_rank.specs.Same.{OneToOne, moved, CarriesRecord}
use Rattle.edi_plan.specs.Orders.{attribute_cmp}
use Rattle.edi_rank.specs.Keys.{end_cmp, numbered, ends_key, link_key, link_key_cmp, arc_beside, side_by, face_key_cmp, sides_of, is_piece, marked, piece_by, object_key}
use Rattle.edi_rank.proofs.SameLaws.{list_any-map, passes_alike, map_alike, map-map, none_where_none, ends_moved}
use Rattle.edi_schema.proofs.SortedLists.{counts_from_permutation, count_by-cons, sort_by-same}
use Rattle.edi_rank.proofs.Gathered.{gathered_equal}
use Rattle.edi_plan.proofs.Orders.{attribute_total, attribute_exact}
use Rattle.edi_rank.proofs.Orders.{end_total, end_exact, link_key_total, link_key_exact, face_key_total, face_key_exact}

-- a record that was carried, its class, its role and its points aside
pub record Kept (to : ℕ → ℕ) (a b : PlanRecord) : Type 0 where
  pub kind : b.kind ≡ a.kind
  pub attributes : IsPermutation a.attributes b.attributes
  pub extras : b.extras ≡ a.extras
  pub origin : origin_of b ≡ option_map (moved to) (origin_of a)
  pub others : IsPermutation (map (moved to) (others_of a)) (others_of b)
  pub ends : IsPermutation (map (moved to) a.ends) b.ends

pub kept_from : (s : Classes) (to : ℕ → ℕ) (turned : ℕ → Bool) (i : ℕ) (a b : PlanRecord) → CarriesRecord s to turned i a b → Kept to a b
kept_from s to turned i a b c = record {
  kind = c.kind;
  attributes = c.attributes;
  extras = c.extras;
  origin = c.origin;
  others = c.others;
  ends = ends_moved s to turned i a b c;
}

one_left : {X : Type 0} (x : X) (ys : List X) → IsPermutation (x ∷ []) ys → ys ≡ x ∷ []
one_left x [] same = absurd (omega (arith, length_permutation _ _ same))
one_left x (y ∷ []) same = ap (λ z. z ∷ []) (recursion_from_All (λ z. z ≡ x) (y ∷ []) (All-permutation (λ z. z ≡ x) (x ∷ []) (y ∷ []) same (All-from_recursion (λ z. z ≡ x) (x ∷ []) (refl, tt)))).0
one_left x (y ∷ z ∷ ys) same = absurd (omega (arith, length_permutation _ _ same))

pub count_by-map : {X Y : Type 0} (test : Y → Bool) (f : X → Y) (xs : List X) → count_by test (map f xs) ≡ count_by (λ x. test (f x)) xs
count_by-map test f [] = refl
count_by-map test f (x ∷ xs) = count_by-cons test (f x) (map f xs) ∙ (ap (λ k. cond (test (f x)) 1 0 + k) (count_by-map test f xs) ∙ sym (count_by-cons (λ x. test (f x)) x xs))

pub counted_equal : {X : Type 0} (P : X → Type 0) (t u : X → Bool) → ((x : X) → P x → t x ≡ u x) → (xs : List X) → AllByRecursion P xs → count_by t xs ≡ count_by u xs
counted_equal P t u same [] all = refl
counted_equal P t u same (x ∷ xs) all = count_by-cons t x xs ∙ (rw (same x all.0, counted_equal P t u same xs all.1) (sym (count_by-cons u x xs)))

module _ (p q : PlanData) (ends_there : (i : ℕ) → i < length p.list → AllByRecursion (λ e. e.target < length p.list) (record_at p i).ends)
    (to : ℕ → ℕ) (places : OneToOne to (length p.list) (length q.list))
    (kept : (i : ℕ) → i < length p.list → Kept to (record_at p i) (record_at q (to i))) where
  abbrev pub IsThere : PlanEnd → Type 0
  IsThere x = x.target < length p.list

  pub same_place : (i k : ℕ) → i < length p.list → k < length p.list → nat_eq (to i) (to k) ≡ nat_eq i k
  same_place i k h l = go (cases_eq i k)
    where
      go : (i ≡ k) ⊎ (i ≡ k → ⊥) → nat_eq (to i) (to k) ≡ nat_eq i k
      go (inl e) = eq-eqb (to i) (to k) (ap to e) ∙ sym (eq-eqb i k e)
      go (inr ne) = ne_eqb (to i) (to k) (λ e. ne (places.apart i k h l e)) ∙ sym (ne_eqb i k ne)

  -- links

  module _ (np nq : ℕ → ℕ) where
    abbrev pub IsNumbered : PlanEnd → Type 0
    IsNumbered x = (x.target < length p.list) × (nq (to x.target) ≡ np x.target)

    end_kept : (x : PlanEnd) → IsNumbered x → numbered q nq (moved to x) ≡ numbered p np x
    end_kept x h = ap₂ (λ k m. record { kind = k; number = m; sns = x.sns }) (kept x.target h.0).kind h.1

    pub others_kept : (xs ys : List PlanEnd) → AllByRecursion IsNumbered xs → IsPermutation (map (moved to) xs) ys → sort_by end_cmp (map (numbered q nq) ys) ≡ sort_by end_cmp (map (numbered p np) xs)
    others_kept xs ys all h =
        let e : map (numbered q nq) (map (moved to) xs) ≡ map (numbered p np) xs = map-map (numbered q nq) (moved to) xs ∙ map_alike IsNumbered (λ x. numbered q nq (moved to x)) (numbered p np) end_kept xs all in
        sym (sort_by-same end_cmp end_total end_exact (map (numbered p np) xs) (map (numbered q nq) ys) (counts_from_permutation _ _ (subst (λ zs. IsPermutation zs (map (numbered q nq) ys)) e (IsPermutation-map (numbered q nq) _ _ h))))

    pub ends_kept : (xs ys : List PlanEnd) → AllByRecursion IsNumbered xs → first_of ys ≡ option_map (moved to) (first_of xs) → IsPermutation (map (moved to) (rest_of xs)) (rest_of ys)
        → ends_key q nq ys ≡ ends_key p np xs
    ends_kept [] [] all e h = refl
    ends_kept [] (y ∷ ys) all e h = cc
    ends_kept (x ∷ xs) [] all e h = cc
    ends_kept (x ∷ xs) (y ∷ ys) all e h =
        let same : y ≡ moved to x = cc in
        ap₂ ◌∷◌ (ap (numbered q nq) same ∙ end_kept x all.0) (others_kept xs ys all.1 h)

    pub link_key_preserved : (a b : PlanRecord) → Kept to a b → b.class ≡ a.class → AllByRecursion IsNumbered a.ends → link_key q nq b ≡ link_key p np a
    link_key_preserved a b k class all =
        let x = ends_kept a.ends b.ends all k.origin k.others in
        let t = sym (sort_by-same attribute_cmp attribute_total attribute_exact a.attributes b.attributes (counts_from_permutation _ _ k.attributes)) in
        λ i. record { class = class i; ends = x i; attributes = t i; extras = k.extras i }

    -- faces

    module _ (roles : (i : ℕ) → i < length p.list → (record_at q (to i)).role ≡ (record_at p i).role)
        (arcs : (t : ℕ) → t < length p.list → is_arc (record_at p t).kind ≡ true → nq (to t) ≡ np t) (face : ℕ) (there : face < length p.list) where
      if_arc : (k b : Bool) (m m' : ℕ) (z z' : Option ℕ) → (k ≡ true → m' ≡ m) → z' ≡ z → cond (k && b) (Some m') z' ≡ cond (k && b) (Some m) z
      if_arc true true m m' z z' h e = ap Some (h refl)
      if_arc true false m m' z z' h e = e
      if_arc false b m m' z z' h e = e

      beside_kept : (xs ys : List PlanEnd) → AllByRecursion IsThere xs → first_of ys ≡ option_map (moved to) (first_of xs) → IsPermutation (map (moved to) (rest_of xs)) (rest_of ys)
          → arc_beside q nq (to face) ys ≡ arc_beside p np face xs
      beside_kept [] [] all e h = refl
      beside_kept [] (y ∷ ys) all e h = cc
      beside_kept (x ∷ xs) [] all e h = cc
      beside_kept (x ∷ []) (y ∷ []) all e h = refl
      beside_kept (x ∷ []) (y ∷ z ∷ ys) all e h = absurd (omega (arith, length_permutation _ _ h))
      beside_kept (x ∷ w ∷ xs) (y ∷ []) all e h = absurd (omega (arith, length_permutation _ _ h))
      beside_kept (x ∷ w ∷ v ∷ xs) (y ∷ z ∷ []) all e h = absurd (omega (arith, length_permutation _ _ h))
      beside_kept (x ∷ w ∷ []) (y ∷ z ∷ u ∷ ys) all e h = absurd (omega (arith, length_permutation _ _ h))
      beside_kept (x ∷ w ∷ v ∷ xs) (y ∷ z ∷ u ∷ ys) all e h = refl
      beside_kept (x ∷ w ∷ []) (y ∷ z ∷ []) all e h =
          let first : y ≡ moved to x = cc in
          let both : z ∷ [] ≡ moved to w ∷ [] = one_left (moved to w) (z ∷ []) h in
          let second : z ≡ moved to w = cc in
          rw (first, second, (kept x.target all.0).kind, (kept w.target all.1.0).kind, same_place w.target face all.1.0 there, same_place x.target face all.0 there)
          (if_arc (is_arc (record_at p x.target).kind) (w.target == face) (np x.target) (nq (to x.target)) _ _ (arcs x.target all.0)
          (if_arc (is_arc (record_at p w.target).kind) (x.target == face) (np w.target) (nq (to w.target)) _ _ (arcs w.target all.1.0) refl))

      side_kept : (i : ℕ) → i < length p.list → side_by p np face (record_at p i) ≡ side_by q nq (to face) (record_at q (to i))
      side_kept i h = sym (rw (roles i h, beside_kept (record_at p i).ends (record_at q (to i)).ends (ends_there i h) (kept i h).origin (kept i h).others))

      pub face_key_preserved : sides_of q nq (to face) ≡ sides_of p np face
      face_key_preserved = sym (sort_by-same face_key_cmp face_key_total face_key_exact (filter_map (side_by p np face) p.list) (filter_map (side_by q nq (to face)) q.list)
          (gathered_equal to p.list q.list blank places (side_by p np face) (side_by q nq (to face)) side_kept))

-- where one element passes a test, each element is it or fails
one_passes : {X : Type 0} (P t : X → Bool) → ((x : X) → t x ≡ true → P x ≡ true) → (xs : List X) → count_by P xs ≡ 1 → list_any t xs ≡ true → AllByRecursion (λ x. (t x ≡ true) ⊎ (P x ≡ false)) xs
one_passes P t only [] one any = tt
one_passes {X} P t only (x ∷ xs) one any = go (P x) (t x) refl refl (sym (count_by-cons P x xs) ∙ one) any (one_passes P t only xs) (none_fails xs)
  where
    none_fails : (xs : List X) → count_by P xs ≡ 0 → AllByRecursion (λ x. (t x ≡ true) ⊎ (P x ≡ false)) xs
    none_fails [] none = tt
    none_fails (y ∷ ys) none = first (P y) refl (sym (count_by-cons P y ys) ∙ none) (none_fails ys)
      where
        first : (b : Bool) → P y ≡ b → cond b 1 0 + count_by P ys ≡ 0 → (count_by P ys ≡ 0 → AllByRecursion (λ x. (t x ≡ true) ⊎ (P x ≡ false)) ys) → AllByRecursion (λ x. (t x ≡ true) ⊎ (P x ≡ false)) (y ∷ ys)
        first true e h more = absurd (omega arith)
        first false e h more = (inr e, more (omega arith))

    go : (b c : Bool) → P x ≡ b → t x ≡ c → cond b 1 0 + count_by P xs ≡ 1 → c || list_any t xs ≡ true
        → (count_by P xs ≡ 1 → list_any t xs ≡ true → AllByRecursion (λ x. (t x ≡ true) ⊎ (P x ≡ false)) xs)
        → (count_by P xs ≡ 0 → AllByRecursion (λ x. (t x ≡ true) ⊎ (P x ≡ false)) xs)
        → AllByRecursion (λ x. (t x ≡ true) ⊎ (P x ≡ false)) (x ∷ xs)
    go true true e f h g more none = (inl f, none (omega arith))
    go true false e f h g more none = absurd (true≢false (sym g ∙ none_where_none (λ _. Unit {0}) P t (λ x _ k. only x k) xs (everywhere xs) (omega arith)))
      where
        everywhere : (xs : List X) → AllByRecursion (λ _. Unit {0}) xs
        everywhere [] = tt
        everywhere (y ∷ ys) = (tt, everywhere ys)
    go false true e f h g more none = absurd (true≢false (sym (only x f) ∙ e))
    go false false e f h g more none = (inr e, more (omega arith) g)

pub two_hold : {X : Type 0} (P Q : X → Type 0) (xs : List X) → AllByRecursion P xs → AllByRecursion Q xs → AllByRecursion (λ x. P x × Q x) xs
two_hold P Q [] h g = tt
two_hold P Q (x ∷ xs) h g = ((h.0, g.0), two_hold P Q xs h.1 g.1)

below_object : (k : Kind) → is_link k ≡ false → is_object k ≡ false → kind_rank k < 3
below_object Pno h g = omega arith
below_object Par h g = omega arith
below_object Pfe h g = omega arith
below_object Fea h g = absurd (true≢false g)
below_object Lnk h g = absurd (true≢false h)

module _ (p q : PlanData) (whole : IsWholePlan p) (to : ℕ → ℕ) (places : OneToOne to (length p.list) (length q.list))
    (kept : (i : ℕ) → i < length p.list → Kept to (record_at p i) (record_at q (to i)))
    (np nq : ℕ → ℕ) (below : (t : ℕ) → t < length p.list → kind_rank (record_at p t).kind < 3 → nq (to t) ≡ np t)
    (object : ℕ) (there : object < length p.list) (is : is_object (record_at p object).kind ≡ true)
    (class : (record_at q (to object)).class ≡ (record_at p object).class)
    (classes : (i : ℕ) → i < length p.list → is_piece p object (record_at p i) ≡ true → (record_at q (to i)).class ≡ (record_at p i).class) where
  abbrev object_end : PlanData → PlanEnd → Bool
  object_end plan x = is_object (record_at plan x.target).kind

  same_object : (t : ℕ) → t < length p.list → nat_eq (to t) (to object) ≡ nat_eq t object
  same_object t h = same_place p q whole.there to places kept t object h there

  count_kept : (i : ℕ) → i < length p.list → count_by (object_end q) (record_at q (to i)).ends ≡ count_by (object_end p) ((record_at p i).ends)
  count_kept i h = sym (counts_from_permutation _ _ (kept i h).ends (object_end q)) ∙ (count_by-map (object_end q) (moved to) ((record_at p i).ends)
      ∙ counted_equal (λ (x : PlanEnd). x.target < length p.list) (λ x. object_end q (moved to x)) (object_end p) (λ x l. ap is_object (kept x.target l).kind) ((record_at p i).ends) (whole.there i h))

  any_kept : (i : ℕ) → i < length p.list → list_any (λ x. x.target == to object) (record_at q (to i)).ends ≡ list_any (λ x. x.target == object) ((record_at p i).ends)
  any_kept i h = sym (Rattle.std.proofs.lemmas.List.Sorted.list_any-IsPermutation (λ x. x.target == to object) _ _ (kept i h).ends) ∙ (list_any-map (λ x. x.target == to object) (moved to) ((record_at p i).ends)
      ∙ passes_alike (λ (x : PlanEnd). x.target < length p.list) (λ x. to x.target == to object) (λ x. x.target == object) (λ x l. same_object x.target l) ((record_at p i).ends) (whole.there i h))

  is_piece_kept : (i : ℕ) → i < length p.list → is_piece q (to object) (record_at q (to i)) ≡ is_piece p object (record_at p i)
  is_piece_kept i h = rw ((kept i h).kind, count_kept i h, any_kept i h)

  marked_kept : (t : ℕ) → t < length p.list → (nat_eq t object ≡ true) ⊎ (kind_rank (record_at p t).kind < 3) → marked nq (to object) (to t) ≡ marked np object t
  marked_kept t h (inl e) = rw (same_object t h, e)
  marked_kept t h (inr less) = rw (same_object t h, below t h less)

  piece_ends : (i : ℕ) → i < length p.list → is_piece p object (record_at p i) ≡ true
      → AllByRecursion (λ x. (x.target < length p.list) × (marked nq (to object) (to x.target) ≡ marked np object x.target)) ((record_at p i).ends)
  piece_ends i h piece =
      let parts = and_parts _ _ piece in
      let link = and_parts _ _ parts.0 in
      let one : count_by (object_end p) ((record_at p i).ends) ≡ 1 = eqb-true _ _ link.1 in
      let only = one_passes (object_end p) (λ x. x.target == object) (λ x e. subst (λ t. is_object (record_at p t).kind ≡ true) (sym (eqb-true x.target object e)) is) ((record_at p i).ends) one parts.1 in
      let known = two_hold _ _ _ (whole.there i h) (two_hold _ _ _ (whole.no_link i h) only) in
      each_weaker _ _ (λ x k. (k.0, marked_kept x.target k.0 (narrowed x k.1.0 k.1.1))) ((record_at p i).ends) known
    where
      narrowed : (x : PlanEnd) → is_link (record_at p x.target).kind ≡ false → (nat_eq x.target object ≡ true) ⊎ (is_object (record_at p x.target).kind ≡ false) → (nat_eq x.target object ≡ true) ⊎ (kind_rank (record_at p x.target).kind < 3)
      narrowed x h (inl e) = inl e
      narrowed x h (inr e) = inr (below_object _ h e)

  piece_kept : (i : ℕ) → i < length p.list → piece_by p np object (record_at p i) ≡ piece_by q nq (to object) (record_at q (to i))
  piece_kept i h = sym (rw (is_piece_kept i h) (go (is_piece p object (record_at p i)) refl))
    where
      go : (b : Bool) → is_piece p object (record_at p i) ≡ b → cond b (Some (link_key q (marked nq (to object)) (record_at q (to i)))) None ≡ cond b (Some (link_key p (marked np object) (record_at p i))) None
      go true e = ap Some (link_key_preserved p q whole.there to places kept (marked np object) (marked nq (to object)) (record_at p i) (record_at q (to i)) (kept i h) (classes i h e) (piece_ends i h e))
      go false e = refl

  pub object_key_preserved : object_key q nq (to object) ≡ object_key p np object
  object_key_preserved =
      let k = kept object there in
      let t = sym (sort_by-same attribute_cmp attribute_total attribute_exact (record_at p object).attributes (record_at q (to object)).attributes (counts_from_permutation _ _ k.attributes)) in
      let x = sym (sort_by-same link_key_cmp link_key_total link_key_exact (filter_map (piece_by p np object) p.list) (filter_map (piece_by q nq (to object)) q.list)
      (gathered_equal to p.list q.list blank places (piece_by p np object) (piece_by q nq (to object)) piece_kept)) in
      λ i. record { class = class i; attributes = t i; extras = k.extras i; pieces = x i }
