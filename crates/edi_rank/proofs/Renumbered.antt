-- Numbers that rise by one step for each kind keep the order of keys.
use Rattle.std.proofs.Common.{◌≡◌, ℕ, zero, suc, ◌+◌, ◌<◌, ◌≤◌, ◌⊎◌, inl, inr, Bool, true, false, cond, ◌&&◌, ◌==◌, nat_eq, List, [], ◌∷◌, map, filter_map, Option, Some, None, option_map, option_and_then, refl, sym, ap, ap₂, ◌∙◌, subst, arith, Ordering, Less, Equal, Greater, is_gt, nat_cmp}
use Rattle.std.specs.Cmp.{nat_cmp_is}
use Rattle.std.specs.Cmp.Lexicographic.{slice_cmp}
use Rattle.std.specs.Option.{option_cmp}
use Rattle.std.specs.Ordering.{ordering_then}
use Rattle.std.proofs.lemmas.Bool.{cases_order}
use Rattle.std.proofs.lemmas.Map.Lookups.{exact_unsigned}
use Rattle.edi_line.proofs.EachElement.{each_mapped, each_weaker}
use Rattle.edi_record.specs.Orders.{text_cmp, extra_cmp}
use Rattle.edi_record.specs.declared.record.Kind.{Kind}
use Rattle.edi_record.specs.declared.record.Kind.TheVariants.{Pno, Par, Pfe, Fea, Lnk}
use Rattle.edi_schema.specs.Sorted.{insert_sorted, sort_by, NeverFalls}
use Rattle.edi_schema.specs.declared.role.Role.{Role}
use Rattle.edi_plan.specs.Orders.{attribute_cmp}
use Rattle.edi_plan.specs.Plans.{PlanData, record_at, kind_rank, is_arc, first_of}
use Rattle.edi_plan.specs.declared.record.PlanRecord.{PlanRecord}
use Rattle.edi_plan.specs.declared.record.PlanEnd.{PlanEnd}
use Rattle.edi_plan.proofs.PlaceLemmas.{one_kind}
use Rattle.edi_rank.specs.Keys.{end_cmp, link_key_cmp, object_key_cmp, face_key_cmp, numbered, ends_key, link_key, side_of, arc_beside, side_by, least_side, is_piece, marked, piece_by, object_key}
use Rattle.edi_rank.specs.declared.keys.NumberedEnd.{NumberedEnd}
use Rattle.edi_rank.specs.declared.keys.LinkKey.{LinkKey}
use Rattle.edi_rank.specs.declared.keys.ObjectKey.{ObjectKey}
use Rattle.edi_rank.specs.declared.keys.FaceKey.{FaceKey}
use Rattle.edi_rank.proofs.SameLaws.{map-map}

-- orders

pub then_alike : (o x y : Ordering) → (o ≡ Equal → x ≡ y) → ordering_then o x ≡ ordering_then o y
then_alike Less x y h = refl
then_alike Equal x y h = h refl
then_alike Greater x y h = refl

risen_cmp : (g : ℕ → ℕ) → ((m n : ℕ) → m < n → g m < g n) → (m n : ℕ) → nat_cmp (g m) (g n) ≡ nat_cmp m n
risen_cmp g rises m n = go (cases_order m n)
  where
    go : (m ≡ n) ⊎ ((m < n) ⊎ (n < m)) → nat_cmp (g m) (g n) ≡ nat_cmp m n
    go (inl e) = subst (λ j. nat_cmp (g m) (g j) ≡ nat_cmp m j) e (sym (nat_cmp_is (g m) (g m) Equal refl) ∙ nat_cmp_is m m Equal refl)
    go (inr (inl less)) = sym (nat_cmp_is (g m) (g n) Less (rises m n less)) ∙ nat_cmp_is m n Less less
    go (inr (inr more)) = sym (nat_cmp_is (g m) (g n) Greater (rises n m more)) ∙ nat_cmp_is m n Greater more

-- what keeps an order goes through what is made by it

module _ {X Y : Type 0} (cmp : X → X → Ordering) (cmp' : Y → Y → Ordering) (f : X → Y) (same : (x y : X) → cmp' (f x) (f y) ≡ cmp x y) where
  insert-map : (new : X) (xs : List X) → insert_sorted cmp' (f new) (map f xs) ≡ map f (insert_sorted cmp new xs)
  insert-map new [] = refl
  insert-map new (x ∷ xs) = ap₂ (λ b ys. cond b (f x ∷ ys) (f new ∷ f x ∷ map f xs)) (ap is_gt (same new x)) (insert-map new xs) ∙ step (is_gt (cmp new x))
    where
      step : (b : Bool) → cond b (f x ∷ map f (insert_sorted cmp new xs)) (f new ∷ f x ∷ map f xs) ≡ map f (cond b (x ∷ insert_sorted cmp new xs) (new ∷ x ∷ xs))
      step true = refl
      step false = refl

  pub sort-map : (xs : List X) → sort_by cmp' (map f xs) ≡ map f (sort_by cmp xs)
  sort-map [] = refl
  sort-map (x ∷ xs) = ap (insert_sorted cmp' (f x)) (sort-map xs) ∙ insert-map x (sort_by cmp xs)

  slice-map : (xs ys : List X) → slice_cmp cmp' (map f xs) (map f ys) ≡ slice_cmp cmp xs ys
  slice-map [] [] = refl
  slice-map [] (y ∷ ys) = refl
  slice-map (x ∷ xs) [] = refl
  slice-map (x ∷ xs) (y ∷ ys) = ap₂ ordering_then (same x y) (slice-map xs ys)

  pub never-map : (xs : List X) → NeverFalls cmp xs → NeverFalls cmp' (map f xs)
  never-map [] up = tt
  never-map (x ∷ xs) up =
      (each_mapped (λ y. is_gt (cmp' (f x) y) ≡ false) f xs (each_weaker (λ y. is_gt (cmp x y) ≡ false) (λ y. is_gt (cmp' (f x) (f y)) ≡ false) (λ y h. ap is_gt (same x y) ∙ h) xs up.0), never-map xs up.1)

  option-map : (x y : Option X) → option_cmp cmp' (option_map f x) (option_map f y) ≡ option_cmp cmp x y
  option-map None None = refl
  option-map None (Some y) = refl
  option-map (Some x) None = refl
  option-map (Some x) (Some y) = same x y

-- the number k further on, but 0 stays
abbrev pub shifted : ℕ → ℕ → ℕ
shifted k zero = zero
shifted k (suc n) = k + suc n

pub shifted_is : (k n : ℕ) → 1 ≤ n → shifted k n ≡ k + n
shifted_is k zero h = absurd (omega (arith, h))
shifted_is k (suc n) h = refl

shifted_rises : (k m n : ℕ) → m < n → shifted k m < shifted k n
shifted_rises k m zero h = absurd (omega (arith, h))
shifted_rises k zero (suc n) h = omega arith
shifted_rises k (suc m) (suc n) h = omega (arith, h)

module _ (off : Kind → ℕ) where
  abbrev pub shift : NumberedEnd → NumberedEnd
  shift e = record { kind = e.kind; number = shifted (off e.kind) e.number; sns = e.sns }

  pub shift_cmp : (a b : NumberedEnd) → end_cmp (shift a) (shift b) ≡ end_cmp a b
  shift_cmp a b = then_alike (nat_cmp (kind_rank a.kind) (kind_rank b.kind)) _ _ (λ tie.
      let same : a.kind ≡ b.kind = one_kind a.kind b.kind (exact_unsigned (kind_rank a.kind) (kind_rank b.kind) tie) in
      ap (λ o. ordering_then o (text_cmp a.sns b.sns))
      (ap (λ k. nat_cmp (shifted (off a.kind) a.number) (shifted (off k) b.number)) (sym same) ∙ risen_cmp (shifted (off a.kind)) (shifted_rises (off a.kind)) a.number b.number))

  abbrev pub link_shift : LinkKey → LinkKey
  link_shift k = record { class = k.class; ends = map shift k.ends; attributes = k.attributes; extras = k.extras }

  pub link_shift_cmp : (a b : LinkKey) → link_key_cmp (link_shift a) (link_shift b) ≡ link_key_cmp a b
  link_shift_cmp a b = ap (λ o. ordering_then (nat_cmp a.class b.class) (ordering_then o (ordering_then (slice_cmp attribute_cmp a.attributes b.attributes) (slice_cmp extra_cmp a.extras b.extras))))
      (slice-map end_cmp end_cmp shift shift_cmp a.ends b.ends)

  abbrev pub object_shift : ObjectKey → ObjectKey
  object_shift k = record { class = k.class; attributes = k.attributes; extras = k.extras; pieces = map link_shift k.pieces }

  pub object_shift_cmp : (a b : ObjectKey) → object_key_cmp (object_shift a) (object_shift b) ≡ object_key_cmp a b
  object_shift_cmp a b = ap (λ o. ordering_then (nat_cmp a.class b.class) (ordering_then (slice_cmp attribute_cmp a.attributes b.attributes) (ordering_then (slice_cmp extra_cmp a.extras b.extras) o)))
      (slice-map link_key_cmp link_key_cmp link_shift link_shift_cmp a.pieces b.pieces)

  abbrev pub face_shift : FaceKey → FaceKey
  face_shift k = record { arc = shifted (off Par) k.arc; side = k.side }

  face_shift_cmp : (a b : FaceKey) → face_key_cmp (face_shift a) (face_shift b) ≡ face_key_cmp a b
  face_shift_cmp a b = ap (λ o. ordering_then o (nat_cmp (Rattle.edi_schema.specs.Roles.role_rank a.side) (Rattle.edi_schema.specs.Roles.role_rank b.side))) (risen_cmp (shifted (off Par)) (shifted_rises (off Par)) a.arc b.arc)

  pub faces_shift_cmp : (x y : Option FaceKey) → option_cmp face_key_cmp (option_map face_shift x) (option_map face_shift y) ≡ option_cmp face_key_cmp x y
  faces_shift_cmp = option-map face_key_cmp face_key_cmp face_shift face_shift_cmp

  module _ (p : PlanData) where
    -- the numbers, each further on by the step of its kind
    abbrev pub up : (ℕ → ℕ) → ℕ → ℕ
    up number t = shifted (off (record_at p t).kind) (number t)

    module _ (number : ℕ → ℕ) where
      ends_up : (xs : List PlanEnd) → ends_key p (up number) xs ≡ map shift (ends_key p number xs)
      ends_up [] = refl
      ends_up (x ∷ xs) = ap (λ ys. shift (numbered p number x) ∷ ys)
          (ap (sort_by end_cmp) (sym (map-map shift (numbered p number) xs)) ∙ sort-map end_cmp end_cmp shift shift_cmp (map (numbered p number) xs))

      pub link_up : (r : PlanRecord) → link_key p (up number) r ≡ link_shift (link_key p number r)
      link_up r = let x = ends_up r.ends in λ i. record { class = r.class; ends = x i; attributes = sort_by attribute_cmp r.attributes; extras = r.extras }

    module _ (number : ℕ → ℕ) where
      marked_up : (o t : ℕ) → marked (up number) o t ≡ up (marked number o) t
      marked_up o t = go (nat_eq t o)
        where
          go : (b : Bool) → cond b 0 (shifted (off (record_at p t).kind) (number t)) ≡ shifted (off (record_at p t).kind) (cond b 0 (number t))
          go true = refl
          go false = refl

      piece_up : (o : ℕ) (r : PlanRecord) → link_key p (marked (up number) o) r ≡ link_shift (link_key p (marked number o) r)
      piece_up o r = ap (λ n. link_key p n r) (λ i t. marked_up o t i) ∙ link_up (marked number o) r

      pieces_up : (o : ℕ) (rs : List PlanRecord) → filter_map (piece_by p (up number) o) rs ≡ map link_shift (filter_map (piece_by p number o) rs)
      pieces_up o [] = refl
      pieces_up o (r ∷ rs) = go (is_piece p o r) refl (pieces_up o rs)
        where
          go : (b : Bool) → is_piece p o r ≡ b → filter_map (piece_by p (up number) o) rs ≡ map link_shift (filter_map (piece_by p number o) rs)
              → filter_map (piece_by p (up number) o) (r ∷ rs) ≡ map link_shift (filter_map (piece_by p number o) (r ∷ rs))
          go true e more = rw e (ap₂ ◌∷◌ (piece_up o r) more)
          go false e more = rw e more

      pub object_up : (o : ℕ) → object_key p (up number) o ≡ object_shift (object_key p number o)
      object_up o =
          let x = ap (sort_by link_key_cmp) (pieces_up o p.list) ∙ sort-map link_key_cmp link_key_cmp link_shift link_shift_cmp (filter_map (piece_by p number o) p.list) in
          λ i. record { class = (record_at p o).class; attributes = sort_by attribute_cmp (record_at p o).attributes; extras = (record_at p o).extras; pieces = x i }

      if_arc : (k : Kind) (b : Bool) (m : ℕ) (z z' : Option ℕ) → z' ≡ option_map (shifted (off Par)) z
          → cond (is_arc k && b) (Some (shifted (off k) m)) z' ≡ option_map (shifted (off Par)) (cond (is_arc k && b) (Some m) z)
      if_arc Pno b m z z' e = e
      if_arc Par true m z z' e = refl
      if_arc Par false m z z' e = e
      if_arc Pfe b m z z' e = e
      if_arc Fea b m z z' e = e
      if_arc Lnk b m z z' e = e

      beside_up : (face : ℕ) (xs : List PlanEnd) → arc_beside p (up number) face xs ≡ option_map (shifted (off Par)) (arc_beside p number face xs)
      beside_up face [] = refl
      beside_up face (d ∷ []) = refl
      beside_up face (d ∷ e ∷ []) = if_arc (record_at p d.target).kind (e.target == face) (number d.target) _ _ (if_arc (record_at p e.target).kind (d.target == face) (number e.target) None None refl)
      beside_up face (d ∷ e ∷ f ∷ xs) = refl

      side_up : (face : ℕ) (r : PlanRecord) → side_by p (up number) face r ≡ option_map face_shift (side_by p number face r)
      side_up face r = go (side_of r.role) (arc_beside p (up number) face r.ends) (arc_beside p number face r.ends) (beside_up face r.ends)
        where
          go : (o : Option Role) (x y : Option ℕ) → x ≡ option_map (shifted (off Par)) y
              → option_and_then (λ side. option_map (λ arc. record { arc = arc; side = side }) x) o ≡ option_map face_shift (option_and_then (λ side. option_map (λ arc. record { arc = arc; side = side }) y) o)
          go None x y e = refl
          go (Some side) x None e = rw e refl
          go (Some side) x (Some a) e = rw e refl

      sides_up : (face : ℕ) (rs : List PlanRecord) → filter_map (side_by p (up number) face) rs ≡ map face_shift (filter_map (side_by p number face) rs)
      sides_up face [] = refl
      sides_up face (r ∷ rs) = go (side_by p (up number) face r) (side_by p number face r) refl refl (side_up face r) (sides_up face rs)
        where
          go : (x y : Option FaceKey) → side_by p (up number) face r ≡ x → side_by p number face r ≡ y → side_by p (up number) face r ≡ option_map face_shift (side_by p number face r)
              → filter_map (side_by p (up number) face) rs ≡ map face_shift (filter_map (side_by p number face) rs)
              → filter_map (side_by p (up number) face) (r ∷ rs) ≡ map face_shift (filter_map (side_by p number face) (r ∷ rs))
          go x None e f same more = rw (same, f) more
          go x (Some k) e f same more = rw (same, f) (ap (λ ys. face_shift k ∷ ys) more)

      first-map : (xs : List FaceKey) → first_of (map face_shift xs) ≡ option_map face_shift (first_of xs)
      first-map [] = refl
      first-map (x ∷ xs) = refl

      pub least_up : (face : ℕ) → least_side p (up number) face ≡ option_map face_shift (least_side p number face)
      least_up face = ap first_of (ap (sort_by face_key_cmp) (sides_up face p.list) ∙ sort-map face_key_cmp face_key_cmp face_shift face_shift_cmp (filter_map (side_by p number face) p.list))
          ∙ first-map (sort_by face_key_cmp (filter_map (side_by p number face) p.list))
