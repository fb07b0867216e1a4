-- The keys of two objects are equal exactly if the objects are equal.
use Rattle.std.proofs.Common.{◌≡◌, ℕ, ◌+◌, ◌-◌, ◌<◌, Bool, true, false, cond, true≢false, ◌==◌, nat_eq, List, [], ◌∷◌, map, filter_map, Option, Some, None, option_map, refl, sym, ap, ap₂, ◌∙◌, subst, arith, IsPermutation, count_by, eqb-true, Ordering}
use Rattle.std.specs.Cmp.{IsTotalOrder}
use Rattle.std.specs.List.{AllByRecursion, AllZip, list_any, slice_get}
use Rattle.std.proofs.lemmas.List.Sorted.{IsPermutation-refl, IsPermutation-sym, IsPermutation-trans, IsPermutation-map}
use Rattle.edi_line.proofs.EachElement.{each_in_any_order, each_mapped, each_weaker, each_from_places}
use Rattle.edi_record.specs.declared.record.Kind.{Kind}
use Rattle.edi_record.specs.declared.record.Kind.TheVariants.{Pno, Par, Pfe, Fea, Lnk}
use Rattle.edi_schema.specs.Sorted.{sort_by}
use Rattle.edi_schema.proofs.SortedLists.{sort_by-same, IsPermutation-sort_by, counts_from_permutation, count_by-cons, SameCounts}
use Rattle.edi_plan.specs.Orders.{attribute_cmp}
use Rattle.edi_record.specs.Records.{is_link}
use Rattle.edi_plan.specs.Plans.{PlanData, IsPlace, record_at, blank, kind_rank, is_object, first_of, rest_of}
use Rattle.edi_plan.specs.Whole.{IsWholePlan}
use Rattle.edi_plan.specs.declared.record.PlanRecord.{PlanRecord}
use Rattle.edi_plan.specs.declared.record.PlanEnd.{PlanEnd}
use Rattle.edi_plan.proofs.Orders.{attribute_total, attribute_exact}
use Rattle.edi_rank.specs.EqualObjects.{EndMark, end_mark, Piece, piece, pieces, SamePiece, SameUpTo, AreEqualObjects}
use Rattle.edi_rank.specs.Keys.{end_cmp, link_key_cmp, numbered, ends_key, link_key, is_piece, marked, piece_by, object_key}
use Rattle.edi_schema.specs.Classes.{Classes}
use Rattle.edi_rank.specs.Labelling.{Labelling, AreLabels, order_of, number_of}
use Rattle.edi_rank.specs.Laws.{TellsApart}
use Rattle.edi_rank.specs.declared.keys.NumberedEnd.{NumberedEnd}
use Rattle.edi_rank.specs.declared.keys.LinkKey.{LinkKey}
use Rattle.edi_rank.specs.declared.keys.ObjectKey.{ObjectKey}
use Rattle.edi_rank.proofs.KeysPreserved.{two_hold}
use Rattle.edi_rank.proofs.ObjectsPreserved.{all_three}
use Rattle.edi_rank.proofs.Orders.{end_total, end_exact, link_key_total, link_key_exact}
use Rattle.edi_rank.proofs.UpTo.{zip_moved}

-- lists

zip_equal : {X Y : Type 0} (f : X → Y) (xs ys : List X) → AllZip (λ x y. f x ≡ f y) xs ys → map f xs ≡ map f ys
zip_equal f [] [] h = refl
zip_equal f [] (y ∷ ys) h = absurd h
zip_equal f (x ∷ xs) [] h = absurd h
zip_equal f (x ∷ xs) (y ∷ ys) h = ap₂ ◌∷◌ h.0 (zip_equal f xs ys h.1)

zip_weaker : {X : Type 0} (R S : X → X → Type 0) → ((x y : X) → R x y → S x y) → (xs ys : List X) → AllZip R xs ys → AllZip S xs ys
zip_weaker R S each [] [] h = h
zip_weaker R S each [] (y ∷ ys) h = absurd h
zip_weaker R S each (x ∷ xs) [] h = absurd h
zip_weaker R S each (x ∷ xs) (y ∷ ys) h = (each x y h.0, zip_weaker R S each xs ys h.1)

zip_own : {X Y : Type 0} (f : X → Y) (xs : List X) → AllZip (λ y x. y ≡ f x) (map f xs) xs
zip_own f [] = tt
zip_own f (x ∷ xs) = (refl, zip_own f xs)

zip_known : {X Y : Type 0} (f : X → Y) (P : X → Type 0) (R : X → X → Type 0) → ((x y : X) → P x → P y → f x ≡ f y → R x y) → (xs ys : List X) → AllByRecursion P xs → AllByRecursion P ys
    → AllZip (λ y x. y ≡ f x) (map f xs) ys → AllZip R xs ys
zip_known f P R key [] [] all all' h = tt
zip_known f P R key [] (y ∷ ys) all all' h = absurd h
zip_known f P R key (x ∷ xs) [] all all' h = absurd h
zip_known f P R key (x ∷ xs) (y ∷ ys) all all' h = (key x y all.0 all'.0 h.0, zip_known f P R key xs ys all.1 all'.1 h.1)

zip_one : {X : Type 0} (xs ys : List X) → AllZip (λ x y. x ≡ y) xs ys → xs ≡ ys
zip_one [] [] h = refl
zip_one [] (y ∷ ys) h = absurd h
zip_one (x ∷ xs) [] h = absurd h
zip_one (x ∷ xs) (y ∷ ys) h = ap₂ ◌∷◌ h.0 (zip_one xs ys h.1)

-- what f tells apart goes back from the order of what f makes
known_up_to : {X Y : Type 0} (f : X → Y) (P : X → Type 0) (R : X → X → Type 0) → ((x y : X) → P x → P y → f x ≡ f y → R x y) → (xs ys : List X) → AllByRecursion P xs → AllByRecursion P ys
    → IsPermutation (map f ys) (map f xs) → SameUpTo R xs ys
known_up_to {X} {Y} f P R key xs ys all all' same =
    let w = zip_moved (λ (y : Y) (x : X). y ≡ f x) (map f ys) (map f xs) ys same (zip_own f ys) in
    (w.0, w.1, zip_known f P R key xs w.0 all (each_in_any_order P ys w.0 w.1 all') w.2)

permuted_back : {X Y : Type 0} (f : X → Y) (P : X → Type 0) → ((x y : X) → P x → P y → f x ≡ f y → x ≡ y) → (xs ys : List X) → AllByRecursion P xs → AllByRecursion P ys
    → IsPermutation (map f xs) (map f ys) → IsPermutation xs ys
permuted_back f P one xs ys all all' same =
    let w = known_up_to f P (λ x y. x ≡ y) one ys xs all' all same in
    subst (IsPermutation xs) (sym (zip_one ys w.0 w.2)) w.1

sorted_back : {X : Type 0} (cmp : X → X → Ordering) → IsTotalOrder cmp → (xs ys : List X) → sort_by cmp xs ≡ sort_by cmp ys → IsPermutation xs ys
sorted_back cmp total xs ys e =
    IsPermutation-trans xs (sort_by cmp xs) ys (IsPermutation-sym _ _ (IsPermutation-sort_by cmp total xs)) (subst (λ zs. IsPermutation zs ys) (sym e) (IsPermutation-sort_by cmp total ys))

none_pass : {X : Type 0} (t : X → Bool) (xs : List X) → count_by t xs ≡ 0 → AllByRecursion (λ x. t x ≡ false) xs
none_pass t [] none = tt
none_pass t (x ∷ xs) none = go (t x) refl (sym (count_by-cons t x xs) ∙ none) (none_pass t xs)
  where
    go : (b : Bool) → t x ≡ b → cond b 1 0 + count_by t xs ≡ 0 → (count_by t xs ≡ 0 → AllByRecursion (λ x. t x ≡ false) xs) → (t x ≡ false) × AllByRecursion (λ x. t x ≡ false) xs
    go true e h more = absurd (omega arith)
    go false e h more = (e, more (omega arith))

none_any : {X : Type 0} (t u : X → Bool) → ((x : X) → u x ≡ true → t x ≡ true) → (xs : List X) → AllByRecursion (λ x. t x ≡ false) xs → list_any u xs ≡ true → ⊥
none_any t u only [] all some = true≢false (sym some)
none_any t u only (x ∷ xs) all some = go (u x) refl (none_any t u only xs all.1)
  where
    go : (b : Bool) → u x ≡ b → (list_any u xs ≡ true → ⊥) → ⊥
    go true e more = true≢false (sym (only x e) ∙ all.0)
    go false e more = more (sym (rw e refl) ∙ some)

-- where one element passes t, and one passes u and so t, no other passes t
pub only_own : {X : Type 0} (t u : X → Bool) → ((x : X) → u x ≡ true → t x ≡ true) → (xs : List X) → count_by t xs ≡ 1 → list_any u xs ≡ true → AllByRecursion (λ x. u x ≡ false → t x ≡ false) xs
only_own t u only [] one some = tt
only_own t u only (x ∷ xs) one some = go (u x) (t x) refl refl (sym (count_by-cons t x xs) ∙ one) (only_own t u only xs)
  where
    left : (b : Bool) → u x ≡ b → b ≡ false → list_any u xs ≡ true
    left true e f = absurd (true≢false f)
    left false e f = sym (rw e refl) ∙ some

    go : (b d : Bool) → u x ≡ b → t x ≡ d → cond d 1 0 + count_by t xs ≡ 1 → (count_by t xs ≡ 1 → list_any u xs ≡ true → AllByRecursion (λ x. u x ≡ false → t x ≡ false) xs)
        → (u x ≡ false → t x ≡ false) × AllByRecursion (λ x. u x ≡ false → t x ≡ false) xs
    go true true e f h more = (λ g. absurd (true≢false (sym e ∙ g)), each_weaker (λ x. t x ≡ false) (λ x. u x ≡ false → t x ≡ false) (λ x n g. n) xs (none_pass t xs (omega arith)))
    go true false e f h more = absurd (true≢false (sym (only x e) ∙ f))
    go false true e f h more = absurd (none_any t u only xs (none_pass t xs (omega arith)) (left (u x) refl e))
    go false false e f h more = (λ g. f, more (omega arith) (left (u x) refl e))

lower_rank : (k : Kind) → is_link k ≡ false → is_object k ≡ false → kind_rank k < 3
lower_rank Pno h g = omega arith
lower_rank Par h g = omega arith
lower_rank Pfe h g = omega arith
lower_rank Fea h g = absurd (true≢false g)
lower_rank Lnk h g = absurd (true≢false h)

-- the key of a link, from the piece that it is

abbrev target_kind : PlanData → Option ℕ → Kind
target_kind p None = Fea
target_kind p (Some t) = (record_at p t).kind

abbrev target_number : (ℕ → ℕ) → Option ℕ → ℕ
target_number number None = 0
target_number number (Some t) = number t

module _ (p : PlanData) (number : ℕ → ℕ) where
  abbrev mark_key : EndMark → NumberedEnd
  mark_key k = record { kind = target_kind p k.target; number = target_number number k.target; sns = k.sns }

  abbrev piece_ends : Option EndMark → List EndMark → List NumberedEnd
  piece_ends None others = []
  piece_ends (Some k) others = mark_key k ∷ sort_by end_cmp (map mark_key others)

  abbrev piece_key : Piece → LinkKey
  piece_key a = record { class = a.class; ends = piece_ends a.origin a.others; attributes = sort_by attribute_cmp a.attributes; extras = a.extras }

  module _ (o : ℕ) (object : (record_at p o).kind ≡ Fea) where
    mark_key_is : (e : PlanEnd) → mark_key (end_mark o e) ≡ numbered p (marked number o) e
    mark_key_is e = go (nat_eq e.target o) refl
      where
        key : Option ℕ → NumberedEnd
        key t = record { kind = target_kind p t; number = target_number number t; sns = e.sns }

        below_links : ℕ → NumberedEnd
        below_links n = record { kind = (record_at p e.target).kind; number = n; sns = e.sns }

        go : (b : Bool) → nat_eq e.target o ≡ b → key (cond b None (Some e.target)) ≡ below_links (cond b 0 (number e.target))
        go true f =
            let own : Fea ≡ (record_at p e.target).kind = sym (ap (λ k. (record_at p k).kind) (eqb-true e.target o f) ∙ object) in
            λ i. record { kind = own i; number = 0; sns = e.sns }
        go false f = refl

    marks_keyed : (xs : List PlanEnd) → map (numbered p (marked number o)) xs ≡ map mark_key (map (end_mark o) xs)
    marks_keyed [] = refl
    marks_keyed (x ∷ xs) = ap₂ ◌∷◌ (sym (mark_key_is x)) (marks_keyed xs)

    ends_keyed : (xs : List PlanEnd) → ends_key p (marked number o) xs ≡ piece_ends (option_map (end_mark o) (first_of xs)) (map (end_mark o) (rest_of xs))
    ends_keyed [] = refl
    ends_keyed (x ∷ xs) = ap₂ ◌∷◌ (sym (mark_key_is x)) (ap (sort_by end_cmp) (marks_keyed xs))

    link_keyed : (r : PlanRecord) → link_key p (marked number o) r ≡ piece_key (piece o r)
    link_keyed r = let x = ends_keyed r.ends in λ i. record { class = r.class; ends = x i; attributes = sort_by attribute_cmp r.attributes; extras = r.extras }

    pieces_keyed : (rs : List PlanRecord) → filter_map (piece_by p number o) rs ≡ map piece_key (filter_map (λ r. cond (is_piece p o r) (Some (piece o r)) None) rs)
    pieces_keyed [] = refl
    pieces_keyed (r ∷ rs) = go (is_piece p o r) refl (pieces_keyed rs)
      where
        go : (b : Bool) → is_piece p o r ≡ b → filter_map (piece_by p number o) rs ≡ map piece_key (filter_map (λ r. cond (is_piece p o r) (Some (piece o r)) None) rs)
            → filter_map (piece_by p number o) (r ∷ rs) ≡ map piece_key (filter_map (λ r. cond (is_piece p o r) (Some (piece o r)) None) (r ∷ rs))
        go true e more = rw e (ap₂ ◌∷◌ (link_keyed r) more)
        go false e more = rw e more

  -- the same piece has the same key

  ends_alike : (x : Option EndMark) (ms ns : List EndMark) → IsPermutation ms ns → piece_ends x ms ≡ piece_ends x ns
  ends_alike None ms ns same = refl
  ends_alike (Some k) ms ns same =
      ap (λ ys. mark_key k ∷ ys) (sort_by-same end_cmp end_total end_exact (map mark_key ms) (map mark_key ns) (counts_from_permutation _ _ (IsPermutation-map mark_key _ _ same)))

  key_alike : (a b : Piece) → SamePiece a b → piece_key a ≡ piece_key b
  key_alike a b h =
      let c = h.class in
      let x = ends_alike a.origin a.others b.others h.others ∙ ap (λ k. piece_ends k b.others) h.origin in
      let t = sort_by-same attribute_cmp attribute_total attribute_exact a.attributes b.attributes (counts_from_permutation _ _ h.attributes) in
      let e = h.extras in
      λ i. record { class = c i; ends = x i; attributes = t i; extras = e i }

  pub equal_one_key : (m n : ℕ) → AreEqualObjects p m n → object_key p number m ≡ object_key p number n
  equal_one_key m n a =
      let c = a.class in
      let t = sort_by-same attribute_cmp attribute_total attribute_exact (record_at p m).attributes (record_at p n).attributes (counts_from_permutation _ _ a.attributes) in
      let e = a.extras in
      let zipped = zip_equal piece_key (pieces p m) a.pieces.0 (zip_weaker SamePiece (λ x y. piece_key x ≡ piece_key y) key_alike (pieces p m) a.pieces.0 a.pieces.2) in
      let counts : SameCounts (map piece_key (pieces p m)) (map piece_key (pieces p n)) = λ test. ap (count_by test) zipped
      ∙ sym (counts_from_permutation _ _ (IsPermutation-map piece_key (pieces p n) a.pieces.0 a.pieces.1) test) in
      let x = ap (sort_by link_key_cmp) (pieces_keyed m a.first_object p.list)
      ∙ (sort_by-same link_key_cmp link_key_total link_key_exact (map piece_key (pieces p m)) (map piece_key (pieces p n)) counts ∙ sym (ap (sort_by link_key_cmp) (pieces_keyed n a.second_object p.list))) in
      λ i. record { class = c i; attributes = t i; extras = e i; pieces = x i }

  -- and what has the same key is the same piece, where its ends are told apart

  abbrev IsLower : Option ℕ → Type 0
  IsLower None = Unit {0}
  IsLower (Some t) = IsPlace p t × (kind_rank (record_at p t).kind < 3)

  abbrev Known : EndMark → Type 0
  Known k = IsLower k.target

  abbrev IsOrigin : Option EndMark → List EndMark → Type 0
  IsOrigin None others = others ≡ []
  IsOrigin (Some k) others = Known k

  abbrev KnownPiece : Piece → Type 0
  KnownPiece a = IsOrigin a.origin a.others × AllByRecursion Known a.others

  module _ (whole : IsWholePlan p) (apart : TellsApart p number) where
    one_target : (x y : Option ℕ) → IsLower x → IsLower y → target_kind p x ≡ target_kind p y → target_number number x ≡ target_number number y → x ≡ y
    one_target None None h g k n = refl
    one_target None (Some t) h g k n = absurd (omega (arith, ap kind_rank k, g.1))
    one_target (Some t) None h g k n = absurd (omega (arith, ap kind_rank k, h.1))
    one_target (Some t) (Some u) h g k n = ap Some (apart.apart t u h.0 g.0 k h.1 n)

    one_mark : (x y : EndMark) → Known x → Known y → mark_key x ≡ mark_key y → x ≡ y
    one_mark x y h g e =
        let t = one_target x.target y.target h g (ap (λ (k : NumberedEnd). k.kind) e) (ap (λ (k : NumberedEnd). k.number) e) in
        let w = ap (λ (k : NumberedEnd). k.sns) e in
        λ i. record { target = t i; sns = w i }

    ends_answered : (x y : Option EndMark) (ms ns : List EndMark) → IsOrigin x ms → IsOrigin y ns → AllByRecursion Known ms → AllByRecursion Known ns → piece_ends x ms ≡ piece_ends y ns → (x ≡ y) × IsPermutation ms ns
    ends_answered None None ms ns h g all all' e = (refl, subst (IsPermutation ms) (h ∙ sym g) (IsPermutation-refl ms))
    ends_answered None (Some y) ms ns h g all all' e = cc
    ends_answered (Some x) None ms ns h g all all' e = cc
    ends_answered (Some x) (Some y) ms ns h g all all' e =
        let first : mark_key x ≡ mark_key y = cc in
        let rest : sort_by end_cmp (map mark_key ms) ≡ sort_by end_cmp (map mark_key ns) = cc in
        (ap Some (one_mark x y h g first), permuted_back mark_key Known one_mark ms ns all all' (sorted_back end_cmp end_total (map mark_key ms) (map mark_key ns) rest))

    piece_known : (a b : Piece) → KnownPiece a → KnownPiece b → piece_key a ≡ piece_key b → SamePiece a b
    piece_known a b h g e =
        let ends = ends_answered a.origin b.origin a.others b.others h.0 g.0 h.1 g.1 (ap (λ (k : LinkKey). k.ends) e) in
        record {
          class = ap (λ (k : LinkKey). k.class) e;
          origin = ends.0;
          others = ends.1;
          attributes = sorted_back attribute_cmp attribute_total a.attributes b.attributes (ap (λ (k : LinkKey). k.attributes) e);
          extras = ap (λ (k : LinkKey). k.extras) e;
        }

    module _ (o : ℕ) (object : (record_at p o).kind ≡ Fea) where
      lower_end : (e : PlanEnd) → IsPlace p e.target → is_link (record_at p e.target).kind ≡ false → (nat_eq e.target o ≡ false → is_object (record_at p e.target).kind ≡ false) → Known (end_mark o e)
      lower_end e there plain other = go (nat_eq e.target o) refl
        where
          go : (b : Bool) → nat_eq e.target o ≡ b → IsLower (cond b None (Some e.target))
          go true f = tt
          go false f = (there, lower_rank (record_at p e.target).kind plain (other f))

      ends_known : (xs : List PlanEnd) → AllByRecursion (λ e. Known (end_mark o e)) xs → IsOrigin (option_map (end_mark o) (first_of xs)) (map (end_mark o) (rest_of xs)) × AllByRecursion Known (map (end_mark o) (rest_of xs))
      ends_known [] all = (refl, tt)
      ends_known (x ∷ xs) all = (all.0, each_mapped Known (end_mark o) xs all.1)

      record_known : (k : ℕ) → IsPlace p k → is_piece p o (record_at p k) ≡ true → KnownPiece (piece o (record_at p k))
      record_known k h test =
          let xs = (record_at p k).ends in
          let parts = all_three (is_link (record_at p k).kind) (count_by (λ e. is_object (record_at p e.target).kind) xs == 1) (list_any (λ e. nat_eq e.target o) xs) test in
          let own = only_own (λ (e : PlanEnd). is_object (record_at p e.target).kind) (λ e. nat_eq e.target o) (λ e f. ap (λ j. is_object (record_at p j).kind) (eqb-true e.target o f) ∙ ap is_object object)
          xs (eqb-true _ _ parts.1) parts.2 in
          ends_known xs (each_weaker (λ e. IsPlace p e.target × ((is_link (record_at p e.target).kind ≡ false) × (nat_eq e.target o ≡ false → is_object (record_at p e.target).kind ≡ false))) (λ e. Known (end_mark o e))
          (λ e f. lower_end e f.0 f.1.0 f.1.1) xs (two_hold _ _ xs (whole.there k h) (two_hold _ _ xs (whole.no_link k h) own)))

      passing_known : (rs : List PlanRecord) → AllByRecursion (λ r. is_piece p o r ≡ true → KnownPiece (piece o r)) rs → AllByRecursion KnownPiece (filter_map (λ r. cond (is_piece p o r) (Some (piece o r)) None) rs)
      passing_known [] all = tt
      passing_known (r ∷ rs) all = go (is_piece p o r) refl (passing_known rs all.1)
        where
          go : (b : Bool) → is_piece p o r ≡ b → AllByRecursion KnownPiece (filter_map (λ r. cond (is_piece p o r) (Some (piece o r)) None) rs)
              → AllByRecursion KnownPiece (filter_map (λ r. cond (is_piece p o r) (Some (piece o r)) None) (r ∷ rs))
          go true e more = rw e (all.0 e, more)
          go false e more = rw e more

      pieces_known : AllByRecursion KnownPiece (pieces p o)
      pieces_known = passing_known p.list (each_from_places (λ r. is_piece p o r ≡ true → KnownPiece (piece o r)) p.list blank record_known)

    pub one_key_equal : (m n : ℕ) → IsPlace p m → IsPlace p n → (record_at p m).kind ≡ Fea → (record_at p n).kind ≡ Fea → object_key p number m ≡ object_key p number n → AreEqualObjects p m n
    one_key_equal m n first second object object' e =
        let keys : sort_by link_key_cmp (map piece_key (pieces p n)) ≡ sort_by link_key_cmp (map piece_key (pieces p m)) =
        ap (sort_by link_key_cmp) (sym (pieces_keyed n object' p.list)) ∙ (sym (ap (λ (k : ObjectKey). k.pieces) e) ∙ ap (sort_by link_key_cmp) (pieces_keyed m object p.list)) in
        record {
          first = first;
          second = second;
          first_object = object;
          second_object = object';
          class = ap (λ (k : ObjectKey). k.class) e;
          attributes = sorted_back attribute_cmp attribute_total (record_at p m).attributes (record_at p n).attributes (ap (λ (k : ObjectKey). k.attributes) e);
          extras = ap (λ (k : ObjectKey). k.extras) e;
          pieces = known_up_to piece_key KnownPiece SamePiece piece_known (pieces p m) (pieces p n) (pieces_known m object) (pieces_known n object')
              (sorted_back link_key_cmp link_key_total (map piece_key (pieces p n)) (map piece_key (pieces p m)) keys);
        }

-- one number in the order of a kind is that of one record
pub labels_apart : (s : Classes) (p : PlanData) (l : Labelling) → AreLabels s p l → TellsApart p (number_of l)
labels_apart s p l labels = record {
  apart = λ i k h g kinds lower numbers.
      let both : Some i ≡ Some k = sym (labels.to_count i h) ∙ (ap₂ (λ kind n. slice_get (order_of l kind) (n - 1)) kinds numbers ∙ labels.to_count k g) in cc;
}
