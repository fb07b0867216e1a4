-- A plan with no two objects equal is the same as such plans alone.
use Rattle.std.proofs.Common.{◌≡◌, ℕ, suc, ◌+◌, ◌<◌, ◌⊎◌, inl, inr, Bool, true, false, cond, true≢false, ◌&&◌, ◌||◌, ◌==◌, nat_eq, List, [], ◌∷◌, map, filter_map, length, get_or, Option, Some, None, option_map, refl, sym, ap, ◌∙◌, subst, arith, IsPermutation, count_by, eq-eqb, ne_eqb, eqb-true, nat_cmp}
use Rattle.std.specs.List.{AllByRecursion, AllZip, list_any}
use Rattle.std.proofs.lemmas.Bool.{cases_eq, cases_order}
use Rattle.std.proofs.lemmas.Cmp.{nat_cmp_total}
use Rattle.std.proofs.lemmas.List.Sorted.{IsPermutation-sym, IsPermutation-trans, IsPermutation-map}
use Rattle.std.proofs.lemmas.Map.Lookups.{exact_unsigned}
use Rattle.edi_line.specs.Refusal.{IsUnbroken}
use Rattle.edi_line.proofs.EachElement.{each_from_places}
use Rattle.edi_record.specs.Shapes.{may_have_ends}
use Rattle.edi_record.specs.declared.record.Kind.TheVariants.{Par, Fea}
use Rattle.edi_schema.specs.Classes.{Classes, partner_of}
use Rattle.edi_schema.specs.Roles.{is_plain}
use Rattle.edi_schema.specs.Sorted.{sort_by}
use Rattle.edi_schema.specs.declared.role.Role.{Role}
use Rattle.edi_schema.specs.declared.role.Role.TheVariants.{Initial, Final, Left, Right, Plain}
use Rattle.edi_schema.proofs.SortedLists.{sort_by-same, IsPermutation-sort_by, counts_from_permutation, SameCounts}
use Rattle.edi_record.specs.Records.{is_link}
use Rattle.edi_record.proofs.KindCodes.{link_is}
use Rattle.edi_plan.specs.Plans.{PlanData, IsPlace, record_at, blank, is_object, first_of, others_of}
use Rattle.edi_plan.specs.Whole.{IsWholePlan}
use Rattle.edi_plan.specs.declared.record.PlanRecord.{PlanRecord}
use Rattle.edi_plan.specs.declared.record.PlanEnd.{PlanEnd}
use Rattle.edi_rank.specs.EqualObjects.{EndMark, end_mark, Piece, piece, pieces, SamePiece, SameUpTo, AreEqualObjects, BreaksObjectRule}
use Rattle.edi_rank.specs.EqualObjects.BreaksObjectRule.{repeats_object}
use Rattle.edi_rank.specs.Keys.{is_piece}
use Rattle.edi_plan.specs.Joined.{beside, HasEnds, IsJoined}
use Rattle.edi_rank.specs.Laws.{IsPlanUnder}
use Rattle.edi_rank.specs.Same.{OneToOne, moved, has_turned_arc, Carries, Same}
use Rattle.edi_rank.proofs.Along.{places_from, places_long, place_here}
use Rattle.edi_rank.proofs.Gathered.{gathered_equal}
use Rattle.edi_rank.proofs.Preserved.{joins_kept}
use Rattle.edi_rank.proofs.KeysPreserved.{count_by-map, counted_equal}
use Rattle.edi_rank.proofs.SameLaws.{list_any-map, passes_alike, map_alike, map-map, after_none, all_others, ends_moved, tested_before, same_sym}
use Rattle.edi_rank.proofs.UpTo.{up_to_sym, up_to_trans}

-- tests and kinds

pub all_three : (a b c : Bool) → a && b && c ≡ true → (a ≡ true) × (b ≡ true) × (c ≡ true)
all_three true true true h = (refl, refl, refl)
all_three true true false h = absurd (true≢false (sym h))
all_three true false true h = absurd (true≢false (sym h))
all_three true false false h = absurd (true≢false (sym h))
all_three false true true h = absurd (true≢false (sym h))
all_three false true false h = absurd (true≢false (sym h))
all_three false false true h = absurd (true≢false (sym h))
all_three false false false h = absurd (true≢false (sym h))

pub no_object_beside : (r : Role) → is_object (beside r) ≡ false
no_object_beside Initial = refl
no_object_beside Final = refl
no_object_beside Left = refl
no_object_beside Right = refl
no_object_beside Plain = refl

no_ends : (xs : List PlanEnd) → may_have_ends Fea (length xs) ≡ true → xs ≡ []
no_ends [] may = refl
no_ends (x ∷ xs) may = let e : suc (length xs) ≡ 0 = eqb-true _ _ may in absurd (omega (arith, e))

one_of_two : (m a x : ℕ) → list_any (λ t. nat_eq t m) (a ∷ x ∷ []) ≡ true → (a ≡ m) ⊎ (x ≡ m)
one_of_two m a x h = go (nat_eq a m) (nat_eq x m) refl refl h
  where
    go : (b c : Bool) → nat_eq a m ≡ b → nat_eq x m ≡ c → b || (c || false) ≡ true → (a ≡ m) ⊎ (x ≡ m)
    go true c e f h = inl (eqb-true a m e)
    go false true e f h = inr (eqb-true x m f)
    go false false e f h = absurd (true≢false (sym h))

-- lists

counts_permuted : (xs ys : List ℕ) → SameCounts xs ys → IsPermutation xs ys
counts_permuted xs ys counts = IsPermutation-trans xs (sort_by nat_cmp xs) ys (IsPermutation-sym _ _ (IsPermutation-sort_by nat_cmp nat_cmp_total xs))
    (subst (λ zs. IsPermutation zs ys) (sym (sort_by-same nat_cmp nat_cmp_total exact_unsigned xs ys counts)) (IsPermutation-sort_by nat_cmp nat_cmp_total ys))

mapped_after : {X : Type 0} (to : ℕ → ℕ) (h : X → Option ℕ) (xs : List X) → filter_map (λ x. option_map to (h x)) xs ≡ map to (filter_map h xs)
mapped_after to h [] = refl
mapped_after to h (x ∷ xs) = go (h x) refl (mapped_after to h xs)
  where
    go : (o : Option ℕ) → h x ≡ o → filter_map (λ x. option_map to (h x)) xs ≡ map to (filter_map h xs) → filter_map (λ x. option_map to (h x)) (x ∷ xs) ≡ map to (filter_map h (x ∷ xs))
    go None e more = rw e more
    go (Some y) e more = rw e (ap (λ ys. to y ∷ ys) more)

-- what passes of a list, by its places
by_places : {Y : Type 0} (t : PlanRecord → Bool) (f : PlanRecord → Y) (at : ℕ → PlanRecord) (rs : List PlanRecord) (k : ℕ) → ((i j : ℕ) → j ≡ k + i → i < length rs → at j ≡ get_or rs i blank)
    → filter_map (λ r. cond (t r) (Some (f r)) None) rs ≡ map (λ j. f (at j)) (filter_map (λ j. cond (t (at j)) (Some j) None) (places_from (length rs) k))
by_places t f at [] k here = refl
by_places {Y} t f at (r ∷ rs) k here =
    subst (λ x. filter_map (λ r. cond (t r) (Some (f r)) None) (x ∷ rs) ≡ map (λ j. f (at j)) (filter_map (λ j. cond (t (at j)) (Some j) None) (places_from (length (r ∷ rs)) k)))
    (here 0 k (omega arith) (omega arith)) (go (t (at k)) refl (by_places t f at rs (suc k) (λ i j e l. here (suc i) j (omega (arith, e)) (omega (arith, l)))))
  where
    go : (b : Bool) → t (at k) ≡ b → filter_map (λ r. cond (t r) (Some (f r)) None) rs ≡ map (λ j. f (at j)) (filter_map (λ j. cond (t (at j)) (Some j) None) (places_from (length rs) (suc k)))
        → filter_map (λ r. cond (t r) (Some (f r)) None) (at k ∷ rs) ≡ map (λ j. f (at j)) (filter_map (λ j. cond (t (at j)) (Some j) None) (places_from (length (r ∷ rs)) k))
    go true e more = rw e (ap (λ ys. f (at k) ∷ ys) more)
    go false e more = rw e more

all_passing : (P : ℕ → Type 0) (t : ℕ → Bool) (xs : List ℕ) → AllByRecursion P xs → AllByRecursion (λ j. P j × (t j ≡ true)) (filter_map (λ j. cond (t j) (Some j) None) xs)
all_passing P t [] all = tt
all_passing P t (x ∷ xs) all = go (t x) refl (all_passing P t xs all.1)
  where
    go : (b : Bool) → t x ≡ b → AllByRecursion (λ j. P j × (t j ≡ true)) (filter_map (λ j. cond (t j) (Some j) None) xs)
        → AllByRecursion (λ j. P j × (t j ≡ true)) (filter_map (λ j. cond (t j) (Some j) None) (x ∷ xs))
    go true e more = rw e ((all.0, e), more)
    go false e more = rw e more

zip_maps : {X Y : Type 0} (R : Y → Y → Type 0) (Q : X → Type 0) (f g : X → Y) → ((x : X) → Q x → R (f x) (g x)) → (xs : List X) → AllByRecursion Q xs → AllZip R (map f xs) (map g xs)
zip_maps R Q f g each [] all = tt
zip_maps R Q f g each (x ∷ xs) all = (each x all.0, zip_maps R Q f g each xs all.1)

zip_mapped : {X Y : Type 0} (R : X → X → Type 0) (S : Y → Y → Type 0) (f : X → Y) → ((x y : X) → R x y → S (f x) (f y)) → (xs ys : List X) → AllZip R xs ys → AllZip S (map f xs) (map f ys)
zip_mapped R S f each [] [] h = tt
zip_mapped R S f each [] (y ∷ ys) h = absurd h
zip_mapped R S f each (x ∷ xs) [] h = absurd h
zip_mapped R S f each (x ∷ xs) (y ∷ ys) h = (each x y h.0, zip_mapped R S f each xs ys h.1)

up_to_mapped : {X Y : Type 0} (R : X → X → Type 0) (S : Y → Y → Type 0) (f : X → Y) → ((x y : X) → R x y → S (f x) (f y)) → (xs ys : List X) → SameUpTo R xs ys → SameUpTo S (map f xs) (map f ys)
up_to_mapped R S f each xs ys same = (map f same.0, IsPermutation-map f _ _ same.1, zip_mapped R S f each xs same.0 same.2)

-- pieces

piece_sym : (a b : Piece) → SamePiece a b → SamePiece b a
piece_sym a b h = record {
  class = sym h.class;
  origin = sym h.origin;
  others = IsPermutation-sym _ _ h.others;
  attributes = IsPermutation-sym _ _ h.attributes;
  extras = sym h.extras;
}

piece_trans : (a b c : Piece) → SamePiece a b → SamePiece b c → SamePiece a c
piece_trans a b c h g = record {
  class = h.class ∙ g.class;
  origin = h.origin ∙ g.origin;
  others = IsPermutation-trans _ _ _ h.others g.others;
  attributes = IsPermutation-trans _ _ _ h.attributes g.attributes;
  extras = h.extras ∙ g.extras;
}

-- a piece, renamed

abbrev moved_mark : (ℕ → ℕ) → EndMark → EndMark
moved_mark to m = record { target = option_map to m.target; sns = m.sns }

abbrev moved_piece : (ℕ → ℕ) → Piece → Piece
moved_piece to a = record { class = a.class; origin = option_map (moved_mark to) a.origin; others = map (moved_mark to) a.others; attributes = a.attributes; extras = a.extras }

moved_same : (to : ℕ → ℕ) (a b : Piece) → SamePiece a b → SamePiece (moved_piece to a) (moved_piece to b)
moved_same to a b h = record {
  class = h.class;
  origin = ap (option_map (moved_mark to)) h.origin;
  others = IsPermutation-map (moved_mark to) _ _ h.others;
  attributes = h.attributes;
  extras = h.extras;
}

-- the places of the pieces of an object

abbrev place_or_none : PlanData → ℕ → ℕ → Option ℕ
place_or_none p o j = cond (is_piece p o (record_at p j)) (Some j) None

abbrev piece_places : PlanData → ℕ → List ℕ
piece_places p o = filter_map (place_or_none p o) (places_from (length p.list) 0)

pieces_placed : (p : PlanData) (o : ℕ) → pieces p o ≡ map (λ j. piece o (record_at p j)) (piece_places p o)
pieces_placed p o = by_places (is_piece p o) (piece o) (record_at p) p.list 0 (λ i j e l. let f : j ≡ i = omega (arith, e) in ap (record_at p) f)

all_within : (n : ℕ) → AllByRecursion (λ j. j < n) (places_from n 0)
all_within n = each_from_places (λ j. j < n) (places_from n 0) 0 (λ i h. let l : i < n = omega (arith, h, places_long n 0) in omega (arith, l, place_here n i l))

equal_back : (p : PlanData) (m n : ℕ) → AreEqualObjects p m n → AreEqualObjects p n m
equal_back p m n a = record {
  first = a.second;
  second = a.first;
  first_object = a.second_object;
  second_object = a.first_object;
  class = sym a.class;
  attributes = IsPermutation-sym _ _ a.attributes;
  extras = sym a.extras;
  pieces = up_to_sym SamePiece piece_sym (pieces p m) (pieces p n) a.pieces;
}

module _ (s : Classes) (p q : PlanData) (whole : IsWholePlan p) (joined : IsJoined p) (to : ℕ → ℕ) (turned : ℕ → Bool) (c : Carries s to turned p q) where
  abbrev IsThere : PlanEnd → Type 0
  IsThere e = IsPlace p e.target

  same_place : (i k : ℕ) → IsPlace p i → IsPlace p k → nat_eq (to i) (to k) ≡ nat_eq i k
  same_place i k h l = go (cases_eq i k)
    where
      go : (i ≡ k) ⊎ (i ≡ k → ⊥) → nat_eq (to i) (to k) ≡ nat_eq i k
      go (inl e) = eq-eqb (to i) (to k) (ap to e) ∙ sym (eq-eqb i k e)
      go (inr ne) = ne_eqb (to i) (to k) (λ e. ne (c.places.apart i k h l e)) ∙ sym (ne_eqb i k ne)

  piece_test : (m i : ℕ) → IsPlace p m → IsPlace p i → is_piece q (to m) (record_at q (to i)) ≡ is_piece p m (record_at p i)
  piece_test m i l h =
      let a = record_at p i in
      let b = record_at q (to i) in
      let kind : is_link b.kind ≡ is_link a.kind = ap is_link (c.each i h).kind in
      let counts = sym (counts_from_permutation _ _ (ends_moved s to turned i a b (c.each i h)) (λ (e : PlanEnd). is_object (record_at q e.target).kind)) in
      let mapped = count_by-map (λ (e : PlanEnd). is_object (record_at q e.target).kind) (moved to) a.ends in
      let alike = counted_equal IsThere (λ e. is_object (record_at q (to e.target)).kind) (λ e. is_object (record_at p e.target).kind)
      (λ e t. ap is_object (c.each e.target t).kind) a.ends (whole.there i h) in
      let objects = counts ∙ (mapped ∙ alike) in
      let own = tested_before s to turned i a b (c.each i h) (λ t. nat_eq t (to m))
      ∙ passes_alike IsThere (λ e. nat_eq (to e.target) (to m)) (λ e. nat_eq e.target m) (λ e t. same_place e.target m t l) a.ends (whole.there i h) in
      λ j. kind j && (objects j == 1) && own j

  -- a link of one of the four kinds is no piece
  plain_piece : (m i : ℕ) → IsPlace p i → (record_at p m).kind ≡ Fea → is_piece p m (record_at p i) ≡ true → is_plain (record_at p i).role ≡ true
  plain_piece m i h object test = go (is_plain (record_at p i).role) refl
    where
      parts : (is_link (record_at p i).kind ≡ true) × ((count_by (λ e. is_object (record_at p e.target).kind) (record_at p i).ends == 1) ≡ true) × (list_any (λ e. nat_eq e.target m) (record_at p i).ends ≡ true)
      parts = all_three (is_link (record_at p i).kind) (count_by (λ e. is_object (record_at p e.target).kind) (record_at p i).ends == 1) (list_any (λ e. nat_eq e.target m) (record_at p i).ends) test

      among : list_any (λ t. nat_eq t m) (map (λ e. e.target) (record_at p i).ends) ≡ true
      among = list_any-map (λ t. nat_eq t m) (λ (e : PlanEnd). e.target) (record_at p i).ends ∙ parts.2

      neither : (a x : ℕ) → (record_at p a).kind ≡ Par → (record_at p x).kind ≡ beside (record_at p i).role → (a ≡ m) ⊎ (x ≡ m) → ⊥
      neither a x arc other (inl e) = true≢false (ap is_object (sym object) ∙ (ap (λ k. is_object (record_at p k).kind) (sym e) ∙ ap is_object arc))
      neither a x arc other (inr e) =
          true≢false (ap is_object (sym object) ∙ (ap (λ k. is_object (record_at p k).kind) (sym e) ∙ (ap is_object other ∙ no_object_beside (record_at p i).role)))

      swapped : (a x : ℕ) → (a ≡ m) ⊎ (x ≡ m) → (x ≡ m) ⊎ (a ≡ m)
      swapped a x (inl e) = inr e
      swapped a x (inr e) = inl e

      met : (a x : ℕ) → HasEnds p i a x → (a ≡ m) ⊎ (x ≡ m)
      met a x (inl e) = one_of_two m a x (ap (list_any (λ t. nat_eq t m)) (sym e) ∙ among)
      met a x (inr e) = swapped x a (one_of_two m x a (ap (list_any (λ t. nat_eq t m)) (sym e) ∙ among))

      go : (b : Bool) → is_plain (record_at p i).role ≡ b → b ≡ true
      go true e = refl
      go false e =
          let join = joined.joins i (record { there = h; is_link = link_is (record_at p i).kind parts.0; not_plain = e }) in
          absurd (neither join.arc join.other join.is_arc join.is_beside (met join.arc join.other join.ends))

  mark_kept : (m : ℕ) → IsPlace p m → (e : PlanEnd) → IsThere e → end_mark (to m) (moved to e) ≡ moved_mark to (end_mark m e)
  mark_kept m l e t = let same = same_place e.target m t l in rw same (ap (λ o. record { target = o; sns = e.sns }) (go (nat_eq e.target m)))
    where
      go : (b : Bool) → cond b None (Some (to e.target)) ≡ option_map to (cond b None (Some e.target))
      go true = refl
      go false = refl

  first_kept : (m : ℕ) → IsPlace p m → (xs : List PlanEnd) → AllByRecursion IsThere xs → option_map (moved_mark to) (option_map (end_mark m) (first_of xs)) ≡ option_map (end_mark (to m)) (option_map (moved to) (first_of xs))
  first_kept m l [] all = refl
  first_kept m l (x ∷ xs) all = ap Some (sym (mark_kept m l x all.0))

  pub piece_class : (m i : ℕ) → IsPlace p i → (record_at p m).kind ≡ Fea → is_piece p m (record_at p i) ≡ true → (record_at q (to i)).class ≡ (record_at p i).class
  piece_class m i h object test =
      let a = record_at p i in
      (c.each i h).class ∙ ap (λ t. cond t a.class (cond (has_turned_arc turned a) (partner_of s a.class) a.class)) (plain_piece m i h object test)

  piece_kept : (m i : ℕ) → IsPlace p m → IsPlace p i → (record_at p m).kind ≡ Fea → is_piece p m (record_at p i) ≡ true → SamePiece (moved_piece to (piece m (record_at p i))) (piece (to m) (record_at q (to i)))
  piece_kept m i l h object test =
      let a = record_at p i in
      let b = record_at q (to i) in
      let there = whole.there i h in
      record {
        class = sym (piece_class m i h object test);
        origin = first_kept m l a.ends there ∙ sym (ap (option_map (end_mark (to m))) (c.each i h).origin);
        others = subst (λ xs. IsPermutation xs (map (end_mark (to m)) (others_of b)))
            (map-map (end_mark (to m)) (moved to) (others_of a) ∙ (map_alike IsThere (λ e. end_mark (to m) (moved to e)) (λ e. moved_mark to (end_mark m e)) (mark_kept m l) (others_of a) (all_others IsThere a.ends there)
            ∙ sym (map-map (moved_mark to) (end_mark m) (others_of a))))
            (IsPermutation-map (end_mark (to m)) _ _ (c.each i h).others);
        attributes = (c.each i h).attributes;
        extras = sym (c.each i h).extras;
      }

  places_kept : (m : ℕ) → IsPlace p m → IsPermutation (map to (piece_places p m)) (piece_places q (to m))
  places_kept m l = counts_permuted _ _ (subst (λ xs. SameCounts xs (piece_places q (to m))) (mapped_after to (place_or_none p m) (places_from (length p.list) 0))
      (gathered_equal to (places_from (length p.list) 0) (places_from (length q.list) 0) 0 long (λ i. option_map to (place_or_none p m i)) (place_or_none q (to m)) same))
    where
      long : OneToOne to (length (places_from (length p.list) 0)) (length (places_from (length q.list) 0))
      long = subst (λ k. OneToOne to k (length (places_from (length q.list) 0))) (sym (places_long (length p.list) 0)) (subst (OneToOne to (length p.list)) (sym (places_long (length q.list) 0)) c.places)

      either : (b : Bool) (i : ℕ) → option_map to (cond b (Some i) None) ≡ cond b (Some (to i)) None
      either true i = refl
      either false i = refl

      same : (i : ℕ) → i < length (places_from (length p.list) 0)
          → option_map to (place_or_none p m (get_or (places_from (length p.list) 0) i 0)) ≡ place_or_none q (to m) (get_or (places_from (length q.list) 0) (to i) 0)
      same i h =
          let h' : IsPlace p i = subst (λ k. i < k) (places_long (length p.list) 0) h in
          ap (λ k. option_map to (place_or_none p m k)) (place_here (length p.list) i h')
          ∙ (either (is_piece p m (record_at p i)) i ∙ (ap (λ b. cond b (Some (to i)) None) (sym (piece_test m i l h')) ∙ ap (place_or_none q (to m)) (sym (place_here (length q.list) (to i) (c.places.within i h')))))

  pieces_kept : (m : ℕ) → IsPlace p m → (record_at p m).kind ≡ Fea → SameUpTo SamePiece (map (moved_piece to) (pieces p m)) (pieces q (to m))
  pieces_kept m l object = (there, permuted, zipped)
    where
      there : List Piece
      there = map (λ i. piece (to m) (record_at q (to i))) (piece_places p m)

      permuted : IsPermutation (pieces q (to m)) (map (λ i. piece (to m) (record_at q (to i))) (piece_places p m))
      permuted = subst (λ xs. IsPermutation xs (map (λ i. piece (to m) (record_at q (to i))) (piece_places p m))) (sym (pieces_placed q (to m)))
          (subst (IsPermutation (map (λ j. piece (to m) (record_at q j)) (piece_places q (to m)))) (map-map (λ j. piece (to m) (record_at q j)) to (piece_places p m))
          (IsPermutation-map (λ j. piece (to m) (record_at q j)) _ _ (IsPermutation-sym _ _ (places_kept m l))))

      zipped : AllZip SamePiece (map (moved_piece to) (pieces p m)) (map (λ i. piece (to m) (record_at q (to i))) (piece_places p m))
      zipped = subst (λ xs. AllZip SamePiece xs (map (λ i. piece (to m) (record_at q (to i))) (piece_places p m)))
          (sym (ap (map (moved_piece to)) (pieces_placed p m) ∙ map-map (moved_piece to) (λ j. piece m (record_at p j)) (piece_places p m)))
          (zip_maps SamePiece (λ i. IsPlace p i × (is_piece p m (record_at p i) ≡ true)) (λ i. moved_piece to (piece m (record_at p i))) (λ i. piece (to m) (record_at q (to i)))
          (λ i at. piece_kept m i l at.0 object at.1) (piece_places p m) (all_passing (IsPlace p) (λ i. is_piece p m (record_at p i)) (places_from (length p.list) 0) (all_within (length p.list))))

  pub class_kept : (m : ℕ) → IsPlace p m → (record_at p m).kind ≡ Fea → (record_at q (to m)).class ≡ (record_at p m).class
  class_kept m l object =
      let none : (record_at p m).ends ≡ [] = no_ends (record_at p m).ends (ap (λ kind. may_have_ends kind (length (record_at p m).ends)) (sym object) ∙ whole.ends m l) in
      let tests : has_turned_arc turned (record_at p m) ≡ false = ap (λ xs. list_any (λ (e : PlanEnd). turned e.target) xs) none in
      (c.each m l).class ∙ (rw tests (after_none s (record_at p m).role (record_at p m).class))

  equal_preserved : (m n : ℕ) → AreEqualObjects p m n → AreEqualObjects q (to m) (to n)
  equal_preserved m n a =
      let first = c.each m a.first in
      let second = c.each n a.second in
      record {
        first = c.places.within m a.first;
        second = c.places.within n a.second;
        first_object = first.kind ∙ a.first_object;
        second_object = second.kind ∙ a.second_object;
        class = class_kept m a.first a.first_object ∙ (a.class ∙ sym (class_kept n a.second a.second_object));
        attributes = IsPermutation-trans _ _ _ (IsPermutation-sym _ _ first.attributes) (IsPermutation-trans _ _ _ a.attributes second.attributes);
        extras = first.extras ∙ (a.extras ∙ sym second.extras);
        pieces = up_to_trans SamePiece piece_trans (pieces q (to m)) (map (moved_piece to) (pieces p m)) (pieces q (to n))
            (up_to_sym SamePiece piece_sym (map (moved_piece to) (pieces p m)) (pieces q (to m)) (pieces_kept m a.first a.first_object))
            (up_to_trans SamePiece piece_trans (map (moved_piece to) (pieces p m)) (map (moved_piece to) (pieces p n)) (pieces q (to n))
            (up_to_mapped SamePiece SamePiece (moved_piece to) (moved_same to) (pieces p m) (pieces p n) a.pieces) (pieces_kept n a.second a.second_object));
      }

  pub repeat_kept : (m n : ℕ) → m < n → AreEqualObjects p m n → (rule at : ℕ) × BreaksObjectRule q rule at
  repeat_kept m n less a = go (cases_order (to m) (to n))
    where
      go : (to m ≡ to n) ⊎ ((to m < to n) ⊎ (to n < to m)) → (rule at : ℕ) × BreaksObjectRule q rule at
      go (inl e) = absurd (omega (arith, less, c.places.apart m n a.first a.second e))
      go (inr (inl before)) = (501, suc (to n), repeats_object refl refl before (equal_preserved m n a))
      go (inr (inr behind)) = (501, suc (to m), repeats_object refl refl behind (equal_back q (to m) (to n) (equal_preserved m n a)))

pub objects_preserved : (s : Classes) (p q : PlanData) → IsPlanUnder s p → IsPlanUnder s q → IsJoined p → Same s p q → IsUnbroken (BreaksObjectRule p) → IsUnbroken (BreaksObjectRule q)
objects_preserved s p q under under' joined same none rule at broken = go broken
  where
    back : Same s q p
    back = same_sym s p q under under' same

    go : BreaksObjectRule q rule at → ⊥
    go (repeats_object {m = m} {n = n} e f less alike) =
        let before = repeat_kept s q p under'.whole (joins_kept s p q under under' same joined) back.0 back.1 back.2 m n less alike in
        none before.0 before.1 before.2
