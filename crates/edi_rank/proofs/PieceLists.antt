-- The links that are pieces of each object, gathered in one pass.
use Rattle.std.proofs.Common.{◌≡◌, ℕ, zero, suc, ◌+◌, ◌<◌, ◌≤◌, ◌⊎◌, inl, inr, Bool, true, false, cond, nat_eq, List, [], ◌∷◌, ◌++◌, map, filter_map, length, get_or, set, drop, Some, refl, sym, ap, ap₂, ◌∙◌, subst, arith, add-one, eqb-true, eq-eqb, ne_eqb}
use Rattle.std.specs.List.{AllByRecursion}
use Rattle.std.proofs.lemmas.Bool.{cases_eq, and_parts}
use Rattle.std.proofs.lemmas.List.{get_or-set_same, get_or-set_other, append_assoc}
use Rattle.edi_line.proofs.EachElement.{each_weaker}
use Rattle.edi_schema.proofs.SortedLists.{count_by-cons}
use Rattle.edi_plan.specs.Plans.{PlanData, IsPlace, record_at, blank, is_object, others_of, rest_of}
use Rattle.edi_plan.specs.declared.record.PlanRecord.{PlanRecord}
use Rattle.edi_plan.specs.declared.record.PlanEnd.{PlanEnd}
use Rattle.edi_rank.specs.Keys.{is_piece, marked, piece_by, link_key}
use Rattle.edi_rank.specs.Pieces.{object_count}
use Rattle.edi_rank.specs.inner.Pieces.{is_owner, pieces_from, piece_places}
use Rattle.edi_rank.specs.declared.keys.LinkKey.{LinkKey}

drop_here : {X : Type 0} (xs : List X) (n : ℕ) (d : X) → n < length xs → drop n xs ≡ get_or xs n d ∷ drop (suc n) xs
drop_here [] n d h = absurd (omega (arith, h))
drop_here (x ∷ xs) zero d h = refl
drop_here (x ∷ xs) (suc n) d h = drop_here xs n d (omega (arith, h))

pub drop_past : {X : Type 0} (xs : List X) (n : ℕ) → length xs ≤ n → drop n xs ≡ []
drop_past [] zero h = refl
drop_past [] (suc n) h = refl
drop_past (x ∷ xs) zero h = absurd (omega (arith, h))
drop_past (x ∷ xs) (suc n) h = drop_past xs n (omega (arith, h))

pub empties : (lists : List (List ℕ)) → AllByRecursion (λ list. list ≡ []) lists → (k : ℕ) → get_or lists k [] ≡ []
empties [] all zero = refl
empties [] all (suc k) = refl
empties (list ∷ lists) all zero = all.0
empties (list ∷ lists) all (suc k) = empties lists all.1 k

module _ (p : PlanData) (place : ℕ) (there : IsPlace p place) (lists : List (List ℕ))
    (so_far : (k : ℕ) → IsPlace p k → is_object (record_at p k).kind ≡ true → get_or lists k [] ++ pieces_from p k place (drop place p.list) ≡ piece_places p k) where
  abbrev after : ℕ → List ℕ
  after k = pieces_from p k (place + 1) (drop (place + 1) p.list)

  rest_is : (k : ℕ) (b : Bool) → is_piece p k (record_at p place) ≡ b → pieces_from p k place (drop place p.list) ≡ cond b (place ∷ after k) (after k)
  rest_is k b e = ap (pieces_from p k place) (drop_here p.list place blank there ∙ ap (λ n. record_at p place ∷ drop n p.list) (sym (add-one place)))
      ∙ ap (λ t. cond t (place ∷ after k) (after k)) e

  pub passed_on : ((k : ℕ) → is_object (record_at p k).kind ≡ true → is_piece p k (record_at p place) ≡ false)
      → (k : ℕ) → IsPlace p k → is_object (record_at p k).kind ≡ true → get_or lists k [] ++ after k ≡ piece_places p k
  passed_on none k h is = ap (λ ys. get_or lists k [] ++ ys) (sym (rest_is k false (none k is))) ∙ so_far k h is

  pub put_on : (o : ℕ) (pushed : List ℕ) → o < length lists → pushed ≡ get_or lists o [] ++ place ∷ [] → ((k : ℕ) → is_object (record_at p k).kind ≡ true → is_piece p k (record_at p place) ≡ is_owner (Some o) k)
      → (k : ℕ) → IsPlace p k → is_object (record_at p k).kind ≡ true → get_or (set lists o pushed) k [] ++ after k ≡ piece_places p k
  put_on o pushed within is owns k h object = go (cases_eq k o)
    where
      go : (k ≡ o) ⊎ (k ≡ o → ⊥) → get_or (set lists o pushed) k [] ++ after k ≡ piece_places p k
      go (inl e) =
          let here : get_or (set lists o pushed) k [] ≡ get_or lists k [] ++ place ∷ [] = ap (λ j. get_or (set lists o pushed) j []) e ∙ (get_or-set_same lists o pushed [] within ∙ (is ∙ ap (λ j. get_or lists j [] ++ place ∷ []) (sym e))) in
          let piece : is_piece p k (record_at p place) ≡ true = owns k object ∙ eq-eqb o k (sym e) in
          ap (λ ys. ys ++ after k) here ∙ (append_assoc (get_or lists k []) (place ∷ []) (after k) ∙ (ap (λ ys. get_or lists k [] ++ ys) (sym (rest_is k true piece)) ∙ so_far k h object))
      go (inr other) =
          let piece : is_piece p k (record_at p place) ≡ false = owns k object ∙ ne_eqb o k (λ e. other (sym e)) in
          ap (λ ys. ys ++ after k) (get_or-set_other lists o k pushed [] other) ∙ (ap (λ ys. get_or lists k [] ++ ys) (sym (rest_is k false piece)) ∙ so_far k h object)

-- the places of pieces are places, and their keys are those of the object's pieces

module _ (p : PlanData) (o : ℕ) where
  there_from : (place : ℕ) (rs : List PlanRecord) → place + length rs ≤ length p.list → AllByRecursion (IsPlace p) (pieces_from p o place rs)
  there_from place [] h = tt
  there_from place (r ∷ rs) h = go (is_piece p o r) (there_from (place + 1) rs (omega (arith, h)))
    where
      go : (b : Bool) → AllByRecursion (IsPlace p) (pieces_from p o (place + 1) rs) → AllByRecursion (IsPlace p) (cond b (place ∷ pieces_from p o (place + 1) rs) (pieces_from p o (place + 1) rs))
      go true more = (omega (arith, h), more)
      go false more = more

  pub pieces_there : AllByRecursion (IsPlace p) (piece_places p o)
  pieces_there = there_from 0 p.list (omega arith)

  -- they are those of pieces, of whose other ends one at most is an object
  abbrev IsOwnPlace : ℕ → Type 0
  IsOwnPlace k = IsPlace p k × (object_count p (others_of (record_at p k)) ≤ 1)

  few_others : (r : PlanRecord) → is_piece p o r ≡ true → object_count p (others_of r) ≤ 1
  few_others r h = go r.ends (eqb-true (object_count p r.ends) 1 (and_parts _ _ (and_parts _ _ h).0).1)
    where
      go : (ends : List PlanEnd) → object_count p ends ≡ 1 → object_count p (rest_of ends) ≤ 1
      go [] e = omega arith
      go (x ∷ ends) e = let more = count_by-cons (λ (x : PlanEnd). is_object (record_at p x.target).kind) x ends in omega (arith, more, e)

  own_from : (place : ℕ) (rs : List PlanRecord) → place + length rs ≤ length p.list → ((i : ℕ) → i < length rs → record_at p (place + i) ≡ get_or rs i blank) → AllByRecursion IsOwnPlace (pieces_from p o place rs)
  own_from place [] h same = tt
  own_from place (r ∷ rs) h same =
      go (is_piece p o r) refl (own_from (place + 1) rs (omega (arith, h)) (λ i g. let e : (place + 1) + i ≡ place + suc i = omega arith in ap (record_at p) e ∙ same (suc i) (omega (arith, g))))
    where
      first : record_at p place ≡ r
      first = let e : place ≡ place + 0 = omega arith in ap (record_at p) e ∙ same 0 (omega arith)

      go : (b : Bool) → is_piece p o r ≡ b → AllByRecursion IsOwnPlace (pieces_from p o (place + 1) rs) → AllByRecursion IsOwnPlace (cond b (place ∷ pieces_from p o (place + 1) rs) (pieces_from p o (place + 1) rs))
      go true e more = ((omega (arith, h), subst (λ (q : PlanRecord). object_count p (others_of q) ≤ 1) (sym first) (few_others r e)), more)
      go false e more = more

  pub pieces_with : (P : ℕ → Type 0) → ((k : ℕ) → IsPlace p k → object_count p (others_of (record_at p k)) ≤ 1 → P k) → AllByRecursion P (piece_places p o)
  pieces_with P each = each_weaker IsOwnPlace P (λ k h. each k h.0 h.1) (piece_places p o) (own_from 0 p.list (omega arith) (λ i h. let e : 0 + i ≡ i = omega arith in ap (record_at p) e))

  module _ (number : ℕ → ℕ) (own : number o ≡ 0) where
    unmarked : marked number o ≡ number
    unmarked = λ i k. at k i
      where
        at : (k : ℕ) → marked number o k ≡ number k
        at k = go (nat_eq k o) refl
          where
            go : (b : Bool) → nat_eq k o ≡ b → cond b 0 (number k) ≡ number k
            go true e = sym (ap number (eqb-true k o e) ∙ own)
            go false e = refl

    keys_from : (g : ℕ → LinkKey) (place : ℕ) (rs : List PlanRecord) → ((i : ℕ) → i < length rs → g (place + i) ≡ link_key p number (get_or rs i blank))
        → map g (pieces_from p o place rs) ≡ filter_map (piece_by p number o) rs
    keys_from g place [] same = refl
    keys_from g place (r ∷ rs) same =
        go (is_piece p o r) refl (keys_from g (place + 1) rs (λ i h. let e : (place + 1) + i ≡ place + suc i = omega arith in ap g e ∙ same (suc i) (omega (arith, h))))
      where
        first : g place ≡ link_key p (marked number o) r
        first = let e : place ≡ place + 0 = omega arith in ap g e ∙ (same 0 (omega arith) ∙ ap (λ n. link_key p n r) (sym unmarked))

        go : (b : Bool) → is_piece p o r ≡ b → map g (pieces_from p o (place + 1) rs) ≡ filter_map (piece_by p number o) rs
            → map g (cond (is_piece p o r) (place ∷ pieces_from p o (place + 1) rs) (pieces_from p o (place + 1) rs)) ≡ filter_map (piece_by p number o) (r ∷ rs)
        go true e more = rw e (ap₂ ◌∷◌ first more)
        go false e more = rw e more

    pub pieces_keyed_by : map (λ k. link_key p number (record_at p k)) (piece_places p o) ≡ filter_map (piece_by p number o) p.list
    pieces_keyed_by = keys_from (λ k. link_key p number (record_at p k)) 0 p.list (λ i h. let e : 0 + i ≡ i = omega arith in ap (λ k. link_key p number (record_at p k)) e)
