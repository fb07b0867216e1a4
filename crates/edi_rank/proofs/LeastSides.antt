-- The least of some sides, whatever they are listed by.
use Rattle.std.proofs.Common.{◌≡◌, ℕ, zero, suc, ◌<◌, ◌⊎◌, inl, inr, Bool, true, false, cond, true≢false, List, [], ◌∷◌, filter_map, length, get_or, Option, Some, None, refl, sym, ap, ◌∙◌, subst, arith, Ordering, Less, Equal, Greater, is_gt}
use Rattle.std.specs.Ordering.{ordering_reverse}
use Rattle.std.proofs.lemmas.Cmp.{tied_itself, upto}
use Rattle.edi_schema.specs.Sorted.{insert_sorted, sort_by}
use Rattle.edi_plan.specs.Plans.{first_of}
use Rattle.edi_rank.specs.Keys.{face_key_cmp}
use Rattle.edi_rank.specs.declared.keys.FaceKey.{FaceKey}
use Rattle.edi_rank.specs.inner.ArcSides.{lesser_of}
use Rattle.edi_rank.proofs.Orders.{face_key_total, face_key_exact}

abbrev pub AtMost : FaceKey → FaceKey → Type 0
AtMost a b = is_gt (face_key_cmp a b) ≡ false

-- the least of the sides of which this is true, or none where it is true of none
abbrev pub IsLeastOf : (FaceKey → Type 0) → Option FaceKey → Type 0
IsLeastOf P None = (key : FaceKey) → ¬ (P key)
IsLeastOf P (Some least) = P least × ((key : FaceKey) → P key → AtMost least key)

at_most_itself : (a b : FaceKey) → b ≡ a → AtMost a b
at_most_itself a b e = subst (AtMost a) (sym e) (ap is_gt (tied_itself face_key_total a))

not_above : (a b : FaceKey) → is_gt (face_key_cmp a b) ≡ true → AtMost b a
not_above a b h = ap is_gt (face_key_total.antisymm b a) ∙ go (face_key_cmp a b) h
  where
    go : (o : Ordering) → is_gt o ≡ true → is_gt (ordering_reverse o) ≡ false
    go Less e = absurd (true≢false (sym e))
    go Equal e = refl
    go Greater e = refl

at_most_both : (a b : FaceKey) → AtMost a b → AtMost b a → a ≡ b
at_most_both a b h g = go (face_key_cmp a b) refl h
  where
    go : (o : Ordering) → face_key_cmp a b ≡ o → is_gt o ≡ false → a ≡ b
    go Less e h = absurd (true≢false (sym (ap is_gt (face_key_total.antisymm b a ∙ ap ordering_reverse e)) ∙ g))
    go Equal e h = face_key_exact a b e
    go Greater e h = absurd (true≢false h)

-- one side more
pub least_with : (P Q : FaceKey → Type 0) (o : Option FaceKey) (new : FaceKey) → IsLeastOf P o → ((key : FaceKey) → P key → Q key) → Q new → ((key : FaceKey) → Q key → P key ⊎ (key ≡ new)) → IsLeastOf Q (Some (lesser_of o new))
least_with P Q None new none more is from = (is, λ key q. go key (from key q))
  where
    go : (key : FaceKey) → P key ⊎ (key ≡ new) → AtMost new key
    go key (inl h) = absurd (none key h)
    go key (inr e) = at_most_itself new key e
least_with P Q (Some x) new least more is from = go (is_gt (face_key_cmp new x)) refl
  where
    go : (b : Bool) → is_gt (face_key_cmp new x) ≡ b → IsLeastOf Q (Some (cond b x new))
    go true e = (more x least.0, λ key q. at key (from key q))
      where
        at : (key : FaceKey) → P key ⊎ (key ≡ new) → AtMost x key
        at key (inl h) = least.1 key h
        at key (inr f) = subst (AtMost x) (sym f) (not_above new x e)
    go false e = (is, λ key q. at key (from key q))
      where
        at : (key : FaceKey) → P key ⊎ (key ≡ new) → AtMost new key
        at key (inl h) = upto face_key_total new x key e (least.1 key h)
        at key (inr f) = at_most_itself new key f

-- the same sides
pub least_of_same : (P Q : FaceKey → Type 0) (o : Option FaceKey) → IsLeastOf P o → ((key : FaceKey) → P key → Q key) → ((key : FaceKey) → Q key → P key) → IsLeastOf Q o
least_of_same P Q None none there back = λ key q. none key (back key q)
least_of_same P Q (Some x) least there back = (there x least.0, λ key q. least.1 key (back key q))

pub one_least : (P : FaceKey → Type 0) (o o' : Option FaceKey) → IsLeastOf P o → IsLeastOf P o' → o ≡ o'
one_least P None None none none' = refl
one_least P None (Some y) none least = absurd (none y least.0)
one_least P (Some x) None least none = absurd (none x least.0)
one_least P (Some x) (Some y) least least' = ap Some (at_most_both x y (least.1 y least'.0) (least'.1 x least.0))

first_inserted : (y : FaceKey) (zs : List FaceKey) → first_of (insert_sorted face_key_cmp y zs) ≡ Some (lesser_of (first_of zs) y)
first_inserted y [] = refl
first_inserted y (z ∷ zs) = go (is_gt (face_key_cmp y z))
  where
    go : (b : Bool) → first_of (cond b (z ∷ insert_sorted face_key_cmp y zs) (y ∷ z ∷ zs)) ≡ Some (cond b z y)
    go true = refl
    go false = refl

module _ {A : Type 0} (h : A → Option FaceKey) (d : A) where
  -- some of these puts the side there
  abbrev pub PutBy : List A → FaceKey → Type 0
  PutBy xs key = (j : ℕ) × (j < length xs) × (h (get_or xs j d) ≡ Some key)

  -- the first in order is the least
  pub least_gathered : (xs : List A) → IsLeastOf (PutBy xs) (first_of (sort_by face_key_cmp (filter_map h xs)))
  least_gathered [] = λ key put. let l = put.1 in absurd (omega (arith, l))
  least_gathered (x ∷ xs) = go (h x) refl (least_gathered xs)
    where
      later : (key : FaceKey) → PutBy xs key → PutBy (x ∷ xs) key
      later key put = let l = put.1 in (suc put.0, omega (arith, l), put.2)

      go : (o : Option FaceKey) → h x ≡ o → IsLeastOf (PutBy xs) (first_of (sort_by face_key_cmp (filter_map h xs))) → IsLeastOf (PutBy (x ∷ xs)) (first_of (sort_by face_key_cmp (filter_map h (x ∷ xs))))
      go None e more =
          let same : filter_map h (x ∷ xs) ≡ filter_map h xs = rw e refl in
          subst (λ ys. IsLeastOf (PutBy (x ∷ xs)) (first_of (sort_by face_key_cmp ys))) (sym same)
          (least_of_same (PutBy xs) (PutBy (x ∷ xs)) (first_of (sort_by face_key_cmp (filter_map h xs))) more later (λ key put. back key put.0 put.1 put.2))
        where
          back : (key : FaceKey) (j : ℕ) → j < length (x ∷ xs) → h (get_or (x ∷ xs) j d) ≡ Some key → PutBy xs key
          back key zero l f = let none : None ≡ Some key = sym e ∙ f in cc
          back key (suc j) l f = (j, omega (arith, l), f)
      go (Some y) e more =
          let same : filter_map h (x ∷ xs) ≡ y ∷ filter_map h xs = rw e refl in
          subst (λ ys. IsLeastOf (PutBy (x ∷ xs)) (first_of (sort_by face_key_cmp ys))) (sym same)
          (subst (IsLeastOf (PutBy (x ∷ xs))) (sym (first_inserted y (sort_by face_key_cmp (filter_map h xs))))
          (least_with (PutBy xs) (PutBy (x ∷ xs)) (first_of (sort_by face_key_cmp (filter_map h xs))) y more later (0, omega arith, e) (λ key put. back key put.0 put.1 put.2)))
        where
          back : (key : FaceKey) (j : ℕ) → j < length (x ∷ xs) → h (get_or (x ∷ xs) j d) ≡ Some key → PutBy xs key ⊎ (key ≡ y)
          back key zero l f = let same : Some y ≡ Some key = sym e ∙ f in inr cc
          back key (suc j) l f = inl (j, omega (arith, l), f)
