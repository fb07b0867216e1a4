-- Numbers of what records hold: the first position whose key isn't less, and numbers that are made one after another.
use Rattle.std.proofs.Common.{◌≡◌, ℕ, ◌+◌, ◌<◌, ◌⊎◌, inl, inr, Bool, true, false, true≢false, List, [], ◌∷◌, ◌++◌, get_or, length, refl, sym, subst, ap, ◌∙◌, arith, Ordering, is_lt}
use Rattle.std.proofs.Math.Seq.{get_or-append_seam}
use Rattle.std.proofs.lemmas.Bool.{cases_eq}
use Rattle.std.proofs.lemmas.List.{get_or_append_left}
use Rattle.std.specs.Cmp.{IsTotalOrder}
use Rattle.std.specs.List.Sorted.{IsPartitionPoint, IsPartitionedBy}
use Rattle.std.specs.Ordering.{is_eq, is_gt, ordering_reverse}
use Rattle.std.proofs.lemmas.Cmp.{upto}
use Rattle.edi_line.proofs.Truths.{less_is}
use Rattle.edi_matching.specs.inner.Additions.{AreInOrder, IsFirstFrom}
use Rattle.edi_matching.proofs.LoneKeys.{IsUpTo, not_less, rises}

module _ {K : Type 0} (cmp : K → K → Ordering) (eq : K → K → Bool) (total : IsTotalOrder cmp) (ties : (x y : K) → eq x y ≡ is_eq (cmp x y)) where
  -- what is up to one that is less is less
  up_then_less : (a b c : K) → IsUpTo cmp total a b → is_lt (cmp b c) ≡ true → is_lt (cmp a c) ≡ true
  up_then_less a b c up less = go (is_lt (cmp a c)) refl
    where
      go : (t : Bool) → is_lt (cmp a c) ≡ t → is_lt (cmp a c) ≡ true
      go true e = e
      go false e =
          let back : IsUpTo cmp total c b = upto total c a b (not_less cmp total a c e) up in
          absurd (true≢false (sym (ap is_gt (total.antisymm c b ∙ ap ordering_reverse (less_is (cmp b c) less))) ∙ back))

  pub parted : {X : Type 0} (entries : List (K × X)) (key : K) → AreInOrder cmp entries → IsPartitionedBy (λ (z : K × X). is_lt (cmp z.0 key)) entries
  parted entries key order i j d up within less = up_then_less (get_or entries i d).0 (get_or entries j d).0 key (rises cmp eq total ties entries order i j d up within) less

pub first_there : {K X : Type 0} (cmp : K → K → Ordering) (entries : List (K × X)) (key : K) (at : ℕ)
    → IsPartitionPoint (λ (z : K × X). is_lt (cmp z.0 key) ≡ true) (λ (z : K × X). is_lt (cmp z.0 key) ≡ false) entries at → IsFirstFrom cmp entries 0 key at
first_there cmp entries key at parts = record {
  onward = omega arith;
  less = λ k d low high. parts.0 k d low high;
  found = λ d within. parts.1 at d (omega arith) within;
}

-- what holds of each of the numbers so far holds of one more
pub each_more : (P : ℕ → ℕ → Type 0) (old new : List ℕ) (n x : ℕ) → length old ≡ n → new ≡ old ++ x ∷ [] → P n x → ((k : ℕ) → k < n → P k (get_or old k 0)) → (k : ℕ) → k < n + 1 → P k (get_or new k 0)
each_more P old new n x long is here before k below = subst (λ (ys : List ℕ). P k (get_or ys k 0)) (sym is) (go (cases_eq k n))
  where
    go : (k ≡ n) ⊎ (k ≡ n → ⊥) → P k (get_or (old ++ x ∷ []) k 0)
    go (inl e) =
        subst (λ m. P m (get_or (old ++ x ∷ []) m 0)) (long ∙ sym e)
        (subst (λ y. P (length old) y) (sym (get_or-append_seam old x [] 0)) (subst (λ m. P m x) (sym long) here))
    go (inr ne) = let low : k < n = omega (arith, below) in subst (λ y. P k y) (sym (get_or_append_left old (x ∷ []) 0 k (omega (arith, low, long)))) (before k low)
