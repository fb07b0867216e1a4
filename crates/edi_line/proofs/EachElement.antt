-- What holds of each element of a list, or of one of them.
use Rattle.std.proofs.Common.{◌≡◌, ◌++◌, ◌<◌, ◌⊎◌, inl, inr, ℕ, zero, suc, List, [], ◌∷◌, length, get_or, map, subst, sym, refl, arith}
use Rattle.std.specs.Prelude.{Any, IsPermutation, Some, flat_map, slice_get}
use Rattle.std.specs.List.{AllByRecursion}
use Rattle.std.proofs.lemmas.List.Elements.{All-from_recursion, Contains-append_left, recursion_from_All}
use Rattle.std.proofs.lemmas.List.Sorted.{All-permutation}

module _ {X : Type 0} where
  pub each_weaker : (P Q : X → Type 0) → ((x : X) → P x → Q x) → (xs : List X) → AllByRecursion P xs → AllByRecursion Q xs
  each_weaker P Q f [] all = tt
  each_weaker P Q f (x ∷ xs) all = (f x all.0, each_weaker P Q f xs all.1)

module _ {X : Type 0} (P : X → Type 0) where
  pub each_at : (xs : List X) (i : ℕ) (d : X) → i < length xs → AllByRecursion P xs → P (get_or xs i d)
  each_at [] i d less all = absurd (omega arith)
  each_at (x ∷ xs) zero d less all = all.0
  each_at (x ∷ xs) (suc i) d less all = each_at xs i d (omega arith) all.1

  pub each_from_places : (xs : List X) (d : X) → ((i : ℕ) → i < length xs → P (get_or xs i d)) → AllByRecursion P xs
  each_from_places [] d h = tt
  each_from_places (x ∷ xs) d h = (h 0 (omega arith), each_from_places xs d (λ i less. h (suc i) (omega (arith, less))))

  pub each_from_found : (xs : List X) → ((k : ℕ) (x : X) → slice_get xs k ≡ Some x → P x) → AllByRecursion P xs
  each_from_found [] h = tt
  each_from_found (x ∷ xs) h = (h 0 x refl, each_from_found xs (λ k y e. h (suc k) y e))

  pub each_of_both : (xs ys : List X) → AllByRecursion P xs → AllByRecursion P ys → AllByRecursion P (xs ++ ys)
  each_of_both [] ys front behind = behind
  each_of_both (x ∷ xs) ys front behind = (front.0, each_of_both xs ys front.1 behind)

  pub each_in_front : (xs ys : List X) → AllByRecursion P (xs ++ ys) → AllByRecursion P xs
  each_in_front [] ys all = tt
  each_in_front (x ∷ xs) ys all = (all.0, each_in_front xs ys all.1)

  pub each_behind : (xs ys : List X) → AllByRecursion P (xs ++ ys) → AllByRecursion P ys
  each_behind [] ys all = all
  each_behind (x ∷ xs) ys all = each_behind xs ys all.1

  pub each_in_any_order : (xs ys : List X) → IsPermutation xs ys → AllByRecursion P xs → AllByRecursion P ys
  each_in_any_order xs ys same all = recursion_from_All P ys (All-permutation P xs ys same (All-from_recursion P xs all))

module _ {X Y : Type 0} where
  pub each_mapped : (P : Y → Type 0) (f : X → Y) (xs : List X) → AllByRecursion (λ x. P (f x)) xs → AllByRecursion P (map f xs)
  each_mapped P f [] all = tt
  each_mapped P f (x ∷ xs) all = (all.0, each_mapped P f xs all.1)

  pub each_unmapped : (f : X → Y) (P : Y → Type 0) (xs : List X) → AllByRecursion P (map f xs) → AllByRecursion (λ x. P (f x)) xs
  each_unmapped f P [] all = tt
  each_unmapped f P (x ∷ xs) all = (all.0, each_unmapped f P xs all.1)

  pub each_joined : (P : Y → Type 0) (f : X → List Y) (xs : List X) → AllByRecursion (λ x. AllByRecursion P (f x)) xs → AllByRecursion P (flat_map f xs)
  each_joined P f [] all = tt
  each_joined P f (x ∷ xs) all = each_of_both P (f x) (flat_map f xs) all.0 (each_joined P f xs all.1)

module _ {X : Type 0} (P : X → Type 0) where
  pub any_here : (x : X) (xs : List X) → P x → Any P (x ∷ xs)
  any_here x xs p = (0, x, omega arith, refl, p)

  pub any_later : (x : X) (xs : List X) → Any P xs → Any P (x ∷ xs)
  any_later x xs d = (suc d.0, d.1, omega (arith, d.2), d.3, d.4)

  pub any_cases : (x : X) (xs : List X) → Any P (x ∷ xs) → P x ⊎ Any P xs
  any_cases x xs d = go d.0 d.2 d.3
    where
      go : (k : ℕ) → k < length (x ∷ xs) → get_or (x ∷ xs) k d.1 ≡ d.1 → P x ⊎ Any P xs
      go zero less is = inl (subst P (sym is) d.4)
      go (suc k) less is = inr (k, d.1, omega (arith, less), is, d.4)

  pub any_more : (xs : List X) (y : X) → Any P xs → Any P (xs ++ y ∷ [])
  any_more xs y h = let c = Contains-append_left xs (y ∷ []) h.1 (h.0, h.2, h.3) in (c.0, h.1, c.1, c.2, h.4)
