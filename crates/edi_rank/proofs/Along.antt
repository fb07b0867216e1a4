-- A renaming of places is a permutation of them.
use Rattle.std.proofs.Common.{◌≡◌, ℕ, zero, suc, ◌+◌, ◌<◌, List, [], ◌∷◌, map, filter_map, length, Some, refl, sym, ap, ◌∙◌, subst, arith, IsPermutation, get_or, nat_cmp}
use Rattle.std.proofs.lemmas.Cmp.{nat_cmp_total}
use Rattle.std.proofs.lemmas.List.Sorted.{IsPermutation-sym, IsPermutation-trans}
use Rattle.edi_schema.specs.Sorted.{sort_by}
use Rattle.edi_rank.specs.Same.{OneToOne}
use Rattle.std.proofs.lemmas.Map.Lookups.{exact_unsigned}
use Rattle.edi_schema.proofs.SortedLists.{sort_by-same, IsPermutation-sort_by, SameCounts}
use Rattle.edi_rank.proofs.Gathered.{gathered_equal}

-- n places from one on
abbrev pub places_from : ℕ → ℕ → List ℕ
places_from zero k = []
places_from (suc n) k = k ∷ places_from n (suc k)

pub places_long : (n k : ℕ) → length (places_from n k) ≡ n
places_long zero k = refl
places_long (suc n) k = ap suc (places_long n (suc k))

pub places_at : (n k i : ℕ) → i < n → get_or (places_from n k) i 0 ≡ k + i
places_at zero k i l = absurd (omega (arith, l))
places_at (suc n) k zero l = omega arith
places_at (suc n) k (suc i) l = let e = places_at n (suc k) i (omega (arith, l)) in omega (arith, e)

pub place_here : (n i : ℕ) → i < n → get_or (places_from n 0) i 0 ≡ i
place_here n i l = let e = places_at n 0 i l in omega (arith, e)

all_kept : {X Y : Type 0} (f : X → Y) (xs : List X) → filter_map (λ x. Some (f x)) xs ≡ map f xs
all_kept f [] = refl
all_kept f (x ∷ xs) = ap (λ ys. f x ∷ ys) (all_kept f xs)

all_there : {X : Type 0} (xs : List X) → filter_map (λ x. Some x) xs ≡ xs
all_there [] = refl
all_there (x ∷ xs) = ap (λ ys. x ∷ ys) (all_there xs)

pub places_permuted : (to : ℕ → ℕ) (n m : ℕ) → OneToOne to n m → IsPermutation (map to (places_from n 0)) (places_from m 0)
places_permuted to n m places =
    IsPermutation-trans (map to (places_from n 0)) (sort_by nat_cmp (map to (places_from n 0))) (places_from m 0) (IsPermutation-sym _ _ (IsPermutation-sort_by nat_cmp nat_cmp_total (map to (places_from n 0))))
    (subst (λ zs. IsPermutation zs (places_from m 0)) (sym (sort_by-same nat_cmp nat_cmp_total exact_unsigned (map to (places_from n 0)) (places_from m 0) counts)) (IsPermutation-sort_by nat_cmp nat_cmp_total (places_from m 0)))
  where
    long : OneToOne to (length (places_from n 0)) (length (places_from m 0))
    long = subst (λ k. OneToOne to k (length (places_from m 0))) (sym (places_long n 0)) (subst (OneToOne to n) (sym (places_long m 0)) places)

    same : (i : ℕ) → i < length (places_from n 0) → Some (to (get_or (places_from n 0) i 0)) ≡ Some (get_or (places_from m 0) (to i) 0)
    same i l =
        let l' : i < n = subst (λ k. i < k) (places_long n 0) l in
        ap Some (ap to (place_here n i l') ∙ sym (place_here m (to i) (places.within i l')))

    counts : SameCounts (map to (places_from n 0)) (places_from m 0)
    counts = subst (λ xs. SameCounts xs (places_from m 0)) (all_kept to (places_from n 0))
        (subst (SameCounts (filter_map (λ i. Some (to i)) (places_from n 0))) (all_there (places_from m 0))
        (gathered_equal to (places_from n 0) (places_from m 0) 0 long (λ i. Some (to i)) (λ i. Some i) same))
