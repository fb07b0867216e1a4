-- What is gathered from the records of a plan, by their places.
use Rattle.std.proofs.Common.{◌≡◌, ℕ, suc, ◌+◌, ◌<◌, Bool, cond, List, [], ◌∷◌, filter_map, length, get_or, Option, Some, None, refl, sym, ap, ◌∙◌, arith, sum_by, count_by, zero-add}
use Rattle.std.proofs.lemmas.List.Sums.{sum_by-cons}
use Rattle.edi_rank.specs.Same.{OneToOne}
use Rattle.edi_topo.proofs.Sums.{sum_by-below}
use Rattle.edi_rank.proofs.Sums.{sum_below-renamed}
use Rattle.edi_schema.proofs.SortedLists.{count_by-cons, SameCounts}

-- what is gathered from a list, by the places

abbrev weight : {Y : Type 0} → (Y → Bool) → Option Y → ℕ
weight test None = 0
weight test (Some y) = cond (test y) 1 0

count_by-filter_map : {X Y : Type 0} (test : Y → Bool) (h : X → Option Y) (xs : List X) → count_by test (filter_map h xs) ≡ sum_by (λ x. weight test (h x)) xs
count_by-filter_map test h [] = refl
count_by-filter_map test h (x ∷ xs) = go (h x) refl (count_by-filter_map test h xs) ∙ sym (sum_by-cons (λ x. weight test (h x)) x xs)
  where
    go : (o : Option _) → h x ≡ o → count_by test (filter_map h xs) ≡ sum_by (λ x. weight test (h x)) xs → count_by test (filter_map h (x ∷ xs)) ≡ weight test (h x) + sum_by (λ x. weight test (h x)) xs
    go None e more = rw e (more ∙ sym (zero-add _))
    go (Some y) e more = rw e (count_by-cons test y (filter_map h xs) ∙ ap (λ k. cond (test y) 1 0 + k) more)

pub gathered_equal : {X Y : Type 0} (to : ℕ → ℕ) (xs ys : List X) (d : X) → OneToOne to (length xs) (length ys) → (h k : X → Option Y)
    → ((i : ℕ) → i < length xs → h (get_or xs i d) ≡ k (get_or ys (to i) d)) → SameCounts (filter_map h xs) (filter_map k ys)
gathered_equal to xs ys d places h k same test =
    count_by-filter_map test h xs ∙ (sum_by-below (λ x. weight test (h x)) xs d
    ∙ (sum_below-renamed to (length xs) (length ys) places (λ i. weight test (h (get_or xs i d))) (λ i. weight test (k (get_or ys i d))) (λ i l. ap (weight test) (same i l))
    ∙ (sym (sum_by-below (λ x. weight test (k x)) ys d) ∙ sym (count_by-filter_map test k ys))))

-- lists that give the same at each place

pub gathered_same : {A B X : Type 0} (h : A → Option X) (g : B → Option X) (xs : List A) (ys : List B) (d : A) (e : B) → length xs ≡ length ys
    → ((i : ℕ) → i < length xs → h (get_or xs i d) ≡ g (get_or ys i e)) → filter_map h xs ≡ filter_map g ys
gathered_same h g [] [] d e long same = refl
gathered_same h g [] (y ∷ ys) d e long same = absurd (omega (arith, long))
gathered_same h g (x ∷ xs) [] d e long same = absurd (omega (arith, long))
gathered_same h g (x ∷ xs) (y ∷ ys) d e long same =
    go (g y) (same 0 (omega arith)) refl (gathered_same h g xs ys d e (omega (arith, long)) (λ i l. same (suc i) (omega (arith, l))))
  where
    go : (o : Option _) → h x ≡ g y → g y ≡ o → filter_map h xs ≡ filter_map g ys → filter_map h (x ∷ xs) ≡ filter_map g (y ∷ ys)
    go None f k more = rw (f, k) more
    go (Some z) f k more = rw (f, k) (ap (λ zs. z ∷ zs) more)
