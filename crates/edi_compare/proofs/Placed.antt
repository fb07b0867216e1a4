-- Ends with places and SNS are compared in one order.
use Rattle.std.proofs.Common.{◌≡◌, ◌↔◌, ℕ, Bool, IsTrue, List, [], ◌∷◌, map, map-id, Decides, Some, option_map, Result, Ok, Err, IfOk, refl, sym, ap, ◌∙◌, subst, IsPermutation}
use Rattle.std.specs.Cmp.{IsTotalOrder}
use Rattle.std.specs.Ordering.{ordering_then, nat_cmp}
use Rattle.std.specs.declared.cmp.Ordering.{Ordering}
use Rattle.std.specs.Cmp.Lexicographic.{options_total}
use Rattle.std.proofs.lemmas.Cmp.{then_total, on_total, nat_cmp_total}
use Rattle.std.proofs.lemmas.List.Sorted.{IsPermutation-refl, IsPermutation-map}
use Rattle.std.proofs.lemmas.Map.Lookups.{CmpEqualImpliesEq, exact_unsigned}
use Rattle.edi_line.proofs.Truths.{first_tied, then_tied}
use Rattle.edi_record.specs.Orders.{bytes_cmp, text_cmp}
use Rattle.edi_schema.specs.Sorted.{sort_by}
use Rattle.edi_plan.specs.Plans.{first_of, rest_of}
use Rattle.edi_plan.specs.declared.record.PlanEnd.{PlanEnd}
use Rattle.edi_plan.proofs.Orders.{exact_options, bytes_total, bytes_exact}
use Rattle.edi_rank.specs.Same.{moved}
use Rattle.edi_rank.proofs.SameLaws.{map-map}
use Rattle.edi_compare.specs.inner.Checking.{placed_end}
use Rattle.edi_compare.specs.declared.moved_ends.MovedEnd.{MovedEnd}
use Rattle.edi_compare.specs.contracts.moved_ends.MovedEndOrd.TheImpl.{ghosts as ends}
use Rattle.edi_compare.specs.contracts.moved_ends.MovedEndOrd.TheImpl.Laws.{lawful as laws}
use Rattle.edi_compare.specs.contracts.moved_ends.MovedEndPartialEq.TheImpl.{ghosts as end_eq}
use Rattle.edi_compare.proofs.Equal.{decided, permuted, one_order}

-- ends go by place, then SNS
abbrev pub placed_end_cmp : MovedEnd → MovedEnd → Ordering
placed_end_cmp a b = ordering_then (nat_cmp a.target b.target) (text_cmp a.sns b.sns)

pub placed_order : (a b : MovedEnd) → ends.cmp a b ≡ placed_end_cmp a b
placed_order a b = refl

pub placed_total : IsTotalOrder placed_end_cmp
placed_total = then_total (on_total (λ (a : MovedEnd). a.target) nat_cmp_total) (on_total (λ (a : MovedEnd). a.sns) (options_total bytes_total))

pub placed_exact : CmpEqualImpliesEq placed_end_cmp
placed_exact a b h =
    let n = exact_unsigned a.target b.target (first_tied _ _ h) in
    let s = exact_options bytes_cmp bytes_exact a.sns b.sns (then_tied _ _ h) in
    λ i. record { target = n i; sns = s i }

pub placed_decided : (a b : MovedEnd) → Decides (end_eq.eq a b) (a ≡ b)
placed_decided = decided end_eq.eq ends.cmp placed_end_cmp laws.matches_eq placed_order placed_total placed_exact

-- back to the ends

given : MovedEnd → PlanEnd
given e = record { target = e.target; sns = e.sns }

given_placed : (xs : List PlanEnd) → map given (map placed_end xs) ≡ xs
unfolding given
given_placed xs = map-map given placed_end xs ∙ map-id xs

permuted_back : (xs ys : List PlanEnd) → IsPermutation (map placed_end xs) (map placed_end ys) → IsPermutation xs ys
permuted_back xs ys same =
    subst (λ zs. IsPermutation zs ys) (given_placed xs) (subst (λ zs. IsPermutation (map given (map placed_end xs)) zs) (given_placed ys) (IsPermutation-map given _ _ same))

pub placed_permuted : (xs ys : List PlanEnd) → sort_by placed_end_cmp (map placed_end xs) ≡ sort_by placed_end_cmp (map placed_end ys) → IsPermutation xs ys
placed_permuted xs ys e = permuted_back xs ys (permuted placed_end_cmp placed_total placed_exact (map placed_end xs) (map placed_end ys) e)

pub placed_in_order : (xs ys : List PlanEnd) → IsPermutation xs ys → sort_by placed_end_cmp (map placed_end xs) ≡ sort_by placed_end_cmp (map placed_end ys)
placed_in_order xs ys same = one_order placed_end_cmp placed_total placed_exact (map placed_end xs) (map placed_end ys) (IsPermutation-map placed_end xs ys same)

-- a list of one end is in order
one_end : (x y : PlanEnd) → IsPermutation (x ∷ []) (y ∷ []) → y ≡ x
one_end x y same =
    let e : placed_end x ∷ [] ≡ placed_end y ∷ [] = placed_in_order (x ∷ []) (y ∷ []) same in
    let f : placed_end x ≡ placed_end y = cc in
    λ i. record { target = sym (ap (λ (e : MovedEnd). e.target) f) i; sns = sym (ap (λ (e : MovedEnd). e.sns) f) i }

pub alone : (to : ℕ → ℕ) (r : Bool) (x y : PlanEnd) → (IsTrue r ↔ (y ≡ moved to x)) → IsTrue r ↔ IsPermutation (map (moved to) (x ∷ [])) (y ∷ [])
alone to r x y h = (λ t. subst (λ z. IsPermutation (moved to x ∷ []) (z ∷ [])) (sym (h.0 t)) (IsPermutation-refl _), λ same. h.1 (one_end (moved to x) y same))

pub placed_moved : (to : ℕ → ℕ) (xs : List PlanEnd) → map (λ e. placed_end (moved to e)) xs ≡ map placed_end (map (moved to) xs)
placed_moved to xs = sym (map-map placed_end (moved to) xs)

pub alone_there : (to : ℕ → ℕ) (r : Bool) (x y : PlanEnd) (ends others : List PlanEnd) → ends ≡ x ∷ [] → others ≡ y ∷ [] → (IsTrue r ↔ (y ≡ moved to x)) → IsTrue r ↔ IsPermutation (map (moved to) ends) others
alone_there to r x y ends others e f h = rw (e, f) (alone to r x y h)

-- the first end, and what is said of the others

pub first_known : {E : Type 0} (to : ℕ → ℕ) (x y : PlanEnd) (ends others rest more : List PlanEnd) (r : Result Bool E) → ends ≡ x ∷ rest → others ≡ y ∷ more → y ≡ moved to x
    → IfOk r (λ answer. IsTrue answer ↔ IsPermutation (map (moved to) rest) more)
    → IfOk r (λ answer. IsTrue answer ↔ ((first_of others ≡ option_map (moved to) (first_of ends)) × IsPermutation (map (moved to) (rest_of ends)) (rest_of others)))
first_known to x y ends others rest more (Ok answer) e f same contents = rw (e, f) (λ t. (ap Some same, contents.0 t), λ both. contents.1 both.1)
first_known to x y ends others rest more (Err error) e f same contents = tt
