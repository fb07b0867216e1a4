-- Attributes in order, and their classes.
use Rattle.std.proofs.Common.{◌≡◌, ◌<◌, ℕ, zero, suc, List, [], ◌∷◌, length, map, take, get_or, refl, sym, ap, ap₂, subst, arith, Bor, nat_cmp}
use Rattle.std.specs.Cmp.Lexicographic.{slice_cmp}
use Rattle.std.specs.List.{AllByRecursion}
use Rattle.std.specs.List.Sorted.{IsNonDecreasingBy}
use Rattle.std.specs.Ordering.{ordering_then}
use Rattle.std.proofs.lemmas.List.{get_or-map, length-map}
use Rattle.std.proofs.lemmas.Map.Keys.{le_from_not_gt}
use Rattle.edi_line.proofs.Truths.{first_not_greater}
use Rattle.edi_record.specs.Orders.{text_cmp, value_cmp}
use Rattle.edi_schema.specs.Sorted.{sort_by}
use Rattle.edi_schema.proofs.SortedLists.{NeverFalls-sort_by}
use Rattle.edi_plan.specs.Orders.{attribute_cmp}
use Rattle.edi_plan.specs.declared.record.PlanAttribute.{PlanAttribute}
use Rattle.edi_plan.specs.contracts.record.PlanAttributeOrd.TheImpl.{ghosts as attributes}
use Rattle.edi_plan.proofs.DerivedOrders.{attribute_order}
use Rattle.edi_plan.proofs.Orders.{attribute_total}
use Rattle.edi_objects.proofs.Runs.{never_falls_by}

-- borrowed attributes compare as the attributes do
pub borrowed_cmp : (xs ys : List (Bor PlanAttribute)) → slice_cmp (λ (x y : Bor PlanAttribute). attributes.cmp x.now y.now) xs ys ≡ slice_cmp attribute_cmp (map (λ (a : Bor PlanAttribute). a.now) xs) (map (λ (a : Bor PlanAttribute). a.now) ys)
borrowed_cmp [] [] = refl
borrowed_cmp [] (y ∷ ys) = refl
borrowed_cmp (x ∷ xs) [] = refl
borrowed_cmp (x ∷ xs) (y ∷ ys) = ap₂ ordering_then (attribute_order x.now y.now) (borrowed_cmp xs ys)

-- what holds of all holds of one of the first few
pub one_of_few : {X : Type 0} (P : X → Type 0) (xs : List X) → AllByRecursion P xs → (n k : ℕ) (x : X) → k < length (take n xs) → x ≡ get_or (take n xs) k x → P x
one_of_few P [] all zero k x h is = absurd (omega (arith, h))
one_of_few P [] all (suc n) k x h is = absurd (omega (arith, h))
one_of_few P (y ∷ ys) all zero k x h is = absurd (omega (arith, h))
one_of_few P (y ∷ ys) all (suc n) zero x h is = subst P (sym is) all.0
one_of_few P (y ∷ ys) all (suc n) (suc k) x h is = one_of_few P ys all.1 n k x (omega (arith, h)) is

-- the same of one of all
pub one_of_all : {X : Type 0} (P : X → Type 0) (xs : List X) → AllByRecursion P xs → (k : ℕ) (d : X) → k < length xs → P (get_or xs k d)
one_of_all P [] all k d h = absurd (omega (arith, h))
one_of_all P (y ∷ ys) all zero d h = all.0
one_of_all P (y ∷ ys) all (suc k) d h = one_of_all P ys all.1 k d (omega (arith, h))

pub all_mapped : {X Y : Type 0} (f : X → Y) (P : Y → Type 0) (xs : List X) → AllByRecursion (λ x. P (f x)) xs → AllByRecursion P (map f xs)
all_mapped f P [] all = tt
all_mapped f P (x ∷ xs) all = (all.0, all_mapped f P xs all.1)

-- sorted attributes go by their classes
pub sorted_rise : (ys : List PlanAttribute) (xs : List (Bor PlanAttribute)) → map (λ (a : Bor PlanAttribute). a.now) xs ≡ sort_by attribute_cmp ys → IsNonDecreasingBy (λ (a : Bor PlanAttribute). a.now.atp) xs
sorted_rise ys xs is = λ i j d g h.
    let now : Bor PlanAttribute → PlanAttribute = λ (a : Bor PlanAttribute). a.now in
    let rises : IsNonDecreasingBy (λ (a : PlanAttribute). a.atp) (map now xs) = subst (λ (zs : List PlanAttribute). IsNonDecreasingBy (λ (a : PlanAttribute). a.atp) zs) (sym is)
    (never_falls_by attribute_cmp (λ (a : PlanAttribute). a.atp)
    (λ x y low. le_from_not_gt x.atp y.atp (first_not_greater (nat_cmp x.atp y.atp) (ordering_then (text_cmp x.tex y.tex) (value_cmp x.value y.value)) low))
    (sort_by attribute_cmp ys) (NeverFalls-sort_by attribute_cmp attribute_total ys)) in
    let within : j < length (map now xs) = omega (arith, h, length-map xs now) in
    omega (arith, rises i j d.now g within, ap (λ (a : PlanAttribute). a.atp) (get_or-map now xs i d d.now (omega (arith, g, h))), ap (λ (a : PlanAttribute). a.atp) (get_or-map now xs j d d.now h))
