-- The orders of points, values, attributes and extras are total, and their ties are equal.
use Rattle.std.proofs.Common.{◌≡◌, [], ◌∷◌, Some, None, refl, ap, ap₂, nat_cmp, int_cmp, Ordering, Less, Equal}
use Rattle.std.specs.Cmp.{IsTotalOrder}
use Rattle.std.specs.Cmp.Lexicographic.{slice_cmp, options_total}
use Rattle.std.specs.Option.{option_cmp}
use Rattle.std.specs.Ordering.{ordering_reverse}
use Rattle.std.proofs.lemmas.Cmp.{then_total, on_total, lists_total, nat_cmp_total, int_cmp_total}
use Rattle.std.proofs.lemmas.Map.Lookups.{CmpEqualImpliesEq, exact_unsigned, exact_signed}
use Rattle.edi_line.proofs.Truths.{first_tied, then_tied}
use Rattle.edi_record.specs.Orders.{bytes_cmp, point_cmp, points_cmp, value_cmp, extra_cmp}
use Rattle.edi_record.specs.declared.record.Point.{Point}
use Rattle.edi_record.specs.declared.record.Extra.{Extra}
use Rattle.edi_record.specs.declared.record.Value.{Value}
use Rattle.edi_record.specs.declared.record.Value.TheVariants.{Number, Bytes}
use Rattle.edi_plan.specs.declared.record.PlanAttribute.{PlanAttribute}
use Rattle.edi_plan.specs.Orders.{attribute_cmp}

-- ties of what is compared first and then

pub exact_lists : {X : Type 0} (cmp : X → X → Ordering) → CmpEqualImpliesEq cmp → CmpEqualImpliesEq (slice_cmp cmp)
exact_lists cmp exact [] [] h = refl
exact_lists cmp exact [] (y ∷ ys) h = cc
exact_lists cmp exact (x ∷ xs) [] h = cc
exact_lists cmp exact (x ∷ xs) (y ∷ ys) h = ap₂ ◌∷◌ (exact x y (first_tied _ _ h)) (exact_lists cmp exact xs ys (then_tied _ _ h))

pub exact_options : {X : Type 0} (cmp : X → X → Ordering) → CmpEqualImpliesEq cmp → CmpEqualImpliesEq (option_cmp cmp)
exact_options cmp exact None None h = refl
exact_options cmp exact None (Some y) h = cc
exact_options cmp exact (Some x) None h = cc
exact_options cmp exact (Some x) (Some y) h = ap Some (exact x y h)

-- each order

pub bytes_total : IsTotalOrder bytes_cmp
bytes_total = lists_total nat_cmp_total

pub bytes_exact : CmpEqualImpliesEq bytes_cmp
bytes_exact = exact_lists nat_cmp exact_unsigned

pub point_total : IsTotalOrder point_cmp
point_total = then_total (on_total (λ (a : Point). a.x) int_cmp_total) (then_total (on_total (λ (a : Point). a.y) int_cmp_total) (on_total (λ (a : Point). a.z) (options_total int_cmp_total)))

pub points_total : IsTotalOrder points_cmp
points_total = lists_total point_total

value_antisymm : (a b : Value) → value_cmp a b ≡ ordering_reverse (value_cmp b a)
value_antisymm (Number a) (Number b) = int_cmp_total.antisymm a b
value_antisymm (Number a) (Bytes b) = refl
value_antisymm (Bytes a) (Number b) = refl
value_antisymm (Bytes a) (Bytes b) = bytes_total.antisymm a b

value_trans : (a b c : Value) → value_cmp a b ≡ Less → value_cmp b c ≡ Less → value_cmp a c ≡ Less
value_trans (Number a) (Number b) (Number c) h g = int_cmp_total.trans a b c h g
value_trans (Number a) (Number b) (Bytes c) h g = refl
value_trans (Number a) (Bytes b) (Number c) h g = cc
value_trans (Number a) (Bytes b) (Bytes c) h g = refl
value_trans (Bytes a) (Number b) (Number c) h g = cc
value_trans (Bytes a) (Number b) (Bytes c) h g = cc
value_trans (Bytes a) (Bytes b) (Number c) h g = cc
value_trans (Bytes a) (Bytes b) (Bytes c) h g = bytes_total.trans a b c h g

value_congr : (a b c : Value) → value_cmp a b ≡ Equal → value_cmp a c ≡ value_cmp b c
value_congr (Number a) (Number b) (Number c) h = int_cmp_total.congr a b c h
value_congr (Number a) (Number b) (Bytes c) h = refl
value_congr (Number a) (Bytes b) c h = cc
value_congr (Bytes a) (Number b) c h = cc
value_congr (Bytes a) (Bytes b) (Number c) h = refl
value_congr (Bytes a) (Bytes b) (Bytes c) h = bytes_total.congr a b c h

pub value_total : IsTotalOrder value_cmp
value_total = record { antisymm = value_antisymm; trans = value_trans; congr = value_congr }

pub value_exact : CmpEqualImpliesEq value_cmp
value_exact (Number a) (Number b) h = ap Number (exact_signed a b h)
value_exact (Number a) (Bytes b) h = cc
value_exact (Bytes a) (Number b) h = cc
value_exact (Bytes a) (Bytes b) h = ap Bytes (bytes_exact a b h)

pub point_exact : CmpEqualImpliesEq point_cmp
point_exact a b h =
    let more = then_tied _ _ h in
    let x = exact_signed a.x b.x (first_tied _ _ h) in
    let y = exact_signed a.y b.y (first_tied _ _ more) in
    let z = exact_options int_cmp exact_signed a.z b.z (then_tied _ _ more) in
    λ i. record { x = x i; y = y i; z = z i }

pub attribute_total : IsTotalOrder attribute_cmp
attribute_total = then_total (on_total (λ (a : PlanAttribute). a.atp) nat_cmp_total) (then_total (on_total (λ (a : PlanAttribute). a.tex) (options_total bytes_total)) (on_total (λ (a : PlanAttribute). a.value) value_total))

pub attribute_exact : CmpEqualImpliesEq attribute_cmp
attribute_exact a b h =
    let more = then_tied _ _ h in
    let c = exact_unsigned a.atp b.atp (first_tied _ _ h) in
    let t = exact_options bytes_cmp bytes_exact a.tex b.tex (first_tied _ _ more) in
    let v = value_exact a.value b.value (then_tied _ _ more) in
    λ i. record { atp = c i; tex = t i; value = v i }

pub extra_total : IsTotalOrder extra_cmp
extra_total = then_total (on_total (λ (a : Extra). a.code) bytes_total) (then_total (on_total (λ (a : Extra). a.nature) nat_cmp_total) (then_total (on_total (λ (a : Extra). a.format) nat_cmp_total) (on_total (λ (a : Extra). a.value) value_total)))

pub extra_exact : CmpEqualImpliesEq extra_cmp
extra_exact a b h =
    let more = then_tied _ _ h in
    let last = then_tied _ _ more in
    let c = bytes_exact a.code b.code (first_tied _ _ h) in
    let n = exact_unsigned a.nature b.nature (first_tied _ _ more) in
    let f = exact_unsigned a.format b.format (first_tied _ _ last) in
    let v = value_exact a.value b.value (then_tied _ _ last) in
    λ i. record { code = c i; nature = n i; format = f i; value = v i }
