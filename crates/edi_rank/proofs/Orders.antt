-- The orders of keys are total, and their ties are equal.
use Rattle.std.proofs.Common.{◌≡◌, sym, ap, ◌∙◌, Ordering, Less}
use Rattle.std.specs.Cmp.{IsTotalOrder}
use Rattle.std.specs.Cmp.Lexicographic.{options_total}
use Rattle.std.specs.Option.{option_cmp}
use Rattle.std.specs.Ordering.{ordering_reverse}
use Rattle.std.proofs.lemmas.Cmp.{then_total, on_total, lists_total, nat_cmp_total}
use Rattle.std.proofs.lemmas.Map.Lookups.{CmpEqualImpliesEq, exact_unsigned}
use Rattle.edi_line.proofs.Truths.{first_tied, then_tied}
use Rattle.edi_record.specs.Orders.{bytes_cmp, extra_cmp}
use Rattle.edi_schema.specs.Roles.{role_rank}
use Rattle.edi_schema.proofs.RoleTests.{one_role}
use Rattle.edi_plan.specs.Plans.{kind_rank}
use Rattle.edi_plan.proofs.PlaceLemmas.{one_kind}
use Rattle.edi_rank.specs.declared.keys.NumberedEnd.{NumberedEnd}
use Rattle.edi_rank.specs.declared.keys.LinkKey.{LinkKey}
use Rattle.edi_rank.specs.declared.keys.ObjectKey.{ObjectKey}
use Rattle.edi_rank.specs.declared.keys.FaceKey.{FaceKey}
use Rattle.edi_plan.specs.Orders.{attribute_cmp}
use Rattle.edi_rank.specs.Keys.{end_cmp, link_key_cmp, object_key_cmp, face_key_cmp}
use Rattle.edi_plan.proofs.Orders.{exact_lists, exact_options, bytes_total, bytes_exact, attribute_total, attribute_exact, extra_total, extra_exact}

pub end_total : IsTotalOrder end_cmp
end_total = then_total (on_total (λ (a : NumberedEnd). kind_rank a.kind) nat_cmp_total) (then_total (on_total (λ (a : NumberedEnd). a.number) nat_cmp_total) (on_total (λ (a : NumberedEnd). a.sns) (options_total bytes_total)))

pub end_exact : CmpEqualImpliesEq end_cmp
end_exact a b h =
    let more = then_tied _ _ h in
    let r = one_kind a.kind b.kind (exact_unsigned (kind_rank a.kind) (kind_rank b.kind) (first_tied _ _ h)) in
    let n = exact_unsigned a.number b.number (first_tied _ _ more) in
    let s = exact_options bytes_cmp bytes_exact a.sns b.sns (then_tied _ _ more) in
    λ i. record { kind = r i; number = n i; sns = s i }

pub link_key_total : IsTotalOrder link_key_cmp
link_key_total = then_total (on_total (λ (a : LinkKey). a.class) nat_cmp_total) (then_total (on_total (λ (a : LinkKey). a.ends) (lists_total end_total))
    (then_total (on_total (λ (a : LinkKey). a.attributes) (lists_total attribute_total)) (on_total (λ (a : LinkKey). a.extras) (lists_total extra_total))))

pub link_key_exact : CmpEqualImpliesEq link_key_cmp
link_key_exact a b h =
    let h1 = then_tied _ _ h in
    let h2 = then_tied _ _ h1 in
    let c = exact_unsigned a.class b.class (first_tied _ _ h) in
    let x = exact_lists end_cmp end_exact a.ends b.ends (first_tied _ _ h1) in
    let t = exact_lists attribute_cmp attribute_exact a.attributes b.attributes (first_tied _ _ h2) in
    let e = exact_lists extra_cmp extra_exact a.extras b.extras (then_tied _ _ h2) in
    λ i. record { class = c i; ends = x i; attributes = t i; extras = e i }

pub object_key_total : IsTotalOrder object_key_cmp
object_key_total = then_total (on_total (λ (a : ObjectKey). a.class) nat_cmp_total) (then_total (on_total (λ (a : ObjectKey). a.attributes) (lists_total attribute_total)) (then_total (on_total (λ (a : ObjectKey). a.extras) (lists_total extra_total))
    (on_total (λ (a : ObjectKey). a.pieces) (lists_total link_key_total))))

pub face_key_total : IsTotalOrder face_key_cmp
face_key_total = then_total (on_total (λ (a : FaceKey). a.arc) nat_cmp_total) (on_total (λ (a : FaceKey). role_rank a.side) nat_cmp_total)

pub face_key_exact : CmpEqualImpliesEq face_key_cmp
face_key_exact a b h =
    let r = exact_unsigned a.arc b.arc (first_tied _ _ h) in
    let n = one_role a.side b.side (exact_unsigned (role_rank a.side) (role_rank b.side) (then_tied _ _ h)) in
    λ i. record { arc = r i; side = n i }

pub face_options_total : IsTotalOrder (option_cmp face_key_cmp)
face_options_total = options_total face_key_total

-- what comes before does not come behind
pub not_both_less : {X : Type 0} {cmp : X → X → Ordering} → IsTotalOrder cmp → (x y : X) → cmp x y ≡ Less → cmp y x ≡ Less → ⊥
not_both_less total x y h g = let e = sym h ∙ (total.antisymm x y ∙ ap ordering_reverse g) in cc
