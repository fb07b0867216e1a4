-- The derived orders of keys are the written ones.
use Rattle.std.proofs.Common.{◌≡◌, ap, nat_cmp}
use Rattle.std.specs.Cmp.Lexicographic.{slice_cmp}
use Rattle.std.specs.Ordering.{ordering_then}
use Rattle.edi_record.specs.Orders.{text_cmp}
use Rattle.edi_record.specs.declared.record.Extra.{Extra}
use Rattle.edi_record.proofs.KindOrder.{kind_order}
use Rattle.edi_record.proofs.ValueOrder.{extra_order}
use Rattle.edi_schema.proofs.RoleOrder.{role_order}
use Rattle.edi_plan.specs.declared.record.PlanAttribute.{PlanAttribute}
use Rattle.edi_plan.proofs.DerivedOrders.{attribute_order}
use Rattle.edi_rank.specs.Keys.{end_cmp, link_key_cmp, object_key_cmp, face_key_cmp}
use Rattle.edi_rank.specs.declared.keys.NumberedEnd.{NumberedEnd}
use Rattle.edi_rank.specs.declared.keys.LinkKey.{LinkKey}
use Rattle.edi_rank.specs.declared.keys.FaceKey.{FaceKey}
use Rattle.edi_rank.specs.contracts.keys.NumberedEndOrd.TheImpl.{ghosts as ends}
use Rattle.edi_rank.specs.contracts.keys.FaceKeyOrd.TheImpl.{ghosts as faces}
use Rattle.edi_rank.specs.declared.keys.ObjectKey.{ObjectKey}
use Rattle.edi_rank.specs.contracts.keys.ObjectKeyOrd.TheImpl.{ghosts as objects}
use Rattle.edi_rank.specs.contracts.keys.LinkKeyOrd.TheImpl.{ghosts as links}

pub end_order : (a b : NumberedEnd) → ends.cmp a b ≡ end_cmp a b
end_order a b = ap (λ o. ordering_then o (ordering_then (nat_cmp a.number b.number) (text_cmp a.sns b.sns))) (kind_order a.kind b.kind)

pub face_order : (a b : FaceKey) → faces.cmp a b ≡ face_key_cmp a b
face_order a b = ap (λ o. ordering_then (nat_cmp a.arc b.arc) o) (role_order a.side b.side)

pub link_order : (a b : LinkKey) → links.cmp a b ≡ link_key_cmp a b
link_order a b =
    λ i. ordering_then (nat_cmp a.class b.class) (ordering_then (slice_cmp (λ (x y : NumberedEnd). end_order x y i) a.ends b.ends)
    (ordering_then (slice_cmp (λ (x y : PlanAttribute). attribute_order x y i) a.attributes b.attributes) (slice_cmp (λ (x y : Extra). extra_order x y i) a.extras b.extras)))

pub object_order : (a b : ObjectKey) → objects.cmp a b ≡ object_key_cmp a b
object_order a b =
    λ i. ordering_then (nat_cmp a.class b.class) (ordering_then (slice_cmp (λ (x y : PlanAttribute). attribute_order x y i) a.attributes b.attributes)
    (ordering_then (slice_cmp (λ (x y : Extra). extra_order x y i) a.extras b.extras) (slice_cmp (λ (x y : LinkKey). link_order x y i) a.pieces b.pieces)))
