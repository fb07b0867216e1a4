-- The derived orders of values and extras are the written ones.
use Rattle.std.proofs.Common.{◌≡◌, refl, ap, nat_cmp}
use Rattle.std.specs.Ordering.{ordering_then}
use Rattle.edi_record.specs.Orders.{bytes_cmp, value_cmp, extra_cmp, point_cmp}
use Rattle.edi_record.specs.declared.record.Value.{Value}
use Rattle.edi_record.specs.declared.record.Value.TheVariants.{Number, Bytes}
use Rattle.edi_record.specs.declared.record.Extra.{Extra}
use Rattle.edi_record.specs.declared.record.Point.{Point}
use Rattle.edi_record.specs.contracts.record.ValueOrd.TheImpl.{ghosts as values}
use Rattle.edi_record.specs.contracts.record.ExtraOrd.TheImpl.{ghosts as extras}
use Rattle.edi_record.specs.contracts.record.PointOrd.TheImpl.{ghosts as points}

pub value_order : (a b : Value) → values.cmp a b ≡ value_cmp a b
value_order (Number m) (Number n) = refl
value_order (Number m) (Bytes c) = refl
value_order (Bytes b) (Number n) = refl
value_order (Bytes b) (Bytes c) = refl

pub extra_order : (a b : Extra) → extras.cmp a b ≡ extra_cmp a b
extra_order a b = ap (λ o. ordering_then (bytes_cmp a.code b.code) (ordering_then (nat_cmp a.nature b.nature) (ordering_then (nat_cmp a.format b.format) o))) (value_order a.value b.value)

pub point_order : (a b : Point) → points.cmp a b ≡ point_cmp a b
point_order a b = refl
