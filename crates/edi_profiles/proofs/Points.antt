-- Points of two coordinates, in their order and as text.
use Rattle.std.proofs.Common.{◌≡◌, ◌∙◌, ap, ap₂, refl, [], ◌∷◌, ◌++◌, None}
use Rattle.std.specs.Ordering.{ordering_then, int_cmp}
use Rattle.std.specs.Option.{option_cmp}
use Rattle.std.specs.declared.cmp.Ordering.{Ordering}
use Rattle.std.specs.declared.cmp.Ordering.TheVariants.{Less, Equal, Greater}
use Rattle.edi_line.specs.Bytes.{semicolon}
use Rattle.edi_line.specs.Number.{signed_text}
use Rattle.edi_record.specs.Orders.{point_cmp}
use Rattle.edi_record.specs.Texts.{point_text, third_text}
use Rattle.edi_record.specs.declared.record.Point.{Point}

then_equal : (o : Ordering) → ordering_then o Equal ≡ o
then_equal Less = refl
then_equal Equal = refl
then_equal Greater = refl

pub flat_order : (a b : Point) → a.z ≡ None → b.z ≡ None → point_cmp a b ≡ ordering_then (int_cmp a.x b.x) (int_cmp a.y b.y)
flat_order a b h g = ap (ordering_then (int_cmp a.x b.x)) (ap (ordering_then (int_cmp a.y b.y)) (ap₂ (option_cmp int_cmp) h g) ∙ then_equal (int_cmp a.y b.y))

pub flat_text : (a : Point) → a.z ≡ None → point_text a ≡ signed_text a.x ++ semicolon ∷ (signed_text a.y ++ semicolon ∷ [])
unfolding point_text
flat_text a h = ap (λ z. signed_text a.x ++ semicolon ∷ (signed_text a.y ++ semicolon ∷ third_text z)) h
