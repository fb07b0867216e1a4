-- The order of bytes is total, and its ties are equal.
use Rattle.std.proofs.Common.{[], ◌∷◌, refl, ap₂}
use Rattle.std.specs.Cmp.{IsTotalOrder}
use Rattle.std.proofs.lemmas.Cmp.{lists_total, nat_cmp_total}
use Rattle.std.proofs.lemmas.Map.Lookups.{CmpEqualImpliesEq, exact_unsigned}
use Rattle.edi_line.proofs.Truths.{first_tied, then_tied}
use Rattle.edi_record.specs.Orders.{bytes_cmp}

pub bytes_total : IsTotalOrder bytes_cmp
bytes_total = lists_total nat_cmp_total

pub bytes_exact : CmpEqualImpliesEq bytes_cmp
bytes_exact [] [] h = refl
bytes_exact [] (y ∷ ys) h = cc
bytes_exact (x ∷ xs) [] h = cc
bytes_exact (x ∷ xs) (y ∷ ys) h = ap₂ ◌∷◌ (exact_unsigned x y (first_tied _ _ h)) (bytes_exact xs ys (then_tied _ _ h))
