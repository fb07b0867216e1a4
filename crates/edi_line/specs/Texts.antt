-- Byte strings.
use Rattle.std.proofs.Common.{ap}
use Rattle.std.proofs.lemmas.Bool.{eqb-true}
use Rattle.std.specs.Prelude.{nat_eq}
use Rattle.std.specs.Hash.{Alike}
use Rattle.std.specs.Hash as fed

-- equal bytes have equal hashes
pub bytes_alike : Alike nat_eq fed.u8
bytes_alike = record { fed = λ x y same. ap fed.u8 (eqb-true x y same) }
