-- Laws of matchings.
use Rattle.std.specs.Prelude.{◌≡◌, map, Some}
use Rattle.edi_schema.specs.Classes.{Classes}
use Rattle.edi_plan.specs.Plans.{PlanData}
use Rattle.edi_plan.specs.Whole.{IsWholePlan}
use Rattle.edi_compare.specs.Pairings.{PairingCarries}
use Rattle.edi_compare.specs.declared.pairing.Pairing.{Pairing}
use Rattle.edi_matching.specs.Matchings.{MatchingHolds, IsTotal, targets_of}
use Rattle.edi_matching.specs.declared.matching.Matching.{Matching}

-- the pairing that a matching is where each record is matched
abbrev pub pairing_of : Matching → Pairing
pairing_of m = record { to = targets_of m.to; turned = m.turned }

-- the matching that a pairing is
abbrev pub matching_of : Pairing → Matching
matching_of pairing = record { to = map Some pairing.to; turned = pairing.turned }

-- a matching that holds and is total, between plans with one character set, is a pairing that carries
abbrev pub TotalIsPairing : Type 0
TotalIsPairing =
    (s : Classes) (p q : PlanData) (m : Matching) → MatchingHolds s p q m → IsTotal p q m → q.cse ≡ p.cse
    → PairingCarries s p q (pairing_of m)

-- and a pairing that carries is such a matching
abbrev pub PairingIsTotal : Type 0
PairingIsTotal = (s : Classes) (p q : PlanData) (pairing : Pairing) → IsWholePlan p → PairingCarries s p q pairing
    → MatchingHolds s p q (matching_of pairing) × IsTotal p q (matching_of pairing) × (q.cse ≡ p.cse)
    × (pairing_of (matching_of pairing) ≡ pairing)
