-- What holds of texts of pairings.
use Rattle.std.specs.Prelude.{◌≡◌, ℕ, List}
use Rattle.edi_pairing.specs.Names.{AreNames}
use Rattle.edi_pairing.specs.PairingText.{IsPairing, StatesPairing, text_of}
use Rattle.edi_pairing.specs.WrongLines.{IsWrongBy}
use Rattle.edi_pairing.specs.declared.fault.WrongLine.{WrongLine}
use Rattle.edi_pairing.specs.declared.names.RecordName.{RecordName}
use Rattle.edi_compare.specs.declared.pairing.Pairing.{Pairing}

-- the text of a pairing states that pairing and no other
pub record PairingTextsAreUnique : Type 0 where
  pub stated : (a b : List RecordName) (pairing : Pairing) → IsPairing a b pairing
      → StatesPairing a b pairing (text_of a b pairing)
  pub alone : (a b : List RecordName) (pairing other : Pairing) → AreNames b → IsPairing a b pairing
      → StatesPairing a b other (text_of a b pairing) → other ≡ pairing

-- a wrong line has one reason
abbrev pub WrongLinesHaveOneReason : Type 0
WrongLinesHaveOneReason =
    (a b : List RecordName) (file : List ℕ) (line : ℕ) (why other : WrongLine) → AreNames b
    → IsWrongBy a b file line why → IsWrongBy a b file line other → why ≡ other
