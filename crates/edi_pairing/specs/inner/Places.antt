-- The places of names, in a table.
use Rattle.std.specs.Prelude.{◌≡◌, ℕ, ◌<◌, List, length, Option, MatchOption}
use Rattle.edi_pairing.specs.Names.{name_at}
use Rattle.edi_pairing.specs.declared.names.RecordName.{RecordName}
use Rattle.edi_pairing.specs.declared.places.BorrowedName.{BorrowedName}

-- a name without where it lies in memory
abbrev pub owned_name : BorrowedName → RecordName
owned_name n = record { kind = n.kind; rid = n.rid.now }

-- the place of a name, or there is none
abbrev pub IsPlaceIfAny : List RecordName → RecordName → Option ℕ → Type 0
IsPlaceIfAny names name found =
    MatchOption found ((t : ℕ) → t < length names → name_at names t ≡ name → ⊥)
    (λ t. (t < length names) × (name_at names t ≡ name))
