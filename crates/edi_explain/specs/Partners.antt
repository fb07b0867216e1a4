-- The earlier records that rules 301 and 304 speak of.
use Rattle.std.specs.Prelude.{◌≡◌, ℕ, ◌<◌, List, length, slice_get, Some}
use Rattle.edi_record.specs.declared.record.Record.{Record}
use Rattle.edi_plan.specs.PlanOf.{own_name}

-- of rule 301: an earlier record with the name of the one at this place; places are from 0
abbrev pub SharesName : List Record → ℕ → ℕ → Type 0
SharesName list place m =
    (q r : Record) × (m < place) × (slice_get list m ≡ Some q) × (slice_get list place ≡ Some r)
    × (own_name q ≡ own_name r)

-- of rule 304: an earlier link with an end than the record at this place; the first has the first end of all links
abbrev pub HasEnd : List Record → ℕ → ℕ → Type 0
HasEnd list place m =
    (q : Record) × (m < place) × (slice_get list m ≡ Some q) × (0 < length q.ends) × (place < length list)
