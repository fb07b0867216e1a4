-- Identifiers of links that end with rising numbers.
use Rattle.std.specs.Prelude.{◌≡◌, ◌≢◌, ℕ, ◌+◌, ◌-◌, ◌*◌, ◌%◌, ◌^◌, ◌<◌, Bool, ◌&&◌, true, nat_le, List, length, Some, slice_get, if◌then◌else◌}
use Rattle.std.specs.List.{fold}
use Rattle.edi_record.specs.declared.record.Record.{Record}
use Rattle.edi_record.specs.Records.{is_link}
use Rattle.edi_plan.specs.inner.Hints.{last_bytes}

-- the number with one more digit, or 0 behind any other byte
abbrev pub with_digit : ℕ → ℕ → ℕ
with_digit number byte = if nat_le 48 byte && nat_le byte 57 then ((number * 10) % 2 ^ 64 + (byte - 48)) % 2 ^ 64 else 0

-- the number that the digits at the end spell, as far as 64 bits hold it
unfoldable pub end_number : List ℕ → ℕ
end_number rid = fold with_digit 0 rid

-- the length, and the last six bytes as digits of a number
unfoldable pub length_and_end : List ℕ → ℕ
length_and_end rid = ((length rid * 4294967296) % 2 ^ 64 + last_bytes rid) % 2 ^ 64

-- the number of a link's identifier, in one of two ways
unfoldable pub link_number : Bool → List ℕ → ℕ
link_number by_digits rid = if by_digits then end_number rid else length_and_end rid

-- no two links have one identifier
abbrev pub LinksDiffer : List Record → Type 0
LinksDiffer list =
    (j k : ℕ) (q r : Record) → j < k → slice_get list j ≡ Some q → slice_get list k ≡ Some r → is_link q.kind ≡ true
    → is_link r.kind ≡ true → q.rid ≢ r.rid
