-- Records of two sheets, each told by one number.
use Rattle.std.specs.Prelude.{ℕ, ◌+◌, ◌-◌, ◌*◌, ◌/◌, ◌%◌, ◌^◌, Bool, false, true, min, nat_eq, if◌then◌else◌, Option, Some, None}
use Rattle.edi_diff.specs.declared.changes.Proposal.{Proposal}

-- the code of a record of the first sheet, or of the second: twice its place, and one more if it is of the second, or
-- the greatest code if that is less
abbrev pub code_at : Bool → ℕ → ℕ
code_at of_second place = min (place * 2 + (if of_second then 1 else 0)) (2 ^ 64 - 1)

-- whether the record with a code is of the second sheet
abbrev pub is_of_second : ℕ → Bool
is_of_second code = nat_eq (code % 2) 1

-- the place of the record with a code, or the greatest place if that is less
abbrev pub place_by : ℕ → ℕ
place_by code = min (code / 2) (2 ^ 32 - 1)

-- of two places in sheets, one in the first and one in the second, that the record of the first became the one of the
-- second
abbrev pub proposal_if : Bool → Bool → ℕ → ℕ → Option Proposal
proposal_if false true i j = Some (record { place = i; target = j })
proposal_if true false i j = Some (record { place = j; target = i })
proposal_if false false i j = None
proposal_if true true i j = None

-- the same of two codes
abbrev pub proposal_by : ℕ → ℕ → Option Proposal
proposal_by code other = proposal_if (is_of_second code) (is_of_second other) (place_by code) (place_by other)
