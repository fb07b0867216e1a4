-- The parts that pointers have in common, in their bytes.
use Rattle.std.specs.Prelude.{ℕ, ◌+◌, ◌-◌, ◌≤◌, List, [], length, take, slice_range}
use Rattle.edi_record.specs.Texts.{IsPointer}

-- these are the bytes of a pointer in front of its identifier
abbrev pub IsStart : List ℕ → List ℕ → List ℕ → List ℕ → Type 0
IsStart bytes lot subset rty = IsPointer bytes (record { lot = lot; subset = subset; rty = rty; rid = [] })

-- the parts of a pointer but for its identifier
pub record StartParts : Type 0 where
  pub lot : List ℕ
  pub subset : List ℕ
  pub rty : List ℕ

-- the parts of a start whose first two end at these places, where each has one byte behind it
abbrev pub parts_of_start : List ℕ → ℕ → ℕ → StartParts
parts_of_start bytes lot_end subset_end = record {
  lot = take lot_end bytes;
  subset = slice_range bytes (lot_end + 1) subset_end;
  rty = slice_range bytes (subset_end + 1) (length bytes - 1);
}

-- the bytes are a start, and its first two parts end at these places
pub record IsStartAt (bytes : List ℕ) (lot_end subset_end : ℕ) : Type 0 where
  pub order : lot_end + 1 ≤ subset_end
  pub room : subset_end + 2 ≤ length bytes
  pub is : (let p = parts_of_start bytes lot_end subset_end in IsStart bytes p.lot p.subset p.rty)
