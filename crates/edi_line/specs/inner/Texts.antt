-- Where the bytes of a text lie.
use Rattle.std.specs.Prelude.{ℕ, List, ◌≤◌, take}
use Rattle.edi_line.specs.declared.text.Bytes.{Bytes}
use Rattle.edi_line.specs.declared.text.Bytes.TheVariants.{Short, Middling, Long}

-- the bytes
abbrev pub bytes_in : Bytes → List ℕ
bytes_in (Short len bytes) = take len bytes
bytes_in (Middling len bytes) = take len bytes.value
bytes_in (Long bytes) = bytes.value.items

-- the length of a text that isn't long is within its room
abbrev pub IsWithin : Bytes → Type 0
IsWithin (Short len bytes) = len ≤ 14
IsWithin (Middling len bytes) = len ≤ 32
IsWithin (Long bytes) = Unit {0}
