-- Where the bytes of an identifier lie.
use Rattle.std.specs.Prelude.{ℕ, List, ◌≤◌, take}
use Rattle.edi_record.specs.declared.identifier.IdentifierBytes.{IdentifierBytes}
use Rattle.edi_record.specs.declared.identifier.IdentifierBytes.TheVariants.{Inside, Beside}

-- the bytes
abbrev pub identifier_bytes : IdentifierBytes → List ℕ
identifier_bytes (Inside len bytes) = take len bytes
identifier_bytes (Beside text) = text

-- no more bytes than there is room for
abbrev pub IsInRoom : IdentifierBytes → Type 0
IsInRoom (Inside len bytes) = len ≤ 30
IsInRoom (Beside text) = Unit {0}
