-- The bytes of a file, as contracts see them.
use Rattle.std.specs.Prelude.{ℕ, List}
use Rattle.std.specs.Cow.{cow_slice_items}
use Rattle.edi_line.specs.declared.file.FileBytes.{FileBytes}
use Rattle.edi_line.specs.declared.file.FileBytes.TheVariants.{Whole, InPieces}

-- from the first to the last
abbrev pub file_bytes : FileBytes → List ℕ
file_bytes (Whole bytes) = cow_slice_items bytes
file_bytes (InPieces pieces) = pieces
