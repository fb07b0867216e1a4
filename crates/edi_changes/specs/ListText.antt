-- The text of a list of digests.
use Rattle.std.specs.Prelude.{◌≡◌, ◌++◌, ℕ, Bool, true, false, List, [], codes, flat_map, length}
use Rattle.std.specs.List.{AllByRecursion}
use Rattle.hex.specs.Hex.{IsBytes}
use Rattle.edi_answers.specs.Hashes.{digest_line}
use Rattle.edi_changes.specs.declared.list.ListLine.{ListLine}

-- what each line of the program keeps: its digest is 32 bytes
pub record IsListLine (line : ListLine) : Type 0 where
  pub long : length line.digest ≡ 32
  pub digest : IsBytes line.digest

-- the word before the digest of a schema
abbrev pub schema_word : Bool → List ℕ
schema_word true = codes "schema "
schema_word false = []

-- the line of a digest, as `hash` and `delivery` write it
abbrev pub list_line : ListLine → List ℕ
list_line line = schema_word line.is_schema ++ digest_line line.digest line.name

-- the lines, in their order
abbrev pub list_text : List ListLine → List ℕ
list_text lines = flat_map list_line lines

-- no lines have this text
abbrev pub IsNoList : List ℕ → Type 0
IsNoList text = (lines : List ListLine) → AllByRecursion IsListLine lines → ¬ (list_text lines ≡ text)
