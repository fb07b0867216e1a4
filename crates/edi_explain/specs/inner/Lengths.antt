-- Characters in the bytes behind a head.
use Rattle.std.specs.Prelude.{◌≡◌, ℕ, ◌<◌, List, ◌++◌, length, replicate}
use Rattle.edi_line.specs.Bytes.{space}
use Rattle.edi_explain.specs.Lengths.{character_count}

-- a value of so many characters, and more bytes, and spaces
pub record HasCharacters (bytes : List ℕ) (stated : ℕ) : Type 0 where
  pub value : List ℕ
  pub spaces : ℕ
  pub spelled : bytes ≡ value ++ replicate spaces space
  pub stated_as : stated ≡ character_count value
  pub more : stated < length value
