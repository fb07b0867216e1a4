-- The lines of a list of bytes, and their contents.
--
-- The definitions and laws of this crate hold of all lists of numbers, so of all lists of bytes. A definition
-- that says that there is a file names `IsBytes` of `Bytes`.
use Rattle.std.specs.Prelude.{◌≡◌, ◌≢◌, ℕ, ◌-◌, ◌<◌, ◌⊎◌, ◌&&◌, nat_lt, List, [], ◌∷◌, ◌++◌, length, take, slice_index, ◌==◌, if◌then◌else◌}
use Rattle.std.specs.List.{AllByRecursion, concat}
use Rattle.edi_line.specs.Bytes.{line_feed, carriage_return}

-- no line feed among them
abbrev pub HasNoFeed : List ℕ → Type 0
HasNoFeed bytes = AllByRecursion (λ c. c ≢ line_feed) bytes

-- a line that ends in a line feed and holds no other
pub record IsEnded (line : List ℕ) : Type 0 where
  pub bytes : List ℕ
  pub no_feed : HasNoFeed bytes
  pub ended : line ≡ bytes ++ line_feed ∷ []

-- a line that isn't ended
pub record IsUnended (line : List ℕ) : Type 0 where
  pub no_feed : HasNoFeed line
  pub some : 0 < length line

-- all but the last are ended
abbrev pub AreLines : List (List ℕ) → Type 0
AreLines [] = Unit {0}
AreLines (line ∷ []) = IsEnded line ⊎ IsUnended line
AreLines (line ∷ next ∷ lines) = IsEnded line × AreLines (next ∷ lines)

-- these are the lines of the bytes
pub record IsLinesOf (bytes : List ℕ) (lines : List (List ℕ)) : Type 0 where
  pub joined : concat lines ≡ bytes
  pub each : AreLines lines

-- without one such byte at the end
abbrev pub without_last : ℕ → List ℕ → List ℕ
without_last c bytes =
    if nat_lt 0 (length bytes) && (slice_index bytes (length bytes - 1) == c)
    then take (length bytes - 1) bytes else bytes

-- a line without its line feed, and then without one carriage return
abbrev pub content_of : List ℕ → List ℕ
content_of line = without_last carriage_return (without_last line_feed line)
