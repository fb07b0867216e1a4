-- Texts that are read line by line.
use Rattle.std.specs.Prelude.{◌≡◌, ℕ, List, [], ◌∷◌, ◌++◌, Option, Some, None, MatchOption}
use Rattle.edi_line.specs.Bytes.{line_feed}
use Rattle.edi_manifest.specs.inner.Reading.{HasNoByte}

-- the first lines of a text, which line feeds end, are read as these, and this is left behind them
abbrev pub ReadsUpTo : {L : Type 0} → (List ℕ → Option L → Type 0) → List ℕ → List L → List ℕ → Type 0
ReadsUpTo Reads text [] rest = rest ≡ text
ReadsUpTo Reads text (line ∷ lines) rest = (content : List ℕ) × (behind : List ℕ)
    × (text ≡ content ++ line_feed ∷ behind) × HasNoByte line_feed content × Reads content (Some line)
    × ReadsUpTo Reads behind lines rest

-- all lines that line feeds end are read as these
abbrev pub ReadsAll : {L : Type 0} → (List ℕ → Option L → Type 0) → List ℕ → List L → Type 0
ReadsAll Reads text lines = (rest : List ℕ) × ReadsUpTo Reads text lines rest × HasNoByte line_feed rest

-- the first that isn't read as one is read as nothing
abbrev pub ReadsNothing : {L : Type 0} → (List ℕ → Option L → Type 0) → List ℕ → Type 0
ReadsNothing {L} Reads text = (lines : List L) × (content : List ℕ) × (behind : List ℕ)
    × ReadsUpTo Reads text lines (content ++ line_feed ∷ behind) × HasNoByte line_feed content × Reads content None

-- the one or the other
pub record ReadsLines {L : Type 0} (Reads : List ℕ → Option L → Type 0) (text : List ℕ) (found : Option (List L)) : Type 0 where
  pub read : MatchOption found (ReadsNothing Reads text) (ReadsAll Reads text)
