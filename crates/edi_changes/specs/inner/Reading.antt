-- The steps of reading a list.
use Rattle.std.specs.Prelude.{◌≡◌, ◌≢◌, ◌++◌, ℕ, Bool, List, [], ◌∷◌, codes, if◌then◌else◌, length, slice_index, Option, Some, MatchOption}
use Rattle.std.proofs.Common.{Bor}
use Rattle.std.specs.List.{AllByRecursion}
use Rattle.edi_shown.specs.Shown.{backslash}
use Rattle.edi_answers.specs.Hashes.{escaped_byte}
use Rattle.edi_changes.specs.ListText.{IsListLine, list_line, list_text, schema_word}
use Rattle.edi_changes.specs.declared.list.ListLine.{ListLine}

-- the mark of an escape
abbrev pub mark : Bool → List ℕ
mark marked = if marked then backslash ∷ [] else []

-- where the word of a schema or none is in front, and no `s` behind it, this is found
abbrev pub FindsSchemaWord : List ℕ → Bool × Bor (List ℕ) → Type 0
FindsSchemaWord text found =
    (is_schema : Bool) (rest : List ℕ) → slice_index rest 0 ≢ 115 → text ≡ schema_word is_schema ++ rest
    → (found.0 ≡ is_schema) × (found.1.now ≡ rest)

-- where 64 digits, two spaces and a name are there, these are found
abbrev pub FindsDigits : List ℕ → Option (Bor (List ℕ) × Bor (List ℕ)) → Type 0
FindsDigits text found = (digits name : List ℕ) → length digits ≡ 64 → text ≡ digits ++ (codes "  " ++ name)
    → MatchOption found ⊥ (λ f. (f.0.now ≡ digits) × (f.1.now ≡ name))

-- where a byte is in front as a line shows it, it is found; and where nothing is there, nothing
abbrev pub FindsShown : List ℕ → Option (ℕ × Bor (List ℕ)) → Type 0
FindsShown text found =
    MatchOption found (text ≡ [])
    (λ f. (byte : ℕ) (rest : List ℕ) → text ≡ escaped_byte byte ++ rest → (f.0 ≡ byte) × (f.1.now ≡ rest))

-- where the content is that of a line, this is the line
abbrev pub FindsListLine : List ℕ → Option ListLine → Type 0
FindsListLine content found = (line : ListLine) → IsListLine line → content ++ 10 ∷ [] ≡ list_line line → found ≡ Some line

-- where the text is that of lines, these are the lines
abbrev pub FindsListLines : List ℕ → Option (List ListLine) → Type 0
FindsListLines text found =
    (lines : List ListLine) → AllByRecursion IsListLine lines → list_text lines ≡ text → found ≡ Some lines
