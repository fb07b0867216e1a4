-- The text of a pairing.
use Rattle.std.specs.Prelude.{◌≡◌, ℕ, zero, suc, ◌+◌, ◌-◌, ◌<◌, ◌≤◌, Bool, List, [], ◌∷◌, ◌++◌, length, slice_index, codes, if◌then◌else◌}
use Rattle.edi_line.specs.Bytes.{semicolon, line_feed}
use Rattle.edi_record.specs.Shapes.{kind_code}
use Rattle.edi_rank.specs.Labelling.{turned_at}
use Rattle.edi_pairing.specs.Names.{name_at}
use Rattle.edi_pairing.specs.declared.names.RecordName.{RecordName}
use Rattle.edi_compare.specs.declared.pairing.Pairing.{Pairing}

-- the form's name and version
abbrev pub head : List ℕ
head = codes "edicad pairing 1" ++ line_feed ∷ []

-- a type and an identifier, with a semicolon behind each
abbrev pub front_of : RecordName → List ℕ
front_of name = kind_code name.kind ++ semicolon ∷ (name.rid ++ semicolon ∷ [])

-- the end of a line, with `;reversed` where the record is turned
abbrev pub line_end : Bool → List ℕ
line_end turned = if turned then codes ";reversed" ++ line_feed ∷ [] else line_feed ∷ []

-- `TYPE;IDENTIFIER IN A;IDENTIFIER IN B`
unfoldable pub line_of : RecordName → List ℕ → Bool → List ℕ
line_of name other turned = front_of name ++ (other ++ line_end turned)

-- ---- the text of a pairing of two sheets, by the names of their records

module _ (a b : List RecordName) where
  module _ (pairing : Pairing) where
    -- the line of a number from 0: the head, and behind it a line for each record of A in file order
    abbrev pub line_at : ℕ → List ℕ
    line_at zero = head
    line_at (suc place) =
        line_of (name_at a place) (name_at b (slice_index pairing.to place)).rid (turned_at pairing.turned place)

    -- the first so many lines, joined
    abbrev pub first_lines : ℕ → List ℕ
    first_lines zero = []
    first_lines (suc number) = first_lines number ++ line_at number

    -- all lines, joined
    abbrev pub text_of : List ℕ
    text_of = first_lines (suc (length a))

    -- the first so many records of A go to records of B of their types
    pub record Pairs (count : ℕ) : Type 0 where
      pub within : (k : ℕ) → k < count → slice_index pairing.to k < length b
      pub typed : (k : ℕ) → k < count → (name_at b (slice_index pairing.to k)).kind ≡ (name_at a k).kind

    -- an entry for each record of A, which goes to a record of B of its type
    pub record IsPairing : Type 0 where
      pub all_paired : length pairing.to ≡ length a
      pub all_directed : length pairing.turned ≡ length a
      pub pairs : Pairs (length a)

    -- the file is the text of the pairing
    pub record StatesPairing (file : List ℕ) : Type 0 where
      pub is_pairing : IsPairing
      pub is_text : file ≡ text_of

  -- ---- files that state no pairing

  -- the first so many lines of the file are those of a pairing of the first records of A
  pub record Begins (file : List ℕ) (lines : ℕ) : Type 0 where
    pub pairing : Pairing
    pub behind : List ℕ
    pub few : lines ≤ length a + 1
    pub pairs : Pairs pairing (lines - 1)
    pub cut : file ≡ first_lines pairing lines ++ behind

  -- the file states no pairing, and this is the least number of lines that begin none
  pub record IsFirstWrong (file : List ℕ) (line : ℕ) : Type 0 where
    pub from_one : 1 ≤ line
    pub before : Begins file (line - 1)
    pub here : ¬ (Begins file line)
    pub none : (pairing : Pairing) → ¬ (StatesPairing pairing file)
