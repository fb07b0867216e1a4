-- The hints on the file of a refused sheet.
use Rattle.std.specs.Prelude.{◌≡◌, ◌≢◌, ◌⊎◌, ◌++◌, ◌==◌, ℕ, true, false, List, [], ◌∷◌, All, MatchOption, Option, Some, None}
use Rattle.std.specs.Bool.{MatchBool}
use Rattle.edi_record.specs.Texts.{IsPointer, PointerText}
use Rattle.edi_compare.specs.declared.fault.Fault.{Fault}
use Rattle.edi_compare.specs.declared.fault.Fault.TheVariants as fault
use Rattle.edi_compare.specs.declared.fault.RunFault.{RunFault}
use Rattle.edi_compare.specs.declared.fault.RunFault.TheVariants.{Memory, Read, TooLong, Schema, First, Second, Write}
use Rattle.edi_explain.specs.Elsewhere.{HasNamed, HasStrayEnds, elsewhere_line}
use Rattle.edi_explain.specs.RefusalHints.{AreRefusalHints}
use Rattle.edi_words.specs.Requests.{is_standard_path}
use Rattle.edi_answers.specs.Effects.{Inputs}
use Rattle.edi_answers.specs.SheetRuns.{HasFailedAt, HoldsTooMuch, IsMissing}
use Rattle.edi_answers.specs.WholeInputs.{OfWholeInput}

-- the file of a path can't be opened, or it was opened and fails, or it holds more bytes than a run reads
abbrev pub IsUnreadable : Inputs → List ℕ → Type 0
IsUnreadable inputs path = IsMissing inputs path ⊎ (HasFailedAt inputs path ⊎ HoldsTooMuch inputs path)

-- What is read once more of a path: the bytes of its file, which are its contents where these are known; or nothing, of
-- standard input, and where the path leads to a device or a pipe, or can't be written to, or the file can't be read.
abbrev pub IsReadAgain : Inputs → List ℕ → Option (List ℕ) → Type 0
IsReadAgain inputs path None =
    (is_standard_path path ≡ true) ⊎ (inputs.no_file path ⊎ (inputs.is_file path × IsUnreadable inputs path))
IsReadAgain inputs path (Some b) =
    (is_standard_path path ≡ false) × inputs.is_file path × OfWholeInput inputs path (λ contents. b ≡ contents)

-- ---- records of other sheets

-- over the path of a sheet, and a pointer of a link of it
module _ (inputs : Inputs) (path : List ℕ) (p : PointerText) where
  -- the sheet of another path has the record that the pointer names
  abbrev pub HasRecord : List ℕ → Type 0
  HasRecord other = (other ≢ path) × ((b : List ℕ) × IsReadAgain inputs other (Some b) × HasNamed b p)

  -- it is the same path, or there is nothing to read, or the sheet doesn't have that record
  abbrev pub LacksRecord : List ℕ → Type 0
  LacksRecord other = (other ≡ path)
      ⊎ (IsReadAgain inputs other None ⊎ ((b : List ℕ) × IsReadAgain inputs other (Some b) × ¬ (HasNamed b p)))

  -- the line on the first of these sheets that has it, if one does
  abbrev pub IsElsewhereLine : List (List ℕ) → List ℕ → Type 0
  IsElsewhereLine siblings line =
      ((front behind : List (List ℕ)) × (other : List ℕ) × (siblings ≡ front ++ other ∷ behind)
      × All LacksRecord front × HasRecord other × (line ≡ elsewhere_line path p other))
      ⊎ (All LacksRecord siblings × (line ≡ []))

-- Where the sheet b has ends of two lots or subsets: the line on the record that the first end names that is of another
-- lot or subset than the first of all, and then that on the record that the first of all names.
abbrev pub AreElsewhereLines : Inputs → List (List ℕ) → List ℕ → List ℕ → List ℕ → Type 0
AreElsewhereLines inputs siblings path b lines =
    ((home stray : List ℕ) × (p q : PointerText) × (of_stray of_home : List ℕ) × HasStrayEnds b home stray
    × IsPointer stray p × IsPointer home q × IsElsewhereLine inputs path p siblings of_stray
    × IsElsewhereLine inputs path q siblings of_home × (lines ≡ of_stray ++ of_home))
    ⊎ (((home stray : List ℕ) → ¬ (HasStrayEnds b home stray)) × (lines ≡ []))

-- the same of a sheet that is refused by 304, and none of others
abbrev pub AreHintsElsewhere : Inputs → List (List ℕ) → Fault → List ℕ → List ℕ → List ℕ → Type 0
AreHintsElsewhere inputs siblings (fault.Memory e) path b lines = lines ≡ []
AreHintsElsewhere inputs siblings (fault.Line rule at) path b lines = lines ≡ []
AreHintsElsewhere inputs siblings (fault.Entry rule at) path b lines =
    MatchBool (rule == 304) (AreElsewhereLines inputs siblings path b lines) (lines ≡ [])

-- ---- all hints

-- those on the bytes of the file, and then those on records of its siblings, the other VEC files of its lot
abbrev pub AreSheetHints : Inputs → List (List ℕ) → Fault → List ℕ → List ℕ → List ℕ → Type 0
AreSheetHints inputs siblings f path b lines =
    (own elsewhere : List ℕ) × AreRefusalHints path b own × AreHintsElsewhere inputs siblings f path b elsewhere
    × (lines ≡ own ++ elsewhere)

-- those on what is read once more of a path
abbrev pub AreHintsAtPath : Inputs → List (List ℕ) → Fault → List ℕ → List ℕ → Type 0
AreHintsAtPath inputs siblings f path lines =
    (found : Option (List ℕ)) × IsReadAgain inputs path found
    × MatchOption found (lines ≡ []) (λ b. AreSheetHints inputs siblings f path b lines)

-- the hints behind a fault of the sheet of a path: only a refused sheet has some
abbrev pub AreFaultHints : Inputs → List (List ℕ) → RunFault → List ℕ → List ℕ → Type 0
AreFaultHints inputs siblings (Memory e) path lines = lines ≡ []
AreFaultHints inputs siblings (Read input) path lines = lines ≡ []
AreFaultHints inputs siblings (TooLong input) path lines = lines ≡ []
AreFaultHints inputs siblings (Schema f) path lines = lines ≡ []
AreFaultHints inputs siblings (First f) path lines = AreHintsAtPath inputs siblings f path lines
AreFaultHints inputs siblings (Second f) path lines = lines ≡ []
AreFaultHints inputs siblings (Write w) path lines = lines ≡ []
