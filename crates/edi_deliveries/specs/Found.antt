-- The lines of a manifest that are found of a delivery, and what the errors are told of the rest.
use Rattle.std.specs.Prelude.{◌≡◌, ◌⊎◌, ◌++◌, ℕ, Bool, max, List, [], ◌∷◌, Option, Some, IsTrue, MatchOption, Result, Ok, Err}
use Rattle.sha2.specs.Sha256.{sha256}
use Rattle.edi_schema.specs.Classes.{Classes}
use Rattle.edi_schema.specs.Roles.{KindCodes}
use Rattle.edi_schema_text.specs.SchemaText.{text_of_schema}
use Rattle.edi_delivery.specs.NameParts.{file_name}
use Rattle.edi_delivery.specs.declared.file_name.Extension.TheVariants.{Scd, Dic, Geo, Vec}
use Rattle.edi_delivery.specs.declared.lot.Lot.{Lot}
use Rattle.edi_manifest.specs.declared.line.Digested.{Digested}
use Rattle.edi_manifest.specs.declared.line.Digested.TheVariants.{Schema, Sheet, Coordinates}
use Rattle.edi_manifest.specs.declared.line.ManifestLine.{ManifestLine}
use Rattle.edi_compare.specs.declared.fault.RunFault.{RunFault}
use Rattle.edi_files.specs.Reasons.{Why}
use Rattle.edi_words.specs.declared.words.ManyFiles.{ManyFiles}
use Rattle.edi_answers.specs.Effects.{Inputs, Stream}
use Rattle.edi_answers.specs.Hashes.{GivesSchema, IsAnswerOf, LoadFault, TellsFault, schema_fault_path}
use Rattle.edi_answers.specs.Notes.{InTurn, WritesNoteIfAny}
use Rattle.edi_answers.specs.Statuses.{LacksMemory}
use Rattle.edi_answers.specs.WholeInputs.{OfWholeInput, WholeInputFault}
use Rattle.edi_deliveries.specs.Deliveries.{ErrorsSay, LacksSchema, Opened, found_path, missing_lines, status_of_missing, unnamed_lines}

-- ---- findings in turn

-- which lines are found, what the errors got, and the status
abbrev pub Finding : Type 1
Finding = List ManifestLine → Stream → ℕ → Type 0

-- these lines, and the errors got nothing
abbrev pub Finds : List ManifestLine → Finding
Finds found lines err s = (lines ≡ found) × (err.after ≡ err.before) × (s ≡ 0)

-- no line, and the errors got this text, with this status
abbrev pub FindsNone : List ℕ → ℕ → Finding
FindsNone text status lines err s = (lines ≡ []) × ErrorsSay text status err s

-- no line, since memory ran out
abbrev pub FindsNoMemory : Finding
FindsNoMemory lines err s = (lines ≡ []) × (s ≡ 5) × LacksMemory err

-- this line, or no memory for it
abbrev pub FindsLine : ManifestLine → Finding
FindsLine line lines err s = Finds (line ∷ []) lines err s ⊎ FindsNoMemory lines err s

-- One finding, and behind it another: the lines of the one and then those of the other, the errors got what the one
-- adds and then the other, and the status is the greater.
pub record OneFoundThenOther (First Rest : Finding) (lines : List ManifestLine) (err : Stream) (s : ℕ) : Type 0 where
  pub first_lines : List ManifestLine
  pub rest_lines : List ManifestLine
  pub between : Option (List ℕ)
  pub failed : Bool
  pub stays : IsTrue failed → IsTrue err.failed
  pub first : ℕ
  pub rest : ℕ
  pub one : First first_lines (record { before = err.before; after = between; failed = failed }) first
  pub other : Rest rest_lines (record { before = between; after = err.after; failed = err.failed }) rest
  pub all : lines ≡ first_lines ++ rest_lines
  pub greater : s ≡ max first rest

-- the findings of each of these, in their order
abbrev pub EachFound : {X : Type 0} → (X → Finding) → List X → Finding
EachFound FoundOf [] = Finds []
EachFound FoundOf (x ∷ xs) = OneFoundThenOther (FoundOf x) (EachFound FoundOf xs)

-- ---- the parts of a lot

-- a lot, with the names in the folder of its THF file, and what stands before these in paths
pub record PlacedLot : Type 0 where
  pub before : List ℕ
  pub names : List (List ℕ)
  pub lot : Lot

abbrev pub placed : List ℕ → List (List ℕ) → Lot → PlacedLot
placed before names lot = record { before = before; names = names; lot = lot }

-- what came of the bytes of a path: their digest, or why they can't be read
abbrev pub IsBytesAnswer : Inputs → List ℕ → Result (List ℕ) RunFault → Type 0
IsBytesAnswer inputs path (Ok digest) = OfWholeInput inputs path (λ b. digest ≡ sha256 b)
IsBytesAnswer inputs path (Err e) = WholeInputFault inputs path e

-- the line of a lot's schema: the name of its file of classes, and the digest of what the schema means
abbrev pub schema_part : Lot → Classes → ManifestLine
schema_part lot c =
    record { name = file_name lot.name Scd lot.scd; digested = Schema; digest = sha256 (text_of_schema c) }

-- of what came of a part: its line, where it has a digest, or no memory for that; or no line, and the errors say why
-- it has none
abbrev pub IsPartFound : Why → List ℕ → Digested → List ℕ → Result (List ℕ) RunFault → Finding
IsPartFound why name digested path (Ok digest) lines err s =
    FindsLine (record { name = name; digested = digested; digest = digest }) lines err s
IsPartFound why name digested path (Err e) lines err s = (lines ≡ []) × TellsFault why err e path s

module _ (inputs : Inputs) (why : Why) where
  -- of a file by its name: where it is there, of what came of it; and nothing where it is missing
  abbrev pub IsFileFound : PlacedLot → List ℕ → Digested → (List ℕ → Result (List ℕ) RunFault → Type 0)
      → Finding
  IsFileFound at name digested CameOf lines err s =
      MatchOption (found_path at.before at.names name) (Finds [] lines err s)
      (λ path. (answer : Result (List ℕ) RunFault) × CameOf path answer
      × IsPartFound why name digested path answer lines err s)
      ⊎ FindsNoMemory lines err s

  -- of a sheet of a lot, under a schema
  abbrev pub IsSheetFound : Classes → PlacedLot → List ℕ → Finding
  IsSheetFound c at own =
      IsFileFound at (file_name at.lot.name Vec own) Sheet (IsAnswerOf inputs c)

  -- of the coordinate system of a lot
  abbrev pub IsGeoFound : PlacedLot → List ℕ → Finding
  IsGeoFound at own =
      IsFileFound at (file_name at.lot.name Geo own) Coordinates (IsBytesAnswer inputs)

  -- and nothing of a lot that has none
  abbrev pub IsAnyGeoFound : PlacedLot → Finding
  IsAnyGeoFound at lines err s =
      MatchOption at.lot.geo (Finds [] lines err s) (λ own. IsGeoFound at own lines err s)

  -- of a lot whose schema is this: its line, or no memory for that; and then of its sheets, in the order of the THF
  -- file
  abbrev pub AreSheetsFound : Classes → PlacedLot → Finding
  AreSheetsFound c at =
      OneFoundThenOther (FindsLine (schema_part at.lot c)) (EachFound (IsSheetFound c at) at.lot.vecs)

  module _ (kinds : KindCodes) where
    -- Of the schema of two files and the sheets under it. It is loaded, and the errors got the note on its kinds first;
    -- or there is none, and the errors say why by its file.
    abbrev pub IsSchemaFound : ManyFiles → PlacedLot → Finding
    IsSchemaFound files at lines err s =
        ((c : Classes) × (note : List ℕ) × GivesSchema inputs kinds files c note
        × InTurn err (λ e. WritesNoteIfAny e note) (λ e. AreSheetsFound c at lines e s))
        ⊎ ((e : RunFault) × LoadFault inputs kinds files e × TellsFault why err e (schema_fault_path files e) s
        × (lines ≡ []))

    -- of the classes and the dictionary of a lot, by their files; nothing where one of these is missing
    abbrev pub AreClassesFound : PlacedLot → Finding
    AreClassesFound at lines err s =
        ((files : ManyFiles)
        × (found_path at.before at.names (file_name at.lot.name Scd at.lot.scd) ≡ Some files.scd.now)
        × (found_path at.before at.names (file_name at.lot.name Dic at.lot.dic) ≡ Some files.dic.now)
        × IsSchemaFound files at lines err s)
        ⊎ ((LacksSchema at.names at.lot × Finds [] lines err s) ⊎ FindsNoMemory lines err s)

    -- of the schema of a lot with its sheets, and of its coordinate system, if it has one
    abbrev pub ArePartsFound : PlacedLot → Finding
    ArePartsFound at =
        OneFoundThenOther (AreClassesFound at) (IsAnyGeoFound at)

    -- of a lot: the errors name the files that are missing, and then come its parts
    abbrev pub IsLotFound : PlacedLot → Finding
    IsLotFound at =
        OneFoundThenOther
        (FindsNone (missing_lines at.before at.names at.lot)
        (status_of_missing (missing_lines at.before at.names at.lot)))
        (ArePartsFound at)

    -- of a delivery: of its lots, in their order, and then the errors name the VEC files that no lot names
    abbrev pub AreLotsFound : Opened → Finding
    AreLotsFound d =
        OneFoundThenOther (EachFound (λ lot. IsLotFound (placed d.before d.names lot)) d.lots)
        (FindsNone (unnamed_lines d.before d.names d.lots) 0)
