-- Of which part of a delivery a line of its manifest is.
use Rattle.std.specs.Prelude.{◌≡◌, ℕ, List, Some, Any, Ok}
use Rattle.sha2.specs.Sha256.{sha256}
use Rattle.edi_schema.specs.Classes.{Classes}
use Rattle.edi_schema.specs.Roles.{KindCodes}
use Rattle.edi_delivery.specs.NameParts.{file_name}
use Rattle.edi_delivery.specs.declared.file_name.Extension.TheVariants.{Scd, Dic, Geo, Vec}
use Rattle.edi_manifest.specs.declared.line.Digested.TheVariants.{Sheet, Coordinates}
use Rattle.edi_manifest.specs.declared.line.ManifestLine.{ManifestLine}
use Rattle.edi_words.specs.declared.words.ManyFiles.{ManyFiles}
use Rattle.edi_answers.specs.Effects.{Inputs}
use Rattle.edi_answers.specs.Hashes.{GivesSchema, IsAnswerOf}
use Rattle.edi_answers.specs.WholeInputs.{OfWholeInput}
use Rattle.edi_deliveries.specs.Deliveries.{Opened, found_path}
use Rattle.edi_deliveries.specs.Found.{PlacedLot, placed, schema_part}

module _ (inputs : Inputs) (kinds : KindCodes) (at : PlacedLot) where
  -- the schema of a lot's classes and dictionary, which are there
  pub record IsSchemaOfLot (c : Classes) : Type 0 where
    pub files : ManyFiles
    pub scd : found_path at.before at.names (file_name at.lot.name Scd at.lot.scd) ≡ Some files.scd.now
    pub dic : found_path at.before at.names (file_name at.lot.name Dic at.lot.dic) ≡ Some files.dic.now
    pub note : List ℕ
    pub given : GivesSchema inputs kinds files c note

  -- A line is of a lot: of its schema, by what that means; of a sheet that it names, by its canonical file under the
  -- schema; or of its coordinate system, by its bytes.
  pub data IsLineOfLot (line : ManifestLine) : Type 0 where
    schema : (c : Classes) → IsSchemaOfLot c → line ≡ schema_part at.lot c → IsLineOfLot line
    sheet : (c : Classes) (own path digest : List ℕ) → IsSchemaOfLot c → Any (λ other. other ≡ own) at.lot.vecs
        → found_path at.before at.names (file_name at.lot.name Vec own) ≡ Some path
        → IsAnswerOf inputs c path (Ok digest)
        → line ≡ record { name = file_name at.lot.name Vec own; digested = Sheet; digest = digest } → IsLineOfLot line
    coordinates : (own path digest : List ℕ) → at.lot.geo ≡ Some own
        → found_path at.before at.names (file_name at.lot.name Geo own) ≡ Some path
        → OfWholeInput inputs path (λ b. digest ≡ sha256 b)
        → line ≡ record { name = file_name at.lot.name Geo own; digested = Coordinates; digest = digest }
        → IsLineOfLot line

-- a line is of a lot of a delivery
abbrev pub IsLineOfDelivery : Inputs → KindCodes → Opened → ManifestLine → Type 0
IsLineOfDelivery inputs kinds d line = Any (λ lot. IsLineOfLot inputs kinds (placed d.before d.names lot) line) d.lots
