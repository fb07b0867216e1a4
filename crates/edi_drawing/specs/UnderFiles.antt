-- What is made of a sheet, and of two, under the schema of two files.
use Rattle.std.specs.Prelude.{ℕ, List}
use Rattle.edi_schema.specs.Classes.{Classes}
use Rattle.edi_schema.specs.Roles.{KindCodes}
use Rattle.edi_schema.specs.SchemaRefusal.{IsGoodSchema}
use Rattle.edi_compare.specs.Rules.{IsAccepted}
use Rattle.edi_drawing.specs.Drawn.{TwoFileNames, IsDrawnDifference, IsPictureOfFile}
use Rattle.edi_drawing.specs.declared.drawn.DrawnDifference.{DrawnDifference}
use Rattle.edi_diff.specs.declared.form.TextForm.{TextForm}

-- the sheet is accepted under the schema of the two files and the codes, and this is its picture
pub record IsPictureUnder (kinds : KindCodes) (name scd dic b picture : List ℕ) : Type 0 where
  pub schema : Classes
  pub good : IsGoodSchema scd dic kinds schema
  pub accepted : IsAccepted schema b
  pub drawn : IsPictureOfFile schema name b picture

-- both sheets are accepted under that schema, and this is what differs between them, with their picture
pub record IsDrawnDifferenceUnder (kinds : KindCodes) (names : TwoFileNames) (scd dic a b : List ℕ) (form : TextForm)
    (drawn : DrawnDifference) : Type 0 where
  pub schema : Classes
  pub good : IsGoodSchema scd dic kinds schema
  pub first : IsAccepted schema a
  pub second : IsAccepted schema b
  pub differs : IsDrawnDifference schema names a b form drawn
