-- Pictures of files.
use Rattle.std.specs.Prelude.{◌≡◌, ℕ, true, List, [], ◌∷◌, if◌then◌else◌}
use Rattle.edi_schema.specs.Classes.{Classes}
use Rattle.edi_report.specs.Located.{IsLocated}
use Rattle.edi_report.specs.declared.sheet.LocatedSheet.{LocatedSheet}
use Rattle.edi_diff.specs.Differences.{IsDifference}
use Rattle.edi_diff.specs.declared.form.TextForm.{TextForm}
use Rattle.edi_picture.specs.Pictures.{IsPicture}
use Rattle.edi_picture.specs.Sheets.{DrawnSheet}
use Rattle.edi_picture.specs.declared.mark.Mark.TheVariants.{Plain}
use Rattle.edi_drawing.specs.Labels.{both_labels, label_of, label_there}
use Rattle.edi_drawing.specs.Marked.{SheetPairData, drawn_sheet, first_marks, of_each, twin_of, second_marks}
use Rattle.edi_drawing.specs.Tints.{first_tint}
use Rattle.edi_drawing.specs.declared.drawn.DrawnDifference.{DrawnDifference}

-- ---- sheets as they are drawn

-- a sheet alone: no record is marked or tinted, and on each stands what it is called
abbrev pub plain_sheet : Classes → List ℕ → LocatedSheet → DrawnSheet
plain_sheet s name sheet = drawn_sheet name sheet (of_each (λ k. Plain) sheet.accepted) []
    (of_each (label_of s sheet.accepted) sheet.accepted)

-- on what is tinted of the first sheet stands what it is called there, and in the second
abbrev pub first_label : Classes → SheetPairData → ℕ → List ℕ
first_label s c i =
    if first_tint c i
    then both_labels (label_of s c.first.accepted i) (label_there s c.second.accepted (twin_of c i))
    else []

abbrev pub first_sheet : Classes → List ℕ → SheetPairData → DrawnSheet
first_sheet s name c = drawn_sheet name c.first (first_marks c) (of_each (first_tint c) c.first.accepted)
    (of_each (first_label s c) c.first.accepted)

-- all that is drawn of the second sheet is tinted
abbrev pub second_sheet : Classes → List ℕ → SheetPairData → DrawnSheet
second_sheet s name c = drawn_sheet name c.second (second_marks c) (of_each (λ j. true) c.second.accepted)
    (of_each (label_of s c.second.accepted) c.second.accepted)

-- the names of two files
pub record TwoFileNames : Type 0 where
  pub first : List ℕ
  pub second : List ℕ

abbrev pub both_sheets : Classes → TwoFileNames → SheetPairData → List DrawnSheet
both_sheets s names c = first_sheet s names.first c ∷ second_sheet s names.second c ∷ []

-- ---- files

-- the picture of the sheet of a file of this name
pub record IsPictureOfFile (s : Classes) (name b picture : List ℕ) : Type 0 where
  pub sheet : LocatedSheet
  pub is_sheet : IsLocated s b sheet
  pub is_picture : IsPicture s (plain_sheet s name sheet ∷ []) picture

-- What differs between two files of these names, and the picture of their sheets, marked by the very matching and
-- changes that the text of what differs is made from.
pub record IsDrawnDifference (s : Classes) (names : TwoFileNames) (a b : List ℕ) (form : TextForm)
    (drawn : DrawnDifference) : Type 0 where
  pub differs : IsDifference s a b form drawn.difference
  pub compared : SheetPairData
  pub by_first : differs.first ≡ compared.first
  pub by_second : differs.second ≡ compared.second
  pub by_unchanged : differs.unchanged ≡ compared.unchanged
  pub by_became : differs.is_text.became ≡ compared.became
  pub is_picture : IsPicture s (both_sheets s names compared) drawn.picture.items
