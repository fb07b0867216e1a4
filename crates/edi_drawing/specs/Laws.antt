-- Which records of a picture of two sheets are coloured.
use Rattle.std.specs.Prelude.{◌≡◌, ◌↔◌, ℕ, List, []}
use Rattle.edi_matching.specs.Matchings.{GoesTo, IsMatched}
use Rattle.edi_matching.specs.declared.matching.Matching.{Matching}
use Rattle.edi_report.specs.Lines.{first_line, second_line}
use Rattle.edi_report.specs.Reports.{Report}
use Rattle.edi_report.specs.declared.parts.DifferingParts.{DifferingParts}
use Rattle.edi_report.specs.declared.sheet.LocatedSheet.{LocatedSheet}
use Rattle.edi_diff.specs.Changes.{AreChanges}
use Rattle.edi_picture.specs.declared.mark.Mark.TheVariants.{Plain, OnlySecond, After}
use Rattle.edi_drawing.specs.Marked.{first_mark, second_mark}

-- what a text of two sheets reports
abbrev pub report_of : LocatedSheet → LocatedSheet → Matching → Matching → List DifferingParts → Report
report_of first second unchanged became parts = record {
  first = first;
  second = second;
  unchanged = unchanged.to;
  became = became.to;
  parts = parts;
}

-- a record of the first sheet is grey exactly if the text has no line for it
abbrev pub FirstGreyIfUnlisted : Type 0
FirstGreyIfUnlisted = (first second : LocatedSheet) (unchanged became : Matching) (parts : List DifferingParts) (i : ℕ)
    → (first_mark unchanged became i ≡ Plain) ↔ (first_line (report_of first second unchanged became parts) i ≡ [])

-- a record of the second sheet has the colour of those that only it has exactly if the text has a line for it
abbrev pub SecondAloneIfListed : Type 0
SecondAloneIfListed = (first second : LocatedSheet) (unchanged became : Matching) (parts : List DifferingParts) (j : ℕ)
    → AreChanges first.accepted second.accepted unchanged became
    → (second_mark unchanged became j ≡ OnlySecond)
    ↔ ¬ (second_line (report_of first second unchanged became parts) j ≡ [])

-- a record of the second sheet has the colour of those that changed exactly if a record of the first that changed
-- became it
abbrev pub SecondChangedIfBecame : Type 0
SecondChangedIfBecame = (first second : LocatedSheet) (unchanged became : Matching) (j : ℕ)
    → AreChanges first.accepted second.accepted unchanged became
    → (second_mark unchanged became j ≡ After) ↔ ((i : ℕ) × (¬ (IsMatched unchanged.to i)) × GoesTo became.to i j)
