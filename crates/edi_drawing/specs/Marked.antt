-- The marks of records, and sheets as they are drawn.
use Rattle.std.specs.Prelude.{ℕ, Bool, List, Option, Some, None, length, map, slice_index_or, if◌then◌else◌}
use Rattle.std.specs.List.{range_with_len}
use Rattle.edi_plan.specs.Plans.{PlanData}
use Rattle.edi_matching.specs.declared.matching.Matching.{Matching}
use Rattle.edi_report.specs.Lines.{is_reached}
use Rattle.edi_report.specs.declared.sheet.LocatedSheet.{LocatedSheet}
use Rattle.edi_picture.specs.Sheets.{DrawnSheet}
use Rattle.edi_picture.specs.declared.mark.Mark.{Mark}
use Rattle.edi_picture.specs.declared.mark.Mark.TheVariants.{Plain, OnlyFirst, OnlySecond, Before, After, Hidden}

-- ---- marks

-- the mark of a record of the first sheet, by the one of the second that it is, and the one that it is or became
abbrev pub mark_by : Option ℕ → Option ℕ → Mark
mark_by (Some j) became = Plain
mark_by None (Some j) = Before
mark_by None None = OnlyFirst

abbrev pub first_mark : Matching → Matching → ℕ → Mark
first_mark unchanged became i = mark_by (slice_index_or unchanged.to i None) (slice_index_or became.to i None)

-- the mark of a record of the second sheet: it isn't drawn where it is one of the first, which is drawn already
abbrev pub second_mark : Matching → Matching → ℕ → Mark
second_mark unchanged became j =
    if is_reached unchanged.to j then Hidden else if is_reached became.to j then After else OnlySecond

-- something of each record of a plan
abbrev pub of_each : {X : Type 0} → (ℕ → X) → PlanData → List X
of_each f p = map f (range_with_len 0 (length p.list))

-- two sheets, and what is unchanged of the first in the second and what became of it there
pub record SheetPairData : Type 0 where
  pub first : LocatedSheet
  pub second : LocatedSheet
  pub unchanged : Matching
  pub became : Matching

abbrev pub first_marks : SheetPairData → List Mark
first_marks c = of_each (first_mark c.unchanged c.became) c.first.accepted

abbrev pub second_marks : SheetPairData → List Mark
second_marks c = of_each (second_mark c.unchanged c.became) c.second.accepted

-- the record of the second sheet that one of the first is, if any
abbrev pub twin_of : SheetPairData → ℕ → Option ℕ
twin_of c i = slice_index_or c.unchanged.to i None

-- ---- sheets

-- a sheet with the name of its file and the identifiers that its records have there; and of each record the mark,
-- whether it is tinted, and what is written on it
abbrev pub drawn_sheet : List ℕ → LocatedSheet → List Mark → List Bool → List (List ℕ) → DrawnSheet
drawn_sheet name sheet marks tints labels = record {
  plan = sheet.accepted;
  name = name;
  identifiers = map (λ site. site.rid) sheet.sites;
  marks = marks;
  tints = tints;
  labels = labels;
}
