-- What differs, with its picture.
use Rattle.std.proofs.Common.{ℕ, List}
use Rattle.std.specs.Global.{Vec}
use Rattle.edi_schema.specs.Classes.{Classes}
use Rattle.edi_diff.specs.Differences.{AreFindings}
use Rattle.edi_diff.specs.declared.differing.Findings.{Findings}
use Rattle.edi_diff.specs.declared.form.TextForm.{TextForm}
use Rattle.edi_picture.specs.Pictures.{IsPicture}
use Rattle.edi_drawing.specs.Drawn.{TwoFileNames, IsDrawnDifference, both_sheets}
use Rattle.edi_drawing.specs.Marked.{SheetPairData}

abbrev pub compared_of : Findings → SheetPairData
compared_of found = record { first = found.first; second = found.second; unchanged = found.unchanged; became = found.became }

pub drawn_by : (s : Classes) (names : TwoFileNames) (a b : List ℕ) (form : TextForm) (found : Findings) (picture : Vec ℕ) → AreFindings s a b form found
    → IsPicture s (both_sheets s names (compared_of found)) picture.items
    → IsDrawnDifference s names a b form (record { difference = found.difference; picture = picture })
drawn_by s names a b form found picture are drawn = record {
  differs = are.differs;
  compared = compared_of found;
  by_first = are.by_first;
  by_second = are.by_second;
  by_unchanged = are.by_unchanged;
  by_became = are.by_became;
  is_picture = drawn;
}
