-- The zones of a file, line by line: what reading finds.
use Rattle.std.specs.Prelude.{ℕ, suc, List, [], ◌∷◌, ◌++◌, Some, None, Ok, Err, map}
use Rattle.edi_line.specs.ZoneData.{ZoneData}
use Rattle.edi_line.specs.inner.Kinds.{kind_of}
use Rattle.edi_line.specs.Spelling.{Spelling, Reading}
use Rattle.edi_line.specs.inner.Lines.{line_contents}
use Rattle.edi_line.specs.inner.Spelling.{reading_of}
use Rattle.edi_line.specs.declared.order.ZoneKind.{ZoneKind}
use Rattle.edi_line.specs.declared.order.ZoneKind.TheVariants.{Bom, Cse, Rty, Eom, Other, Next, Remark}

-- what the lines of a file say, blank ones too
abbrev pub readings_of : List ℕ → List Reading
readings_of bytes = map reading_of (line_contents bytes)

-- what a line is to the zones: nothing, more of a value, a remark, or the head of a zone
pub data Part : Type 0 where
  Blank : Part
  Continues : List ℕ → Part
  IsRemark : Part
  Begins : ZoneData → Part

abbrev pub entry_of : ℕ → Spelling → ZoneData
entry_of line s = record { line = line; code = s.code; nature = s.nature; format = s.format; value = s.value }

abbrev pub part_by : ZoneKind → ℕ → Spelling → Part
part_by Next line s = Continues s.value
part_by Remark line s = IsRemark
part_by Bom line s = Begins (entry_of line s)
part_by Cse line s = Begins (entry_of line s)
part_by Rty line s = Begins (entry_of line s)
part_by Eom line s = Begins (entry_of line s)
part_by Other line s = Begins (entry_of line s)

-- a line that breaks a rule of its own bears no zone, and ends none
abbrev pub part_of : ℕ → Reading → Part
part_of line (Ok None) = Blank
part_of line (Ok (Some s)) = part_by (kind_of s.code) line s
part_of line (Err rule) = Blank

-- the parts of these lines, which come after so many others
abbrev pub parts_after : ℕ → List Reading → List Part
parts_after before [] = []
parts_after before (line ∷ lines) = part_of (suc before) line ∷ parts_after (suc before) lines

abbrev pub with_more : List ℕ → ZoneData → ZoneData
with_more more zone =
    record {
      line = zone.line;
      code = zone.code;
      nature = zone.nature;
      format = zone.format;
      value = zone.value ++ more;
    }
