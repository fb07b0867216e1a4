-- What holds of each sheet.
use Rattle.std.specs.Prelude.{IsTrue, List}
use Rattle.std.specs.List.{list_all}
use Rattle.edi_record.specs.declared.record.Record.{Record}
use Rattle.edi_record.specs.Shapes.{is_in_shape}

-- each record of the list has the points and the ends of its kind
abbrev pub AreInShape : List Record → Type 0
AreInShape list = IsTrue (list_all is_in_shape list)
