-- The records of a sheet under a schema.
use Rattle.std.specs.Prelude.{List}
use Rattle.edi_record.specs.declared.record.Record.{Record}
use Rattle.edi_schema.specs.Classes.{Classes}

-- the records of a sheet, and the classes that their names are looked up among
pub record RecordsUnderSchema : Type 0 where
  pub classes : Classes
  pub list : List Record
