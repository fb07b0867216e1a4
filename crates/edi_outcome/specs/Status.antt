-- The exit status of each outcome.
use Rattle.std.specs.Prelude.{ℕ}
use Rattle.edi_schema.specs.declared.fault.SchemaFault.{SchemaFault}
use Rattle.edi_schema.specs.declared.fault.SchemaFault.TheVariants as schema
use Rattle.edi_compare.specs.declared.fault.Fault.{Fault as SheetFault}
use Rattle.edi_compare.specs.declared.fault.Fault.TheVariants as sheet
use Rattle.edi_compare.specs.declared.fault.RunFault.{RunFault}
use Rattle.edi_compare.specs.declared.fault.RunFault.TheVariants.{Memory, Read, TooLong, Schema, First, Second, Write}
use Rattle.edi_outcome.specs.declared.outcome.Outcome.{Outcome}
use Rattle.edi_outcome.specs.declared.outcome.Outcome.TheVariants.{Accepted, Same, Different, Pairs, Unpaired, WrongPairing, Fault}

abbrev pub status_of_schema : SchemaFault → ℕ
status_of_schema (schema.Memory e) = 5
status_of_schema (schema.Line file rule at) = 2
status_of_schema (schema.Entry file rule at) = 2
status_of_schema schema.Kinds = 2

abbrev pub status_of_sheet : SheetFault → ℕ
status_of_sheet (sheet.Memory e) = 5
status_of_sheet (sheet.Line rule at) = 2
status_of_sheet (sheet.Entry rule at) = 2

abbrev pub status_of_fault : RunFault → ℕ
status_of_fault (Memory e) = 5
status_of_fault (Read input) = 4
status_of_fault (TooLong input) = 4
status_of_fault (Schema f) = status_of_schema f
status_of_fault (First f) = status_of_sheet f
status_of_fault (Second f) = status_of_sheet f
status_of_fault (Write w) = 4

abbrev pub status_for : Outcome → ℕ
status_for Accepted = 0
status_for Same = 0
status_for (Different line) = 1
status_for Pairs = 0
status_for (Unpaired why) = 1
status_for (WrongPairing line why) = 2
status_for (Fault fault) = status_of_fault fault
