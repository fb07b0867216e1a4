-- The faults of the single phases as faults of a sheet, of two sheets and of a run.
use Rattle.edi_line.specs.declared.fault.LineFault.{LineFault}
use Rattle.edi_line.specs.declared.fault.LineFault.TheVariants as line
use Rattle.edi_record.specs.declared.fault.RecordFault.{RecordFault}
use Rattle.edi_record.specs.declared.fault.RecordFault.TheVariants as record_
use Rattle.edi_record.specs.declared.fault.SheetFault.{SheetFault}
use Rattle.edi_record.specs.declared.fault.SheetFault.TheVariants as sheet
use Rattle.edi_compare.specs.declared.fault.Fault.{Fault}
use Rattle.edi_compare.specs.declared.fault.Fault.TheVariants.{Memory, Line, Entry}
use Rattle.edi_compare.specs.declared.fault.CompareFault.{CompareFault}
use Rattle.edi_compare.specs.declared.fault.CompareFault.TheVariants as pair
use Rattle.edi_compare.specs.declared.fault.RunFault.{RunFault}
use Rattle.edi_compare.specs.declared.fault.RunFault.TheVariants as run

abbrev pub of_line : LineFault → Fault
of_line (line.Memory e) = Memory e
of_line (line.Broken rule at) = Line rule at

abbrev pub of_record : RecordFault → Fault
of_record (record_.Memory e) = Memory e
of_record (record_.Broken rule at) = Entry rule at

abbrev pub of_sheet : SheetFault → Fault
of_sheet (sheet.Line fault) = of_line fault
of_sheet (sheet.Record fault) = of_record fault

-- the fault of the first of two sheets, or of the second
abbrev pub of_first : Fault → CompareFault
of_first (Memory e) = pair.Memory e
of_first (Line rule at) = pair.First (Line rule at)
of_first (Entry rule at) = pair.First (Entry rule at)

abbrev pub of_second : Fault → CompareFault
of_second (Memory e) = pair.Memory e
of_second (Line rule at) = pair.Second (Line rule at)
of_second (Entry rule at) = pair.Second (Entry rule at)

-- the fault of two sheets as that of a run
abbrev pub of_pair : CompareFault → RunFault
of_pair (pair.Memory e) = run.Memory e
of_pair (pair.First f) = run.First f
of_pair (pair.Second f) = run.Second f
