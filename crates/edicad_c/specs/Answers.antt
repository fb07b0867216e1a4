-- The answers of calls.
use Rattle.std.specs.Prelude.{ℕ, Bool, if◌then◌else◌}
use Rattle.edi_schema.specs.declared.fault.SchemaFault.{SchemaFault}
use Rattle.edi_schema.specs.declared.fault.SchemaFault.TheVariants as schema
use Rattle.edi_schema.specs.declared.fault.Source.{Source}
use Rattle.edi_schema.specs.declared.fault.Source.TheVariants.{Scd, Dic}
use Rattle.edi_compare.specs.declared.fault.Fault.{Fault}
use Rattle.edi_compare.specs.declared.fault.Fault.TheVariants as sheet
use Rattle.edi_compare.specs.declared.fault.CompareFault.{CompareFault}
use Rattle.edi_compare.specs.declared.fault.CompareFault.TheVariants as pair
use Rattle.edi_compare.specs.declared.pairing.Verdict.{Verdict}
use Rattle.edi_compare.specs.declared.pairing.Verdict.TheVariants.{Same, Different}
use Rattle.edicad_c.specs.declared.answer.Answer.{Answer}

-- the call did what it was asked
abbrev pub done : Answer
done = record { status = 0; input = 0; rule = 0; unit = 0; place = 0 }

-- a handle doesn't hold what it should, or the codes of the kinds are wrong
abbrev pub wrong_call : Answer
wrong_call = record { status = 3; input = 0; rule = 0; unit = 0; place = 0 }

-- memory ran out
abbrev pub no_memory : Answer
no_memory = record { status = 5; input = 0; rule = 0; unit = 0; place = 0 }

-- two plans differ, or a pairing doesn't carry
abbrev pub differs : Answer
differs = record { status = 1; input = 0; rule = 0; unit = 0; place = 0 }

-- two plans differ, and their canonical files first at this line
abbrev pub differs_at : ℕ → Answer
differs_at line = record { status = 1; input = 0; rule = 0; unit = 1; place = line }

-- the input of this number is refused by a rule at a line, or at a record
abbrev pub refused_at_line : ℕ → ℕ → ℕ → Answer
refused_at_line input rule at = record { status = 2; input = input; rule = rule; unit = 1; place = at }

abbrev pub refused_at_record : ℕ → ℕ → ℕ → Answer
refused_at_record input rule at = record { status = 2; input = input; rule = rule; unit = 2; place = at }

-- the classes of the four kinds are refused
abbrev pub refused_kinds : Answer
refused_kinds = record { status = 2; input = 1; rule = 604; unit = 0; place = 0 }

abbrev pub source_number : Source → ℕ
source_number Scd = 1
source_number Dic = 2

-- the refusal of a schema
abbrev pub schema_answer : SchemaFault → Answer
schema_answer (schema.Memory e) = no_memory
schema_answer (schema.Line file rule at) = refused_at_line (source_number file) rule at
schema_answer (schema.Entry file rule at) = refused_at_record (source_number file) rule at
schema_answer schema.Kinds = refused_kinds

-- the refusal of the sheet that is the input of this number
abbrev pub sheet_answer : ℕ → Fault → Answer
sheet_answer input (sheet.Memory e) = no_memory
sheet_answer input (sheet.Line rule at) = refused_at_line input rule at
sheet_answer input (sheet.Entry rule at) = refused_at_record input rule at

-- the refusal of the first of two sheets, or of the second
abbrev pub pair_answer : CompareFault → Answer
pair_answer (pair.Memory e) = no_memory
pair_answer (pair.First f) = sheet_answer 3 f
pair_answer (pair.Second f) = sheet_answer 4 f

-- the verdict on two sheets
abbrev pub verdict_answer : Verdict → Answer
verdict_answer (Same pairing) = done
verdict_answer (Different line) = differs_at line

-- whether two sheets state the same plan
abbrev pub difference_answer : Bool → Answer
difference_answer same = if same then done else differs
