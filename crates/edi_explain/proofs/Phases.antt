-- What holds of a sheet that is refused at a record: no rule of an earlier phase is broken.
use Rattle.std.proofs.Common.{◌<◌, ℕ, List, arith}
use Rattle.edi_line.specs.ZoneData.{ZoneData}
use Rattle.edi_line.specs.LineRules.{BreaksLineRule}
use Rattle.edi_line.specs.Refusal.{IsLeastBroken}
use Rattle.edi_line.specs.declared.fault.LineFault.TheVariants as line
use Rattle.edi_record.specs.RecordRefusal.{IsSheetRefusal}
use Rattle.edi_record.specs.RecordRules.{BreaksGroupRule}
use Rattle.edi_record.specs.RecordRules.BreaksGroupRule.{lacks_kind, lacks_identifier, lacks_class as lacks_record_class, bad_attribute, wrong_count, bad_point, bad_end, unknown_pointer}
use Rattle.edi_record.specs.declared.fault.RecordFault.TheVariants as record_
use Rattle.edi_record.specs.declared.fault.SheetFault.{SheetFault}
use Rattle.edi_record.specs.declared.fault.SheetFault.TheVariants as file
use Rattle.edi_record.specs.declared.record.Record.{Record}
use Rattle.edi_schema.specs.Classes.{Classes}
use Rattle.edi_plan.specs.ReferenceRules.{BreaksReferenceRule}
use Rattle.edi_plan.specs.ReferenceRules.BreaksReferenceRule.{repeats_name, lacks_class, lacks_attribute_class, leaves_subset, names_nothing, joins_wrong, repeats_side}
use Rattle.edi_compare.specs.Faults.{of_sheet}
use Rattle.edi_compare.specs.Refused.{IsRefusal}
use Rattle.edi_compare.specs.Rules.{Breaks, LinesHold}
use Rattle.edi_compare.specs.Rules.Breaks.{of_lines, of_records, of_references, of_topology, of_objects}
use Rattle.edi_compare.specs.declared.fault.Fault.TheVariants.{Entry as AtRecord, Line as AtLine}
use Rattle.edi_explain.specs.inner.Found.{SpeaksOfNone}
use Rattle.edi_compare.proofs.Phases.{line_refusal, object_refusal, record_refusal, reference_refusal, topology_refusal}

group_below : (group : List ZoneData) (rule : ℕ) → BreaksGroupRule group rule → rule < 300
group_below group rule (lacks_kind e h) = omega (arith, e)
group_below group rule (lacks_identifier e h) = omega (arith, e)
group_below group rule (lacks_record_class e h) = omega (arith, e)
group_below group rule (bad_attribute e h) = omega (arith, e)
group_below group rule (wrong_count e h) = omega (arith, e)
group_below group rule (bad_point e h) = omega (arith, e)
group_below group rule (bad_end e k h) = omega (arith, e)
group_below group rule (unknown_pointer e h) = omega (arith, e)

pub reference_below : (s : Classes) (list : List Record) (rule place : ℕ) → BreaksReferenceRule s list rule place → rule < 400
reference_below s list rule place (repeats_name e h) = omega (arith, e)
reference_below s list rule place (lacks_class e h) = omega (arith, e)
reference_below s list rule place (lacks_attribute_class e h) = omega (arith, e)
reference_below s list rule place (leaves_subset e h) = omega (arith, e)
reference_below s list rule place (names_nothing e h) = omega (arith, e)
reference_below s list rule place (joins_wrong e h) = omega (arith, e)
reference_below s list rule place (repeats_side e h) = omega (arith, e)

-- the fault of a file that breaks a rule of lines or of records
pub sheet_alone : (b : List ℕ) (f : SheetFault) → IsSheetRefusal b f → SpeaksOfNone (of_sheet f)
sheet_alone b (file.Line (line.Memory e)) h = tt
sheet_alone b (file.Line (line.Broken rule at)) h = tt
sheet_alone b (file.Record (record_.Memory e)) h = tt
sheet_alone b (file.Record (record_.Broken rule at)) h = let g = h.1.2.is in group_below g.group rule g.breaks

module _ (s : Classes) (b : List ℕ) (rule at : ℕ) (is : IsRefusal s b (AtRecord rule at)) where
  no_line : BreaksLineRule b rule at → ⊥
  no_line g =
      let below = line_refusal s b rule at (record { is = g; least = λ r p h. is.1.least r p (of_lines h) }) in
      absurd (omega (arith, below.0, is.0))

  lines_of : Breaks s b rule at → LinesHold s b
  lines_of (of_lines g) = absurd (no_line g)
  lines_of (of_records zones held z g) = held
  lines_of (of_references sheet held z g) = held.0
  lines_of (of_topology plan held z g) = held.0.0
  lines_of (of_objects plan held z g) = held.0.0.0

  -- no rule of lines is broken
  pub lines_hold : LinesHold s b
  lines_hold = lines_of is.1.is

-- the least broken rule of lines
pub line_least : (s : Classes) (b : List ℕ) (rule at : ℕ) → IsRefusal s b (AtLine rule at) → IsLeastBroken (BreaksLineRule b) rule at
line_least s b rule at is = record { is = go is.1.is; least = λ r p h. is.1.least r p (of_lines h) }
  where
    go : Breaks s b rule at → BreaksLineRule b rule at
    go (of_lines g) = g
    go (of_records zones held z g) =
        let late = record_refusal s b rule at held zones z (record { is = g; least = λ r p h. is.1.least r p (of_records zones held z h) }) in absurd (omega (arith, late.0, is.0))
    go (of_references sheet held z g) =
        let late = reference_refusal s b rule at held sheet z (record { is = g; least = λ r p h. is.1.least r p (of_references sheet held z h) }) in absurd (omega (arith, late.0, is.0))
    go (of_topology plan held z g) =
        let late = topology_refusal s b rule at held plan z (record { is = g; least = λ r p h. is.1.least r p (of_topology plan held z h) }) in absurd (omega (arith, late.0, is.0))
    go (of_objects plan held z g) =
        let late = object_refusal s b rule at held plan z (record { is = g; least = λ r p h. is.1.least r p (of_objects plan held z h) }) in absurd (omega (arith, late.0, is.0))
