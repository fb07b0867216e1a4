-- The faults of the phases are refusals of the sheet.
use Rattle.std.proofs.Common.{◌≡◌, sym, subst, ℕ, List, Result, Ok, Err}
use Rattle.std.specs.Result.{IsErrAnd, IfErr}
use Rattle.edi_line.specs.ZoneData.{ZoneData}
use Rattle.edi_line.specs.LineRules.{BreaksLineRule, IsZonesOf}
use Rattle.edi_line.specs.Refusal.{IsLineRefusal}
use Rattle.edi_line.specs.declared.fault.LineFault.{LineFault}
use Rattle.edi_line.specs.declared.fault.LineFault.TheVariants as line
use Rattle.edi_record.specs.RecordRefusal.{IsRecordRefusal, IsSheetRefusal}
use Rattle.edi_record.specs.RecordRules.{BreaksRecordRule}
use Rattle.edi_record.specs.Records.{SheetData}
use Rattle.edi_record.specs.declared.fault.RecordFault.{RecordFault}
use Rattle.edi_record.specs.declared.fault.RecordFault.TheVariants as record_
use Rattle.edi_record.specs.declared.fault.SheetFault.{SheetFault}
use Rattle.edi_record.specs.declared.fault.SheetFault.TheVariants as file
use Rattle.edi_schema.specs.Classes.{Classes}
use Rattle.edi_plan.specs.Plans.{PlanData}
use Rattle.edi_plan.specs.ReferenceRules.{BreaksReferenceRule}
use Rattle.edi_topo.specs.TopologyRules.{BreaksTopologyRule}
use Rattle.edi_rank.specs.EqualObjects.{BreaksObjectRule}
use Rattle.edi_compare.specs.Faults.{of_line, of_record, of_sheet, of_first, of_second}
use Rattle.edi_compare.specs.PlanOfFile.{IsSheetOf, IsPlanOfFile}
use Rattle.edi_compare.specs.Refused.{IsRefusal, IsPairRefusal}
use Rattle.edi_compare.specs.Rules.{LinesHold, RecordsHold, ReferencesHold, TopologyHolds, IsAccepted}
use Rattle.edi_compare.specs.declared.fault.Fault.{Fault}
use Rattle.edi_compare.specs.declared.fault.Fault.TheVariants as sheet
use Rattle.edi_compare.proofs.Phases.{line_refusal, record_refusal, reference_refusal, topology_refusal, object_refusal}

-- the fault that is handed on
pub err_kept : {T E : Type 0} (r : Result T E) (fault : E) (P : E → Type 0) → IsErrAnd r (λ e. e ≡ fault) → P fault → IfErr r P
err_kept (Ok x) fault P e h = tt
err_kept (Err f) fault P e h = subst P (sym e) h

module _ (s : Classes) (b : List ℕ) where
  pub line_fault : (f : LineFault) → IsLineRefusal (BreaksLineRule b) f → IsRefusal s b (of_line f)
  line_fault (line.Memory e) h = tt
  line_fault (line.Broken rule at) h = line_refusal s b rule at h

  pub record_fault : LinesHold s b → (zones : List ZoneData) → IsZonesOf b zones → (f : RecordFault) → IsRecordRefusal (BreaksRecordRule zones) f → IsRefusal s b (of_record f)
  record_fault lines zones are (record_.Memory e) h = tt
  record_fault lines zones are (record_.Broken rule at) h = record_refusal s b rule at lines zones are h

  pub sheet_fault : (f : SheetFault) → IsSheetRefusal b f → IsRefusal s b (of_sheet f)
  sheet_fault (file.Line f) h = line_fault f h
  sheet_fault (file.Record f) h = record_fault h.0 h.1.0 h.1.1 f h.1.2

  pub reference_fault : RecordsHold s b → (sheet : SheetData) → IsSheetOf b sheet → (f : RecordFault) → IsRecordRefusal (BreaksReferenceRule s sheet.list) f → IsRefusal s b (of_record f)
  reference_fault records sheet states (record_.Memory e) h = tt
  reference_fault records sheet states (record_.Broken rule at) h = reference_refusal s b rule at records sheet states h

  pub topology_fault : ReferencesHold s b → (plan : PlanData) → IsPlanOfFile s b plan → (f : RecordFault) → IsRecordRefusal (BreaksTopologyRule plan) f → IsRefusal s b (of_record f)
  topology_fault references plan states (record_.Memory e) h = tt
  topology_fault references plan states (record_.Broken rule at) h = topology_refusal s b rule at references plan states h

  pub rank_fault : TopologyHolds s b → (plan : PlanData) → IsPlanOfFile s b plan → (f : RecordFault) → IsRecordRefusal (BreaksObjectRule plan) f → IsRefusal s b (of_record f)
  rank_fault topology plan states (record_.Memory e) h = tt
  rank_fault topology plan states (record_.Broken rule at) h = object_refusal s b rule at topology plan states h

-- the faults of two sheets

pub first_fault : (s : Classes) (a b : List ℕ) (f : Fault) → IsRefusal s a f → IsPairRefusal s a b (of_first f)
first_fault s a b (sheet.Memory e) h = tt
first_fault s a b (sheet.Line rule at) h = (tt, h)
first_fault s a b (sheet.Entry rule at) h = (tt, h)

pub second_fault : (s : Classes) (a b : List ℕ) (f : Fault) → IsAccepted s a → IsRefusal s b f → IsPairRefusal s a b (of_second f)
second_fault s a b (sheet.Memory e) accepted h = tt
second_fault s a b (sheet.Line rule at) accepted h = (accepted, tt, h)
second_fault s a b (sheet.Entry rule at) accepted h = (accepted, tt, h)
