-- What a file breaks, phase by phase, under two schemas that are linked.
use Rattle.std.proofs.Common.{ℕ, List}
use Rattle.edi_line.specs.Refusal.{IsLeastBroken}
use Rattle.edi_record.specs.Records.{SheetData}
use Rattle.edi_schema.specs.Classes.{Classes}
use Rattle.edi_plan.specs.PlanOf.{IsPlanOf}
use Rattle.edi_plan.specs.Plans.{PlanData}
use Rattle.edi_compare.specs.PlanOfFile.{IsPlanOfFile}
use Rattle.edi_compare.specs.Refused.{IsRefusal}
use Rattle.edi_compare.specs.Rules.{Breaks, IsAccepted, LinesHold, RecordsHold, ReferencesHold, TopologyHolds}
use Rattle.edi_compare.specs.Rules.Breaks.{of_lines, of_records, of_references, of_topology, of_objects}
use Rattle.edi_compare.specs.declared.fault.Fault.{Fault}
use Rattle.edi_compare.specs.declared.fault.Fault.TheVariants.{Memory, Line, Entry}
use Rattle.edi_schema_meaning.proofs.Broken.{object_rule_in, topology_in}
use Rattle.edi_schema_meaning.proofs.References.{Attributed, Nameable, SameNames, attributed, nameable, references}
use Rattle.edi_schema_meaning.proofs.Renamed.{renamed}

-- the names mean the same, and a plan under s is one under u with its classes renamed
pub record IsLinked (s u : Classes) (f : ℕ → ℕ) : Type 0 where
  pub names : SameNames s u
  pub plans : (sheet : SheetData) (p : PlanData) → Nameable sheet.list → Attributed sheet.list → IsPlanOf s sheet p → IsPlanOf u sheet (renamed f p)

-- what holds of an accepted file
pub references_held : (s : Classes) (b : List ℕ) → IsAccepted s b → ReferencesHold s b
references_held s b accepted =
    let lines : LinesHold s b = λ rule at h. accepted rule at (of_lines h) in
    let records : RecordsHold s b = (lines, λ zones z rule at h. accepted rule at (of_records zones lines z h)) in
    (records, λ sheet g rule at h. accepted rule at (of_references sheet records g h))

module _ (s u : Classes) (f g : ℕ → ℕ) (link : IsLinked s u f) (back : IsLinked u s g) (b : List ℕ) where
  references_hold : ReferencesHold s b → ReferencesHold u b
  references_hold h = (h.0, λ sheet is rule at broken. h.1 sheet is rule at (references u s back.names sheet.list (nameable b sheet is) rule at broken))

  pub plan_held : ReferencesHold s b → (p : PlanData) → IsPlanOfFile s b p → IsPlanOfFile u b (renamed f p)
  plan_held h p plan = (plan.0, plan.1, link.plans plan.0 p (nameable b plan.0 plan.1) (attributed s plan.0.list (h.1 plan.0 plan.1)) plan.2)

module _ (s u : Classes) (f g : ℕ → ℕ) (link : IsLinked s u f) (back : IsLinked u s g) (b : List ℕ) where
  topology_hold : TopologyHolds s b → TopologyHolds u b
  topology_hold h =
      let held : ReferencesHold u b = references_hold s u f g link back b h.0 in
      (held, λ p plan rule at broken. h.1 (renamed g p) (plan_held u s g f back link b held p plan) rule at (topology_in g p rule at broken))

  pub breaks : (rule at : ℕ) → Breaks s b rule at → Breaks u b rule at
  breaks rule at (of_lines h) = of_lines h
  breaks rule at (of_records zones lines z h) = of_records zones lines z h
  breaks rule at (of_references sheet held is h) = of_references sheet held is (references s u link.names sheet.list (nameable b sheet is) rule at h)
  breaks rule at (of_topology p held plan h) =
      of_topology (renamed f p) (references_hold s u f g link back b held) (plan_held s u f g link back b held p plan) (topology_in f p rule at h)
  breaks rule at (of_objects p held plan h) = of_objects (renamed f p) (topology_hold held) (plan_held s u f g link back b held.0 p plan) (object_rule_in f p rule at h)

module _ (s u : Classes) (f g : ℕ → ℕ) (link : IsLinked s u f) (back : IsLinked u s g) (b : List ℕ) where
  pub accepted : IsAccepted s b → IsAccepted u b
  accepted h rule at broken = h rule at (breaks u s g f back link b rule at broken)

  least : (rule at : ℕ) → IsLeastBroken (Breaks s b) rule at → IsLeastBroken (Breaks u b) rule at
  least rule at h = record { is = breaks s u f g link back b rule at h.is; least = λ r p broken. h.least r p (breaks u s g f back link b r p broken) }

  pub refusal : (fault : Fault) → IsRefusal s b fault → IsRefusal u b fault
  refusal (Memory e) h = h
  refusal (Line rule at) h = (h.0, least rule at h.1)
  refusal (Entry rule at) h = (h.0, least rule at h.1)
