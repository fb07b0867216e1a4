-- From one profile to another.
use Rattle.std.proofs.Common.{ℕ, List, [], ◌∷◌}
use Rattle.std.specs.List.{AllZip}
use Rattle.edi_line.specs.ZoneData.{ZoneData}
use Rattle.edi_line.specs.LineRules.{IsZonesOf}
use Rattle.edi_record.specs.Records.{SheetData}
use Rattle.edi_schema.specs.Classes.{Classes}
use Rattle.edi_plan.specs.Plans.{PlanData}
use Rattle.edi_compare.specs.Rules.{LinesHold}
use Rattle.edi_profiles.specs.Profiles.{Profile, BreaksBy, BreaksRecords, BreaksTopology, IsAcceptedBy, IsPlanBy, IsSheetBy, RecordsHoldBy, ReferencesHoldBy, TopologyHoldsBy}
use Rattle.edi_profiles.specs.Profiles.BreaksBy.{of_lines, of_records, of_references, of_topology, of_objects}

-- what holds place by place, in another form
pub zip_map : {A B : Type 0} (R S : A → B → Type 0) (xs : List A) (ys : List B) → ((x : A) (y : B) → R x y → S x y) → AllZip R xs ys → AllZip S xs ys
zip_map R S [] [] f all = tt
zip_map R S [] (y ∷ ys) f all = absurd all
zip_map R S (x ∷ xs) [] f all = absurd all
zip_map R S (x ∷ xs) (y ∷ ys) f all = (f x y all.0, zip_map R S xs ys f all.1)

-- what holds of an accepted sheet, phase by phase
module _ (P : Profile) (s : Classes) (b : List ℕ) (accepted : IsAcceptedBy P s b) where
  pub records_held : RecordsHoldBy P s b
  records_held =
      let lines : LinesHold s b = λ rule at h. accepted rule at (of_lines h) in
      (lines, λ zones z rule at h. accepted rule at (of_records zones lines z h))

  pub references_held : ReferencesHoldBy P s b
  references_held = (records_held, λ sheet g rule at h. accepted rule at (of_references sheet records_held g h))

  pub topology_held : TopologyHoldsBy P s b
  topology_held = (references_held, λ p g rule at h. accepted rule at (of_topology p references_held g h))

  -- a sheet accepted by one profile is accepted by another, whose rules are broken only where those of the one are
  module _ (Q : Profile) (records : (zones : List ZoneData) (rule at : ℕ) → BreaksRecords Q zones rule at → BreaksRecords P zones rule at)
      (sheets : (sheet : SheetData) → IsSheetBy Q b sheet → IsSheetBy P b sheet)
      (topology : (p : PlanData) → IsPlanBy Q s b p → (rule at : ℕ) → BreaksTopology Q p rule at → BreaksTopology P p rule at) where
    plan : (p : PlanData) → IsPlanBy Q s b p → IsPlanBy P s b p
    plan p g = (g.0, sheets g.0 g.1, g.2)

    pub also_accepted : IsAcceptedBy Q s b
    also_accepted rule at (of_lines h) = accepted rule at (of_lines h)
    also_accepted rule at (of_records zones lines z h) = accepted rule at (of_records zones lines z (records zones rule at h))
    also_accepted rule at (of_references sheet held g h) = accepted rule at (of_references sheet records_held (sheets sheet g) h)
    also_accepted rule at (of_topology p held g h) = accepted rule at (of_topology p references_held (plan p g) (topology p g rule at h))
    also_accepted rule at (of_objects p held g h) = accepted rule at (of_objects p topology_held (plan p g) h)

-- two profiles whose rules are broken at the same places of a file, phase by phase
module _ (P Q : Profile) (s : Classes) (b : List ℕ)
    (records : (zones : List ZoneData) → IsZonesOf b zones → (rule at : ℕ) → BreaksRecords P zones rule at → BreaksRecords Q zones rule at)
    (back : (zones : List ZoneData) → IsZonesOf b zones → (rule at : ℕ) → BreaksRecords Q zones rule at → BreaksRecords P zones rule at)
    (sheets : (sheet : SheetData) → IsSheetBy P b sheet → IsSheetBy Q b sheet)
    (sheets_back : (sheet : SheetData) → IsSheetBy Q b sheet → IsSheetBy P b sheet)
    (topology : (p : PlanData) (rule at : ℕ) → BreaksTopology P p rule at → BreaksTopology Q p rule at)
    (topology_back : (p : PlanData) (rule at : ℕ) → BreaksTopology Q p rule at → BreaksTopology P p rule at) where
  records_hold : RecordsHoldBy P s b → RecordsHoldBy Q s b
  records_hold held = (held.0, λ zones z rule at h. held.1 zones z rule at (back zones z rule at h))

  references_hold : ReferencesHoldBy P s b → ReferencesHoldBy Q s b
  references_hold held = (records_hold held.0, λ sheet g rule at h. held.1 sheet (sheets_back sheet g) rule at h)

  topology_holds : TopologyHoldsBy P s b → TopologyHoldsBy Q s b
  topology_holds held = (references_hold held.0, λ p g rule at h. held.1 p (g.0, sheets_back g.0 g.1, g.2) rule at (topology_back p rule at h))

  pub transfer : (rule at : ℕ) → BreaksBy P s b rule at → BreaksBy Q s b rule at
  transfer rule at (of_lines h) = of_lines h
  transfer rule at (of_records zones lines z h) = of_records zones lines z (records zones z rule at h)
  transfer rule at (of_references sheet held g h) = of_references sheet (records_hold held) (sheets sheet g) h
  transfer rule at (of_topology p held g h) = of_topology p (references_hold held) (g.0, sheets g.0 g.1, g.2) (topology p rule at h)
  transfer rule at (of_objects p held g h) = of_objects p (topology_holds held) (g.0, sheets g.0 g.1, g.2) h
