-- The records that the ends of links name.
use Rattle.std.specs.Prelude.{◌≡◌, ℕ, false, List, flat_map, codes, Option, None, Some, MatchOption, slice_get, if◌then◌else◌}
use Rattle.std.specs.Str.{bytes_eq}
use Rattle.std.specs.List.{AllZip}
use Rattle.edi_record.specs.declared.name.Name.{Name}
use Rattle.edi_record.specs.LinkEnds.{EndData}
use Rattle.edi_record.specs.declared.record.Kind.{Kind}
use Rattle.edi_record.specs.declared.record.Kind.TheVariants.{Pno, Par, Pfe, Fea}
use Rattle.edi_record.specs.declared.record.Record.{Record}
use Rattle.edi_plan.specs.PlanOf.{own_name, place_named}
use Rattle.edi_record.specs.Records.{is_link}
use Rattle.edi_plan.specs.declared.targets.Target.{Target}

-- the type of node, arc, face or object that a code names
abbrev pub target_kind : List ℕ → Option Kind
target_kind code =
    if bytes_eq code (codes "PNO") then Some Pno else
    if bytes_eq code (codes "PAR") then Some Par else
    if bytes_eq code (codes "PFE") then Some Pfe else
    if bytes_eq code (codes "FEA") then Some Fea else None

-- the end names this record, which is no link
pub record Leads (list : List Record) (e : EndData) (t : Target) : Type 0 where
  pub there : Record
  pub named : place_named list e.target ≡ Some t.place
  pub here : slice_get list t.place ≡ Some there
  pub kind : there.kind ≡ t.kind
  pub no_link : is_link t.kind ≡ false

-- the record at a place has this name
pub record HasNameAt (list : List Record) (name : Name) (place : ℕ) : Type 0 where
  pub there : Record
  pub here : slice_get list place ≡ Some there
  pub is : own_name there ≡ name

-- what the end names, or it names no node, arc, face or object
abbrev pub IsTargetIfAny : List Record → EndData → Option Target → Type 0
IsTargetIfAny list e found = MatchOption found ((t : Target) → ¬ (Leads list e t)) (Leads list e)

-- what the ends of some of the records name
abbrev pub AreTargets : List Record → List Record → List (Option Target) → Type 0
AreTargets list some targets = AllZip (IsTargetIfAny list) (flat_map (λ r. r.ends) some) targets
