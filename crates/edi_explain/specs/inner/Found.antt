-- What is found of a sheet before it is explained: its plan, or its refusal, which faults speak of no other record, and the
-- zones of its records.
use Rattle.std.specs.Prelude.{◌≡◌, ◌<◌, ⊤, ℕ, zero, suc, List, Option, Some, None, Result, MatchResult, option_map, slice_get}
use Rattle.edi_line.specs.ZoneData.{ZoneData, entries}
use Rattle.edi_line.specs.Zones.{groups_of}
use Rattle.edi_schema.specs.Classes.{Classes}
use Rattle.edi_plan.specs.Plans.{PlanData}
use Rattle.edi_compare.specs.PlanOfFile.{IsPlanOfFile}
use Rattle.edi_compare.specs.Rules.{IsAccepted}
use Rattle.edi_compare.specs.declared.fault.Fault.{Fault}
use Rattle.edi_compare.specs.declared.fault.Fault.TheVariants.{Memory, Line, Entry as AtRecord}
use Rattle.edi_explain.specs.Found.{IsFound}
use Rattle.edi_explain.specs.declared.examined.Found.{Found}
use Rattle.edi_explain.specs.declared.refused.FoundRecords.{FoundRecords}

-- lack of memory, or a fault by a rule of lines or of records, which speaks of no other record
abbrev pub SpeaksOfNone : Fault → Type 0
SpeaksOfNone (Memory e) = ⊤
SpeaksOfNone (Line rule at) = ⊤
SpeaksOfNone (AtRecord rule at) = rule < 300

-- the plan of the sheet b, which is accepted; or why it is refused
abbrev pub IsExamined : Classes → List ℕ → Result PlanData Found → Type 0
IsExamined s b result = MatchResult result (λ plan. IsAccepted s b × IsPlanOfFile s b plan) (IsFound s b)

-- the zones of the record with this number, from 1, if it is one of these
abbrev pub group_numbered : List (List ZoneData) → ℕ → Option (List ZoneData)
group_numbered groups zero = None
group_numbered groups (suc place) = slice_get groups place

-- a place from 0 as a number from 1, or 0 for none
abbrev pub number_from_one : Option ℕ → ℕ
number_from_one (Some place) = suc place
number_from_one None = 0

-- the zones of the record with this number and of the one at an earlier place, of each that the file has
pub record AreFound (zones : List ZoneData) (number : ℕ) (earlier : Option ℕ) (found : FoundRecords) : Type 0 where
  pub here : option_map (λ g. entries g.now) found.here ≡ group_numbered (groups_of zones) number
  pub earlier_one : option_map (λ g. entries g.now) found.earlier
      ≡ group_numbered (groups_of zones) (number_from_one earlier)
