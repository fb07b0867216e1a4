-- The node that a rule of topology speaks of beside an arc.
use Rattle.std.specs.Prelude.{◌≡◌, ◌≢◌, ◌-◌, ◌==◌, ℕ, suc, List, [], Option, Some, None, codes, if◌then◌else◌}
use Rattle.edi_line.specs.ZoneData.{ZoneData}
use Rattle.edi_line.specs.LineRules.{IsZonesOf}
use Rattle.edi_plan.specs.Plans.{PlanData}
use Rattle.edi_plan.specs.Sides.{IsSideIfAny}
use Rattle.edi_schema.specs.Classes.{Classes}
use Rattle.edi_schema.specs.declared.role.Role.TheVariants.{Initial, Final}
use Rattle.edi_compare.specs.PlanOfFile.{IsPlanOfFile}
use Rattle.edi_explain.specs.Lines.{line_of_site}
use Rattle.edi_explain.specs.Sites.{IsSiteIfAny}
use Rattle.edi_explain.specs.declared.site.RecordSite.{RecordSite}

-- The node of a sheet that a rule speaks of at an arc's place, or none; places are from 0. It is the arc's initial node
-- for 401, and its final node for 402.
pub record IsEndNodeIfAny (s : Classes) (b : List ℕ) (rule place : ℕ) (found : Option ℕ) : Type 0 where
  pub initial : rule ≡ 401 → (p : PlanData) × IsPlanOfFile s b p × IsSideIfAny p place Initial found
  pub final : rule ≡ 402 → (p : PlanData) × IsPlanOfFile s b p × IsSideIfAny p place Final found
  pub others : rule ≢ 401 → rule ≢ 402 → found ≡ None

-- what is said of it
abbrev pub end_node_sentence : ℕ → List ℕ
end_node_sentence rule = if rule == 401 then codes "the initial node" else codes "the final node"

-- the line on the record at a place of the sheet b, or none where there is no such place
abbrev pub IsEndNodeLine : List ℕ → List ℕ → ℕ → Option ℕ → List ℕ → Type 0
IsEndNodeLine b name rule None lines = lines ≡ []
IsEndNodeLine b name rule (Some place) lines = (zones : List ZoneData) × (site : Option RecordSite) × IsZonesOf b zones
    × IsSiteIfAny zones (suc place) site × (lines ≡ line_of_site name site (end_node_sentence rule) rule)

-- the line on the node that a rule speaks of at the record with a number, from 1
abbrev pub ExplainsEndNode : Classes → List ℕ → List ℕ → ℕ → ℕ → List ℕ → Type 0
ExplainsEndNode s b name rule number lines = (node : Option ℕ) × IsEndNodeIfAny s b rule (number - 1) node
    × IsEndNodeLine b name rule node lines
