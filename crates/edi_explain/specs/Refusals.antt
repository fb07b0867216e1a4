-- What a refusal speaks of: a record, and an earlier one.
use Rattle.std.specs.Prelude.{◌≡◌, ◌≢◌, ◌-◌, ℕ, suc, List, Option, Some, None}
use Rattle.edi_line.specs.ZoneData.{ZoneData}
use Rattle.edi_line.specs.LineRules.{IsZonesOf}
use Rattle.edi_line.specs.Zones.{groups_of}
use Rattle.edi_record.specs.Records.{SheetData}
use Rattle.edi_plan.specs.Plans.{PlanData}
use Rattle.edi_schema.specs.Classes.{Classes}
use Rattle.edi_compare.specs.PlanOfFile.{IsPlanOfFile, IsSheetOf}
use Rattle.edi_plan.specs.EarlierLinks.{IsLeastIfAny, SharesSide}
use Rattle.edi_topo.specs.EarlierRecords.{IsEqualNode, SharesPoints}
use Rattle.edi_rank.specs.EqualObjects.{IsEqualObject}
use Rattle.edi_explain.specs.Partners.{HasEnd, SharesName}
use Rattle.edi_explain.specs.RowPartners.{SharesRowName}
use Rattle.edi_explain.specs.Sites.{IsSiteIfAny}
use Rattle.edi_explain.specs.declared.refused.RefusalSites.{RefusalSites}
use Rattle.edi_explain.specs.declared.site.RecordSite.{RecordSite}

-- The earlier record of a sheet that a rule speaks of at a place, or none; places are from 0. It is the least that
-- breaks the rule with the record at the place: 301 by its name, 304 by its subset, 307 by the side of an arc, 403 as
-- an equal node, 405 as the same arc, 501 as an equal object.
pub record IsEarlierIfAny (s : Classes) (b : List ℕ) (rule place : ℕ) (found : Option ℕ) : Type 0 where
  pub names : rule ≡ 301 → (sheet : SheetData) × IsSheetOf b sheet × IsLeastIfAny (SharesName sheet.list place) found
  pub subsets : rule ≡ 304 → (sheet : SheetData) × IsSheetOf b sheet × IsLeastIfAny (HasEnd sheet.list place) found
  pub sides : rule ≡ 307 → (sheet : SheetData) × IsSheetOf b sheet × IsLeastIfAny (SharesSide s sheet.list place) found
  pub nodes : rule ≡ 403 → (p : PlanData) × IsPlanOfFile s b p × IsLeastIfAny (IsEqualNode p place) found
  pub arcs : rule ≡ 405 → (p : PlanData) × IsPlanOfFile s b p × IsLeastIfAny (SharesPoints p place) found
  pub objects : rule ≡ 501 → (p : PlanData) × IsPlanOfFile s b p × IsLeastIfAny (IsEqualObject p place) found
  pub others : rule ≢ 301 → rule ≢ 304 → rule ≢ 307 → rule ≢ 403 → rule ≢ 405 → rule ≢ 501 → found ≡ None

-- the same of a file of a schema: the least record with the name, for 602
pub record IsEarlierRowIfAny (zones : List ZoneData) (rule place : ℕ) (found : Option ℕ) : Type 0 where
  pub names : rule ≡ 602 → IsLeastIfAny (SharesRowName (groups_of zones) place) found
  pub others : rule ≢ 602 → found ≡ None

-- where the record at a place stands, if there is a place and a record
abbrev pub IsSiteAtIfAny : List ZoneData → Option ℕ → Option RecordSite → Type 0
IsSiteAtIfAny zones (Some place) found = IsSiteIfAny zones (suc place) found
IsSiteAtIfAny zones None found = found ≡ None

-- where the record of this number stands, and the one at an earlier place
pub record AreSites (zones : List ZoneData) (number : ℕ) (earlier : Option ℕ) (sites : RefusalSites) : Type 0 where
  pub here : IsSiteIfAny zones number sites.here
  pub earlier_site : IsSiteAtIfAny zones earlier sites.earlier

-- where the record of a refusal of the sheet b stands, and the earlier record that its rule speaks of; numbers are from
-- 1
abbrev pub IsRefusedAt : Classes → List ℕ → ℕ → ℕ → RefusalSites → Type 0
IsRefusedAt s b rule number sites =
    (zones : List ZoneData) × (earlier : Option ℕ) × IsZonesOf b zones × IsEarlierIfAny s b rule (number - 1) earlier
    × AreSites zones number earlier sites

-- the same in a file of a schema
abbrev pub IsRowRefusedAt : List ℕ → ℕ → ℕ → RefusalSites → Type 0
IsRowRefusedAt b rule number sites =
    (zones : List ZoneData) × (earlier : Option ℕ) × IsZonesOf b zones × IsEarlierRowIfAny zones rule (number - 1) earlier
    × AreSites zones number earlier sites
