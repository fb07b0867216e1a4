-- Where the records of a file stand, and what they call themselves.
use Rattle.std.specs.Prelude.{◌≡◌, List, ℕ, [], ◌∷◌, codes, unwrap_or}
use Rattle.std.specs.List.{AllZip}
use Rattle.edi_line.specs.ZoneData.{ZoneData, first}
use Rattle.edi_line.specs.LineRules.{IsZonesOf}
use Rattle.edi_line.specs.Zones.{groups_of}
use Rattle.edi_record.specs.Records.{values}
use Rattle.edi_report.specs.declared.site.Site.{Site}

-- the record of these zones begins in this line, and this is the value of its first RID, which is empty
-- where there is none
pub record IsSite (group : List ZoneData) (site : Site) : Type 0 where
  pub head : ZoneData
  pub rest : List ZoneData
  pub is : group ≡ head ∷ rest
  pub line : site.line ≡ head.line
  pub rid : site.rid ≡ unwrap_or (first (values (codes "RID") group)) []

-- the sites of the records of a file, in file order
abbrev pub AreSitesOf : List ℕ → List Site → Type 0
AreSitesOf b sites = (zones : List ZoneData) × IsZonesOf b zones × AllZip IsSite (groups_of zones) sites
