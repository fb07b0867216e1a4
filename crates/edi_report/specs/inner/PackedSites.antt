-- Sites that are held packed.
use Rattle.std.specs.Prelude.{◌≡◌, List}
use Rattle.std.specs.List.{AllZip}
use Rattle.edi_line.specs.Groups.{IsOneRecord}
use Rattle.edi_line.specs.ZoneData.{ZoneData}
use Rattle.edi_record.specs.Titles.{IsTitleOf}
use Rattle.edi_report.specs.Sites.{IsSite}
use Rattle.edi_report.specs.declared.site.Site.{Site}
use Rattle.edi_report.specs.declared.packed.LastSite.{LastSite}
use Rattle.edi_report.specs.declared.packed.PackedSites.{PackedSites}
use Rattle.edi_report.specs.declared.packed.Packing.{Packing}
use Rattle.edi_report.specs.inner.Packing.{ArePacked, last_of, start}

-- the site that the next one is packed behind
abbrev pub site_in : LastSite → Site
site_in last = record { line = last.line; rid = last.rid.items }

-- these sites are packed, and the last of them is at hand
pub record IsPackingOf (packed : Packing) (sites : List Site) : Type 0 where
  pub sites_are : ArePacked start sites packed.bytes.items
  pub last_is : site_in packed.last ≡ last_of start sites

-- the sites of these records are packed, and of the next these zones have come
pub record PacksSitesOf (packed : PackedSites) (groups : List (List ZoneData)) (group : List ZoneData) : Type 0 where
  pub sites : List Site
  pub each : AllZip IsSite groups sites
  pub packing : IsPackingOf packed.packing sites
  pub title : IsOneRecord group → IsTitleOf group packed.title
