-- The sites of groups of zones.
use Rattle.std.specs.Prelude.{◌≡◌, List, [], Option, MatchOption}
use Rattle.edi_line.specs.Groups.{IsOneRecord}
use Rattle.edi_line.specs.ZoneData.{ZoneData}
use Rattle.edi_record.specs.Titles.{IsTitleOf}
use Rattle.edi_explain.specs.Sites.{AreAllSites, IsSiteOfGroup}
use Rattle.edi_explain.specs.declared.listing.SiteList.{SiteList}
use Rattle.edi_explain.specs.declared.site.RecordSite.{RecordSite}

-- the site of a group, which only an empty one lacks
abbrev pub IsGroupSite : List ZoneData → Option RecordSite → Type 0
IsGroupSite group found = MatchOption found (group ≡ []) (IsSiteOfGroup group)

-- the sites are those of these records, and of the next these zones have come
pub record HoldsSites (list : SiteList) (groups : List (List ZoneData)) (group : List ZoneData) : Type 0 where
  pub sites : AreAllSites groups list.sites.items
  pub title : IsOneRecord group → IsTitleOf group list.title
