-- Where the records of a file stand.
use Rattle.std.specs.Prelude.{ℕ, ◌≤◌, List, All}
use Rattle.edi_line.specs.ZoneData.{ZoneData}
use Rattle.edi_line.specs.LineRules.{IsZonesOf}
use Rattle.edi_line.specs.Zones.{groups_of}
use Rattle.edi_explain.specs.Sites.{AreAllSites}
use Rattle.edi_explain.specs.declared.site.RecordSite.{RecordSite}
use Rattle.edi_line.specs.declared.broken.BrokenRule.{BrokenRule}

-- these are the sites of the records of the file b
abbrev pub AreSitesOfFile : List ℕ → List RecordSite → Type 0
AreSitesOfFile b sites = (zones : List ZoneData) × IsZonesOf b zones × AreAllSites (groups_of zones) sites

-- and that where one of these rules is one of records
abbrev pub HasSitesFor : List ℕ → List BrokenRule → List RecordSite → Type 0
HasSitesFor b broken sites = All (λ it. 200 ≤ it.rule → AreSitesOfFile b sites) broken
