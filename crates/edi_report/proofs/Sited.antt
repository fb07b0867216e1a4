-- The sites of the records of a file.
use Rattle.std.proofs.Common.{◌≡◌, ℕ, List, [], ◌∷◌, ◌++◌, length, sym, ap, ◌∙◌, subst, unwrap_or}
use Rattle.std.specs.List.{AllZip}
use Rattle.edi_line.specs.ZoneData.{ZoneData}
use Rattle.edi_line.specs.Zones.{groups_of}
use Rattle.edi_line.proofs.ZonesSaid.{zones_of_one}
use Rattle.edi_record.specs.Records.{States}
use Rattle.edi_record.specs.Titles.{IsTitleOf, TitleData}
use Rattle.edi_schema.specs.Classes.{Classes}
use Rattle.edi_plan.specs.Plans.{PlanData}
use Rattle.edi_plan.specs.PlanOf.{StatesPlanRecord}
use Rattle.edi_plan.proofs.Built.{zip_length}
use Rattle.edi_compare.specs.PlanOfFile.{IsPlanOfFile}
use Rattle.edi_report.specs.Located.{IsLocated}
use Rattle.edi_report.specs.Reports.{HasSites}
use Rattle.edi_report.specs.Sites.{AreSitesOf, IsSite}
use Rattle.edi_report.specs.declared.sheet.LocatedSheet.{LocatedSheet}
use Rattle.edi_report.specs.declared.site.Site.{Site}

pub site_push : (groups : List (List ZoneData)) (sites : List Site) (group : List ZoneData) (site : Site) → AllZip IsSite groups sites → IsSite group site → AllZip IsSite (groups ++ group ∷ []) (sites ++ site ∷ [])
site_push [] [] g s h k = (k, tt)
site_push [] (y ∷ sites) g s h k = absurd h
site_push (x ∷ groups) [] g s h k = absurd h
site_push (x ∷ groups) (y ∷ sites) g s h k = (h.0, site_push groups sites g s h.1 k)

-- the site of a record that says this of itself
pub titled_site : (group : List ZoneData) (title : TitleData) (site : Site) → IsTitleOf group title → site.line ≡ title.line → site.rid ≡ unwrap_or title.rid [] → IsSite group site
titled_site group title site is line rid = record {
  head = is.head;
  rest = is.rest;
  is = is.is;
  line = line ∙ is.line;
  rid = rid ∙ ap (λ r. unwrap_or r []) is.rid;
}

pub sites_long : (s : Classes) (b : List ℕ) (p : PlanData) (sites : List Site) → IsPlanOfFile s b p → AreSitesOf b sites → length sites ≡ length p.list
sites_long s b p sites plan are =
    let sheet = plan.0 in
    let zones = plan.1.0 in
    let same = ap groups_of (zones_of_one b are.0 zones are.1 plan.1.1) in
    sym (zip_length IsSite (groups_of are.0) sites are.2) ∙ (ap length same ∙ (zip_length States (groups_of zones) sheet.list plan.1.2.records ∙ zip_length (StatesPlanRecord s sheet.list) sheet.list p.list plan.2.each))

-- a sheet of this plan is located by the sites of its file, one for each record
pub located : (s : Classes) (b : List ℕ) (p : PlanData) (sheet : LocatedSheet) → sheet.accepted ≡ p → IsPlanOfFile s b p → AreSitesOf b sheet.sites → IsLocated s b sheet × HasSites sheet
located s b p sheet same plan sites =
    let here = subst (IsPlanOfFile s b) (sym same) plan in
    (record { plan = here; sites = sites }, sites_long s b sheet.accepted sheet.sites here sites)
