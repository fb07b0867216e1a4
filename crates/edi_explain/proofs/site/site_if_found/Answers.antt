use Rattle.std.proofs.Common.{◌≡◌, Bor, List, Option, option_map, subst}
use Rattle.std.proofs.lemmas.Result.{IfOk-weaker}
use Rattle.edi_line.specs.ZoneData.{entries}
use Rattle.edi_line.specs.Zones.{groups_of}
use Rattle.edi_line.specs.declared.zone.Zone.{Zone}
use Rattle.edi_explain.specs.inner.Found.{group_numbered}
use Rattle.edi_explain.proofs.Numbered.{its_site, no_site}
use Rattle.edi_explain.proofs.site.site_if_found.Goals as goal

pub returns-in-Some : goal.returns-in-Some
returns-in-Some c = IfOk-weaker c.site_of.result _ _ (λ site h zones number e.
    its_site zones number (entries c.in-Some.group.now) site
    (subst (λ (r : Option (Bor (List Zone))). option_map (λ g. entries g.now) r ≡ group_numbered (groups_of zones) number) c.in-Some.is e) h) c.site_of.ensures

pub returns-in-None : goal.returns-in-None
returns-in-None c = λ zones number e.
    no_site zones number (subst (λ (r : Option (Bor (List Zone))). option_map (λ g. entries g.now) r ≡ group_numbered (groups_of zones) number) c.in-None.is e)
