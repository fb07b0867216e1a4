use Rattle.std.proofs.Common.{◌++◌, ◌∷◌, []}
use Rattle.std.proofs.lemmas.Result.{on_ok_weaker}
use Rattle.edi_report.specs.declared.site.Site.{Site}
use Rattle.edi_report.proofs.Sited.{titled_site, site_push}
use Rattle.edi_report.proofs.packed.PackedSitesGroupOut.end.Goals as goal

pub returns : goal.returns
returns c =
    let title = c.args.self.now.title in
    let site : Site = record { line = c.line.result; rid = c.identifier_of.result.now } in
    on_ok_weaker c.push.result (λ on groups group one held. record {
      sites = held.sites ++ site ∷ [];
      each = site_push groups held.sites group site held.each (titled_site group title site (held.title one) c.line.ensures c.identifier_of.ensures);
      packing = on held.sites held.packing;
      title = λ none. let e = none.joined in absurd cc;
    }) c.push.ensures
