use Rattle.std.proofs.Common.{◌++◌, ◌∷◌, List, [], sym, subst}
use Rattle.edi_explain.specs.Sites.{AreAllSites, IsSiteOfGroup}
use Rattle.edi_explain.specs.declared.site.RecordSite.{RecordSite}
use Rattle.edi_explain.proofs.Zipped.{zip_push}
use Rattle.edi_explain.proofs.listing.SiteListGroupOut.end.Goals as goal

pub returns : goal.returns
returns c = λ groups group one held. record {
  sites = subst (λ (sites : List RecordSite). AreAllSites (groups ++ group ∷ []) sites) (sym c.in_ok-push.ensures.items)
      (zip_push IsSiteOfGroup groups c.args.self.now.sites.items group c.in_ok-titled_site.field-0 held.sites (c.in_ok-titled_site.ensures group (held.title one)));
  title = λ none. let e = none.joined in absurd cc;
}
