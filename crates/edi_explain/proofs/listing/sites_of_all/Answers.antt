use Rattle.std.proofs.Common.{List, [], sym, subst}
use Rattle.edi_line.specs.LineRules.{BreaksLineRule}
use Rattle.edi_line.specs.Refusal.{IsLineRefusal}
use Rattle.edi_explain.specs.Sites.{AreAllSites}
use Rattle.edi_explain.specs.declared.site.RecordSite.{RecordSite}
use Rattle.edi_explain.proofs.listing.sites_of_all.Goals as goal

pub unreachable-requires : goal.unreachable-requires
unreachable-requires c =
    let least = subst (IsLineRefusal (BreaksLineRule c.args.bytes.now)) c.in-Err-Broken.field-0-is c.in-Err-Broken.ensures.least in
    c.requires _ _ least.is

pub returns-in-Ok : goal.returns-in-Ok
returns-in-Ok c =
    let h = c.in-Ok.ensures.groups in
    (h.zones, h.of_file, (h.handed [] (record { sites = subst (λ (sites : List RecordSite). AreAllSites [] sites) (sym c.new.ensures.items) tt; title = λ none. let e = none.joined in absurd cc })).sites)
