use Rattle.std.proofs.Common.{◌∙◌, refl, subst, sym}
use Rattle.std.specs.List.{AllZip}
use Rattle.edi_line.specs.Zones.{groups_of}
use Rattle.edi_report.specs.Sites.{AreSitesOf, IsSite}
use Rattle.edi_report.proofs.Sited.{located}
use Rattle.edi_report.proofs.sheet.PackedSheet.unpack.Goals as goal

pub returns : goal.returns
returns c = λ s b is.
    let taken = is.sites in
    let packed = taken.2 in
    let sites : AreSitesOf b c.from_vec.result = (taken.0, taken.1, subst (AllZip IsSite (groups_of taken.0)) (sym (c.from_vec.ensures ∙ c.in_ok-sites.ensures packed.sites packed.packing)) packed.each) in
    let here = located s b c.args.self.accepted _ refl is.plan sites in
    record { accepted = is.accepted; located = here.0; classes = is.classes; all = here.1 }
