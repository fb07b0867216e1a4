use Rattle.std.proofs.Common.{Some, subst}
use Rattle.std.proofs.lemmas.Result.{IfOk-weaker}
use Rattle.edi_line.specs.ZoneData.{entries}
use Rattle.edi_line.specs.Zones.{groups_of}
use Rattle.edi_explain.specs.KindClasses.{IsClassBehind, codes_of}
use Rattle.edi_plan.specs.EarlierLinks.{IsLeastIfAny}
use Rattle.edi_explain.specs.Sites.{IsSiteIfAny}
use Rattle.edi_explain.proofs.Numbered.{numbered_back}
use Rattle.edi_explain.proofs.kind_lines.class_site.Goals as goal

pub returns-in-Some : goal.returns-in-Some
returns-in-Some c =
    let zones = entries c.args.zones.now in
    let number = c.in-Some.number in
    IfOk-weaker c.site_at.result _ _ (λ site h. (
      Some number,
      subst (IsLeastIfAny (IsClassBehind (groups_of zones) (codes_of c.args.codes.now) c.args.role 0)) c.in-Some.is c.class_behind.ensures,
      subst (λ n. IsSiteIfAny zones n site) (numbered_back number c.checked_sub.result c.checked_sub.ensures) h,
    )) c.site_at.ensures
