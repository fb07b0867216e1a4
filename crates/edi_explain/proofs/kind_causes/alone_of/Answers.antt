use Rattle.std.proofs.Common.{sym, refl}
use Rattle.edi_line.specs.ZoneData.{entries}
use Rattle.edi_line.specs.Zones.{groups_of}
use Rattle.edi_explain.specs.KindClasses.{codes_of}
use Rattle.edi_explain.proofs.KindRows.{behind_all, of_role}
use Rattle.edi_explain.proofs.kind_causes.alone_of.Goals as goal

pub returns-in_err-number : goal.returns-in_err-number
returns-in_err-number c = rw c.from_residual.ensures (λ h.
    c.in_err-number.ensures h.0 (behind_all (groups_of (entries c.args.zones.now)) (codes_of c.args.codes.now) c.args.role h.0 h.1))

pub returns-in-Some : goal.returns-in-Some
returns-in-Some c = λ h.
    h.2 c.in-Some.field-0 (of_role (groups_of (entries c.args.zones.now)) (codes_of c.args.codes.now) _ _ c.in-Some.field-0 c.opposite.ensures c.in-Some.ensures.is.1)

pub returns-in-None : goal.returns-in-None
returns-in-None c =
    let groups = groups_of (entries c.args.zones.now) in
    let kinds = codes_of c.args.codes.now in
    record {
      case_is = refl;
      role_is = refl;
      wrong = (
        c.in_ok-number.number,
        c.in_ok-number.ensures.is.1,
        λ m h. c.in-None.ensures m (behind_all groups kinds c.opposite.result m (of_role groups kinds _ _ m (sym c.opposite.ensures) h)),
      );
      classes = (c.in_ok-number.ensures, refl);
    }
