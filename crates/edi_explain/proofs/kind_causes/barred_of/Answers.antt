use Rattle.std.proofs.Common.{inl, inr, sym, refl}
use Rattle.edi_line.specs.ZoneData.{entries}
use Rattle.edi_line.specs.Zones.{groups_of}
use Rattle.edi_explain.specs.KindClasses.{codes_of}
use Rattle.edi_explain.proofs.KindRows.{behind_all, of_role, barred_wrong, not_barred}
use Rattle.edi_explain.proofs.kind_causes.barred_of.Goals as goal
use Rattle.edi_explain.proofs.kind_causes.barred_of.Goals.{else-holds_semicolon-via-then-holds_semicolon+else-not-holds_semicolon, else-holds_semicolon-via-else-holds_semicolon}

pub returns-in_err-number : goal.returns-in_err-number
returns-in_err-number c = rw c.from_residual.ensures (λ h.
    c.in_err-number.ensures h.0 (behind_all (groups_of (entries c.args.zones.now)) (codes_of c.args.codes.now) c.args.role h.0 h.2))

pub returns-in_err-partner : goal.returns-in_err-partner
returns-in_err-partner c = rw c.from_residual-in_err-partner.ensures (λ h.
    let groups = groups_of (entries c.args.zones.now) in
    let kinds = codes_of c.args.codes.now in
    c.in_err-partner.ensures h.1 (behind_all groups kinds c.opposite.result h.1 (of_role groups kinds _ _ h.1 (sym c.opposite.ensures) h.3)))

pub returns-then-not-holds_semicolon : goal.returns-then-not-holds_semicolon
returns-then-not-holds_semicolon c = record {
  case_is = refl;
  role_is = refl;
  wrong = barred_wrong (groups_of (entries c.args.zones.now)) (codes_of c.args.codes.now) c.args.role c.opposite.result c.opposite.ensures
      c.in_ok-number.number c.in_ok-partner.partner c.in_ok-number.ensures c.in_ok-partner.ensures (c.holds_semicolon.ensures.0 c.if-holds_semicolon.true)
      (λ h. let t = c.holds_semicolon-then-holds_semicolon.ensures.1 h in let f = c.if-not-holds_semicolon.true in cc);
  classes = (c.in_ok-number.ensures, refl);
}

pub returns-else-holds_semicolon : goal.returns-else-holds_semicolon
returns-else-holds_semicolon c =
    not_barred (groups_of (entries c.args.zones.now)) (codes_of c.args.codes.now) c.args.role c.opposite.result c.opposite.ensures
    c.in_ok-number.number c.in_ok-partner.partner c.in_ok-number.ensures c.in_ok-partner.ensures c.requires
    (elim c.else-holds_semicolon.branch [
      | else-holds_semicolon-via-then-holds_semicolon+else-not-holds_semicolon w ↦ inr (w.holds_semicolon-then-holds_semicolon.ensures.0 w.if-not-holds_semicolon.false)
      | else-holds_semicolon-via-else-holds_semicolon w ↦ inl (λ h. let t = c.holds_semicolon.ensures.1 h in let f = w.if-holds_semicolon.false in cc)
    ])
