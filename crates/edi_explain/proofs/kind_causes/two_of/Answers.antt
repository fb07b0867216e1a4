use Rattle.std.proofs.Common.{arith}
use Rattle.edi_line.specs.ZoneData.{entries}
use Rattle.edi_line.specs.Zones.{groups_of}
use Rattle.edi_explain.specs.KindClasses.{codes_of}
use Rattle.edi_explain.proofs.KindRows.{behind_all}
use Rattle.edi_explain.proofs.kind_causes.two_of.Goals as goal

pub returns-in_err-first : goal.returns-in_err-first
returns-in_err-first c = rw c.from_residual.ensures (λ h.
    c.in_err-first.ensures h.0 (behind_all (groups_of (entries c.args.zones.now)) (codes_of c.args.codes.now) c.args.role h.0 h.3))

pub returns-in_err-number : goal.returns-in_err-number
returns-in_err-number c = rw c.from_residual-in_err-number.ensures (λ h.
    let least = c.in_ok-first.ensures.least h.0 (behind_all (groups_of (entries c.args.zones.now)) (codes_of c.args.codes.now) c.args.role h.0 h.3) in
    c.in_err-number.ensures h.1 (omega (arith, least, h.2), h.4))
