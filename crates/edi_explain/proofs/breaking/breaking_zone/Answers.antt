use Rattle.std.proofs.Common.{sym}
use Rattle.edi_line.specs.ZoneData.{entries}
use Rattle.edi_explain.proofs.Passing.{no_zone_found}
use Rattle.edi_explain.proofs.breaking.breaking_zone.Goals as goal

pub returns-in_err-zone : goal.returns-in_err-zone
returns-in_err-zone c =
    rw c.from_residual-in_err-zone.ensures
    (no_zone_found (entries c.args.group.now) c.args.rule c.in_ok-test.test (sym c.in_ok-test.ensures) c.in_err-zone.ensures)

pub returns : goal.returns
returns c = (c.in_ok-test.test, sym c.in_ok-test.ensures, c.in_ok-zone.ensures, c.count_beside.ensures)
