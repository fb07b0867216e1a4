use Rattle.std.proofs.Common.{sym}
use Rattle.edi_line.specs.ZoneData.{entries}
use Rattle.edi_line.specs.Zones.{groups_of}
use Rattle.edi_plan.proofs.Leasts.{least_as}
use Rattle.edi_explain.proofs.RowGroups.{name_shared, share_name}
use Rattle.edi_explain.proofs.rows.row_namesake.Goals as goal

pub returns : goal.returns
returns c =
    let groups = groups_of (entries c.args.zones.now) in
    least_as _ _ (name_shared groups c.args.place _ _ (sym c.in_ok-group_of.ensures) c.in_ok-name.ensures)
    (share_name groups c.args.place _ _ (sym c.in_ok-group_of.ensures) c.in_ok-name.ensures) c.first_row.result c.first_row.ensures
