use Rattle.std.proofs.Common.{[], ap}
use Rattle.edi_line.specs.ZoneData.{entries}
use Rattle.edi_record.proofs.RecordsBroken.{all_records}
use Rattle.edi_record.proofs.broken.broken_records_from.Goals as goal

pub returns-clause-records : goal.returns-clause-records
returns-clause-records c =
    let h = c.in_ok-read_groups_from.ensures.groups in
    (h.zones, h.of_file, all_records h.zones c.read_groups_from.new.out (h.handed [] (c.new-broken.ensures.groups, ap entries c.new-broken.ensures.zones)).0 h.few)
