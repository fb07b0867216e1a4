use Rattle.edi_line.proofs.ZoneLists.{all_zones}
use Rattle.edi_line.proofs.zone_list.ZoneList.into_zones.Goals as goal

pub returns : goal.returns
returns c = all_zones c.args.self.is_open c.args.self.zones.items
