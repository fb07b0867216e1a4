use Rattle.std.proofs.Common.{refl}
use Rattle.edi_line.proofs.ZoneLists.{all_zones}
use Rattle.edi_line.proofs.zone_list.ZoneList.close.Goals as goal

pub returns : goal.returns
returns c = (all_zones c.args.self.now.is_open c.args.self.now.zones.items, refl)
