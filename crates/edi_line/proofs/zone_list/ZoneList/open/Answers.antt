use Rattle.edi_line.proofs.ZoneLists.{done_opened, open_opened}
use Rattle.edi_line.proofs.zone_list.ZoneList.open.Goals as goal

pub returns-clause-done : goal.returns-clause-done
returns-clause-done c = done_opened c.args.self.now.is_open c.args.self.now.zones.items c.push.new.self.items c.args.zone c.requires c.in_ok-push.ensures.items

pub returns-clause-open_zone : goal.returns-clause-open_zone
returns-clause-open_zone c = open_opened c.args.self.now.zones.items c.push.new.self.items c.args.zone c.in_ok-push.ensures.items
