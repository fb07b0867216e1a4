use Rattle.std.proofs.Common.{sym}
use Rattle.edi_record.proofs.GroupCuts.{place_at_Some, place_at_None}
use Rattle.edi_record.proofs.groups.count_to_end.Goals as goal

pub returns-in-Some-clause-place : goal.returns-in-Some-clause-place
returns-in-Some-clause-place c = (place_at_Some _ c.args.zones.now c.in-Some.place (sym c.in-Some.ensures)).0

pub returns-in-None-clause-place : goal.returns-in-None-clause-place
returns-in-None-clause-place c = place_at_None _ c.args.zones.now (sym c.in-None.ensures)
