use Rattle.std.proofs.Common.{◌∙◌, sym}
use Rattle.edi_record.proofs.GroupCuts.{record_here}
use Rattle.edi_record.proofs.groups.group_here.Goals as goal

pub returns-in-len1-up : goal.returns-in-len1-up
returns-in-len1-up c = record_here c.args.zones.now _ c.head-item.result c.count_to_end.result c.in-len1-up.len_at_least c.head-item.is (sym c.eq.ensures ∙ c.if-eq.true) c.count_to_end.ensures.place
