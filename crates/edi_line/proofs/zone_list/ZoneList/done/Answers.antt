use Rattle.std.proofs.Common.{ap, ◌∙◌}
use Rattle.edi_line.specs.inner.ZoneLists.{done_of}
use Rattle.edi_line.proofs.ZoneLists.{done_taken}
use Rattle.edi_line.proofs.zone_list.ZoneList.done.Goals as goal

pub returns-in-len1-up : goal.returns-in-len1-up
returns-in-len1-up c = done_taken c.args.self.now.is_open c.as_slice.result.now c.if-self.true c.in-len1-up.len_at_least ∙ ap (done_of c.args.self.now.is_open) c.as_slice.ensures.value
