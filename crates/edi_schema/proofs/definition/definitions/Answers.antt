use Rattle.edi_schema.proofs.Defined.{no_more, all_read}
use Rattle.edi_schema.proofs.definition.definitions.Goals as goal

pub loop-rest-preserved : goal.loop-rest-preserved
loop-rest-preserved c = no_more _ c.loop-rest.done.items c.loop-rest.rest.now c.in-len1-up.len_at_least c.loop-rest.invariant c.in_default-group_here.ensures

pub returns : goal.returns
returns c = all_read _ c.loop-rest.done.items c.loop-rest.rest.now c.in_default.len_below c.loop-rest.invariant
