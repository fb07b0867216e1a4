use Rattle.std.proofs.Common.{arith}
use Rattle.std.proofs.lemmas.Result.{IfOk-equal}
use Rattle.edi_write.specs.inner.Heads.{headed}
use Rattle.edi_line.specs.Printing.{next_zone}
use Rattle.edi_write.proofs.Breaking.{wrote_front, wrote_last}
use Rattle.edi_write.proofs.zones.write_zone.Goals as goal

pub loop-rest-preserved : goal.loop-rest-preserved
unfolding next_zone
loop-rest-preserved c =
    wrote_front _ c.loop-rest.out.items c.write_line.new.out.items (headed c.loop-rest.line_head c.loop-rest.rest.now) c.split_at.result.0.now c.split_at.result.1.now
    c.in_ok-write_line.ensures c.split_at.ensures.front c.split_at.ensures.back (omega arith) c.loop-rest.invariant

pub returns : goal.returns
returns c = IfOk-equal c.write_line-2.result _ _ _ c.write_line-2.ensures (wrote_last _ c.loop-rest.out.items (headed c.loop-rest.line_head c.loop-rest.rest.now) c.loop-rest-test.false c.loop-rest.invariant)
