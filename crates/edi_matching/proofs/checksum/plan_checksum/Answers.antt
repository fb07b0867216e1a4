use Rattle.std.proofs.Common.{arith}
use Rattle.edi_matching.specs.inner.Checksums.{record_checksum}
use Rattle.edi_matching.proofs.Checksums.{all_summed}
use Rattle.edi_matching.proofs.checksum.plan_checksum.Goals as goal

pub returns : goal.returns
returns c = all_summed record_checksum c.args.plan.now c.loop-place.place c.loop-place.sum (omega arith) c.loop-place.invariant
