use Rattle.std.proofs.Common.{None}
use Rattle.edi_plan.proofs.FindingLemmas.{entry_at}
use Rattle.edi_plan.proofs.link_findings.repeats_side.Goals as goal

pub has_side-requires : goal.has_side-requires
has_side-requires c = entry_at c.args.sides.now c.args.targets.now c.loop-target.target-index None c.requires c.loop-target-test.true
