use Rattle.edi_line.specs.ZoneData.{entries}
use Rattle.edi_explain.proofs.breaking.passes.Goals as goal

pub returns-in-BadCount : goal.returns-in-BadCount
returns-in-BadCount c = rw c.in-BadCount.is (c.miscounts.ensures (entries c.args.behind.now))
