use Rattle.std.proofs.Common.{take}
use Rattle.edi_picture.specs.inner.Rounds.{HaveArcs}
use Rattle.edi_picture.proofs.rounds.rounds_of.Given as goal

abbrev pub invariant-loop-arc : goal.invariant-loop-arc
invariant-loop-arc l = HaveArcs l.plan (take l.arc-index l.arc-items) l.lists.items
