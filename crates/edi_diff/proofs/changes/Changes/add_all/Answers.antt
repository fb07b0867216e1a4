use Rattle.edi_diff.proofs.changes.Changes.add_all.Goals as goal

pub loop-proposal-preserved : goal.loop-proposal-preserved
loop-proposal-preserved c = λ unchanged are. c.add.ensures unchanged (c.loop-proposal.invariant unchanged are)
