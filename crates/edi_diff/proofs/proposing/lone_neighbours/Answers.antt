use Rattle.std.proofs.Common.{◌+◌, Global, List, Vec, subst, sym}
use Rattle.edi_diff.specs.declared.changes.Proposal.{Proposal}
use Rattle.edi_diff.proofs.Alone.{AreLoneBefore, lone_all, lone_more, lone_same}
use Rattle.edi_diff.proofs.proposing.lone_neighbours.Goals.{in-Some+in_ok-push, in_default}
use Rattle.edi_diff.proofs.proposing.lone_neighbours.Goals as goal

pub loop-at-preserved : goal.loop-at-preserved
loop-at-preserved g c =
    let cmp = g.K.Ord.cmp in
    let pairs = c.args.pairs.now in
    let n = c.loop-at.at in
    elim c.match-lone_pair.branch [
      | in-Some+in_ok-push w ↦
          subst (λ (v : Vec Proposal Global). AreLoneBefore cmp pairs (n + 1) v.items) (sym w.found-is)
          (subst (λ (found : List Proposal). AreLoneBefore cmp pairs (n + 1) found) (sym w.in_ok-push.ensures.items)
          (lone_more cmp pairs n c.loop-at.found.items w.in-Some.proposal c.loop-at.invariant w.in-Some.ensures))
      | in_default w ↦
          subst (λ (v : Vec Proposal Global). AreLoneBefore cmp pairs (n + 1) v.items) (sym w.found-is)
          (lone_same cmp pairs n c.loop-at.found.items c.loop-at.invariant w.in_default.ensures)
    ]

pub returns : goal.returns
returns g c = lone_all g.K.Ord.cmp c.args.pairs.now c.loop-at.at c.loop-at.found.items c.loop-at.invariant c.loop-at-test.false
