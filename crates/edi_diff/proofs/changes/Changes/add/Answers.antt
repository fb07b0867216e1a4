use Rattle.std.proofs.Common.{ℕ, ◌<◌, subst, sym}
use Rattle.edi_diff.proofs.Steps.{free_there, one_step, unmet_there}
use Rattle.edi_diff.proofs.changes.Changes.add.Goals as goal

pub returns : goal.returns
returns c = λ unchanged are.
    let to = c.args.self.now.to.items in
    let reached = c.args.self.now.reached.items in
    let i = c.args.proposal.place in
    let j = c.args.proposal.target in
    let may = c.may_go.ensures c.if-not-may_go.false in
    one_step c.args.plan.now c.args.other.now unchanged to c.args.self.now.turned.items reached are i j c.is_turned.result may c.is_turned.ensures.arc c.is_turned.ensures.turn
    (free_there to i c.index.result.now (subst (λ (n : ℕ). i < n) (sym are.changes.all_entered) may.here) c.index.ensures c.if-is_some.ensures)
    (unmet_there reached j c.index-else-is_some.result.now (subst (λ (n : ℕ). j < n) (sym are.marks.long) may.there) c.index-else-is_some.ensures c.if-index.false)
