use Rattle.std.proofs.Common.{true≢false, sym, ◌∙◌}
use Rattle.edi_matching.proofs.Checked.{holds_known}
use Rattle.edi_matching.proofs.record.Proposed.holds_there.Goals as goal
use Rattle.edi_matching.proofs.record.Proposed.holds_there.Goals.{then-not-may_turn-via-then-not-may_turn, then-not-may_turn-via-else-not-may_turn+then-not-has_matched_ends}

pub returns-then-not-may_turn : goal.returns-then-not-may_turn
returns-then-not-may_turn c = (
  λ t. absurd (true≢false (sym t)),
  λ holds. elim c.then-not-may_turn.branch [
    | then-not-may_turn-via-then-not-may_turn w ↦ absurd (true≢false (sym (c.may_turn.ensures.1 (λ e. (holds.arc e).1)) ∙ w.if-not-may_turn.true))
    | then-not-may_turn-via-else-not-may_turn+then-not-has_matched_ends w ↦ absurd (true≢false (sym (w.has_matched_ends.ensures.1 (holds.ends c.args.target c.requires.goes)) ∙ w.if-not-has_matched_ends.true))
  ],
)

pub returns : goal.returns
returns c = holds_known c.args.self.now c.args.place c.args.target c.requires.goes (c.may_turn.ensures.0 c.if-not-may_turn.false) (c.has_matched_ends.ensures.0 c.if-not-has_matched_ends.false) c.is_carried.result c.is_carried.ensures
