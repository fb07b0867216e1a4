use Rattle.std.proofs.Common.{sym, ◌∙◌}
use Rattle.edi_line.proofs.Lanes.{head_by_lanes, head_has_ones, head_has_tens, head_is_no_blank}
use Rattle.edi_line.proofs.spelling.has_head.Goals as goal

pub returns-clause-value : goal.returns-clause-value
returns-clause-value c = head_by_lanes c.args.content.now c.if-content-lt-HEAD.false c.type_inv.content

pub returns-clause-no_blank : goal.returns-clause-no_blank
returns-clause-no_blank c = λ is. head_is_no_blank c.args.content.now (sym (head_by_lanes c.args.content.now c.if-content-lt-HEAD.false c.type_inv.content) ∙ is)

pub returns-clause-tens : goal.returns-clause-tens
returns-clause-tens c = λ is. head_has_tens c.args.content.now (sym (head_by_lanes c.args.content.now c.if-content-lt-HEAD.false c.type_inv.content) ∙ is)

pub returns-clause-ones : goal.returns-clause-ones
returns-clause-ones c = λ is. head_has_ones c.args.content.now (sym (head_by_lanes c.args.content.now c.if-content-lt-HEAD.false c.type_inv.content) ∙ is)
