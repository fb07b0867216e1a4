use Rattle.edi_record.specs.Texts.{shown}
use Rattle.edi_explain.proofs.LinkEnds.{not_together, together_by_subset}
use Rattle.edi_explain.proofs.elsewhere.are_together.Goals as goal

pub returns-then-is_same : goal.returns-then-is_same
returns-then-is_same c =
    together_by_subset (shown c.args.pointer) c.args.text.now (shown c.in-Some.other) c.in-Some.ensures (c.is_same.ensures.0 c.if-is_same.true)
    c.is_same-then-is_same.result c.is_same-then-is_same.ensures

pub returns-else-is_same : goal.returns-else-is_same
returns-else-is_same c = not_together (shown c.args.pointer) c.args.text.now (shown c.in-Some.other) c.in-Some.ensures c.is_same.result c.if-is_same.false c.is_same.ensures
