use Rattle.std.proofs.Common.{◌∙◌, sym}
use Rattle.edi_plan.specs.inner.Resolving.{is_elsewhere}
use Rattle.edi_plan.proofs.StepLemmas.{any_first, any_next, any_end}
use Rattle.edi_plan.proofs.records.has_other.Goals as goal

pub loop-end-preserved : goal.loop-end-preserved
loop-end-preserved c = any_next (is_elsewhere c.args.subset.now) c.args.ends.now c.loop-end.end-index c.end-item.result c.loop-end-test.true c.end-item.is (sym c.is_other.ensures ∙ c.if-is_other.false) ∙ c.loop-end.invariant

pub returns-then-is_other : goal.returns-then-is_other
returns-then-is_other c = sym (any_first (is_elsewhere c.args.subset.now) c.args.ends.now c.loop-end.end-index c.end-item.result c.loop-end-test.true c.end-item.is (sym c.is_other.ensures ∙ c.if-is_other.true)) ∙ c.loop-end.invariant

pub returns : goal.returns
returns c = sym (any_end (is_elsewhere c.args.subset.now) c.args.ends.now c.loop-end.end-index c.loop-end-test.false) ∙ c.loop-end.invariant
