use Rattle.std.proofs.Common.{◌∙◌, sym}
use Rattle.edi_plan.specs.inner.Resolving.{lacks_class}
use Rattle.edi_plan.proofs.StepLemmas.{any_first, any_next, any_end}
use Rattle.edi_plan.proofs.reference_findings.any_lacks_class.Goals as goal

pub loop-attribute-preserved : goal.loop-attribute-preserved
loop-attribute-preserved c =
    any_next (lacks_class c.args.schema.now) c.args.attributes.now c.loop-attribute.attribute-index c.attribute-item.result c.loop-attribute-test.true c.attribute-item.is (sym c.lacks_class.ensures ∙ c.if-lacks_class.false) ∙ c.loop-attribute.invariant

pub returns-then-lacks_class : goal.returns-then-lacks_class
returns-then-lacks_class c =
    sym (any_first (lacks_class c.args.schema.now) c.args.attributes.now c.loop-attribute.attribute-index c.attribute-item.result c.loop-attribute-test.true c.attribute-item.is (sym c.lacks_class.ensures ∙ c.if-lacks_class.true)) ∙ c.loop-attribute.invariant

pub returns : goal.returns
returns c = sym (any_end (lacks_class c.args.schema.now) c.args.attributes.now c.loop-attribute.attribute-index c.loop-attribute-test.false) ∙ c.loop-attribute.invariant
