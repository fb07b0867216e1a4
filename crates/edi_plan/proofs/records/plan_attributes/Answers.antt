use Rattle.std.proofs.Common.{[]}
use Rattle.edi_plan.specs.inner.Resolving.{Resolves}
use Rattle.edi_plan.proofs.TargetLemmas.{zip_taken}
use Rattle.edi_plan.proofs.records.plan_attributes.Goals as goal

pub loop-attribute-preserved : goal.loop-attribute-preserved
loop-attribute-preserved c = record {
  zipped =
      zip_taken (Resolves c.args.schema.now) [] c.args.attributes.now c.loop-attribute.attribute-index c.attribute-item.result c.loop-attribute.done.items c.in_ok-plan_attribute.field-0 c.push.new.self.items
      c.loop-attribute-test.true c.attribute-item.is c.in_ok-push.ensures.items c.loop-attribute.invariant.zipped c.in_ok-plan_attribute.ensures.ok;
  finders = c.in_ok-plan_attribute.ensures.same;
}
