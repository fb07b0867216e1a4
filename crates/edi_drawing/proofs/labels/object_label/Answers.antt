use Rattle.std.proofs.Common.{◌∙◌, ◌<◌, List, ap, get_or, length, subst}
use Rattle.edi_plan.specs.Agreeing.{AttributeAgrees}
use Rattle.edi_plan.specs.declared.record.PlanAttribute.{PlanAttribute}
use Rattle.edi_objects.proofs.AttributeLists.{one_of_few}
use Rattle.edi_drawing.proofs.labels.object_label.Goals as goal

pub attribute_label-label-requires : goal.attribute_label-label-requires
attribute_label-label-requires c =
    let few = c.first_few-attribute-items.ensures in
    let k = c.loop-attribute.attribute-index in
    let x = c.attribute-item.result in
    let one : AttributeAgrees c.args.schema.now x = one_of_few (AttributeAgrees c.args.schema.now) c.args.attributes.now c.requires 32 k x
    (subst (λ (xs : List PlanAttribute). k < length xs) few c.loop-attribute-test.true) (c.attribute-item.is ∙ ap (λ (xs : List PlanAttribute). get_or xs k x) few) in
    one.known
