use Rattle.std.proofs.Common.{◌∙◌, ◌<◌, List, ap, get_or, length, subst}
use Rattle.edi_plan.specs.declared.record.PlanAttribute.{PlanAttribute}
use Rattle.edi_objects.proofs.AttributeLists.{one_of_few}
use Rattle.edi_objects.proofs.names.Namer.push_object.Goals as goal

pub push_naming-requires : goal.push_naming-requires
push_naming-requires c =
    let few = c.first_few-attribute-items.ensures in
    let k = c.loop-attribute.attribute-index in
    let x = c.attribute-item.result in
    one_of_few (λ (a : PlanAttribute). a.atp < length c.args.self.now.classes) c.args.attributes.now c.requires.attributes 32 k x
    (subst (λ (xs : List PlanAttribute). k < length xs) few c.loop-attribute-test.true) (c.attribute-item.is ∙ ap (λ (xs : List PlanAttribute). get_or xs k x) few)
