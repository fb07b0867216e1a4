use Rattle.std.proofs.Common.{◌∙◌, List, ap}
use Rattle.std.specs.List.{list_any}
use Rattle.edi_record.specs.declared.record.Attribute.{Attribute}
use Rattle.edi_plan.specs.inner.Resolving.{lacks_class}
use Rattle.edi_plan.specs.ReferenceRules.{LacksAttributeClass}
use Rattle.edi_plan.proofs.FindingLemmas.{at_place, tested}
use Rattle.edi_plan.proofs.OwnRules.{to_303, from_303}
use Rattle.edi_plan.proofs.reference_findings.ReferenceFindings.lacks_attribute_class.Goals as goal

pub returns : goal.returns
returns c =
    let s = c.self.inside.schema.now in
    let list = c.self.inside.records.now in
    let place = c.args.place in
    let r = c.record.result in
    at_place LacksAttributeClass s list c.args.self.now place _ c.self.view_is
    (tested _ _ (c.any_lacks_class.ensures ∙ ap (λ (xs : List Attribute). list_any (lacks_class s) xs) c.attributes.ensures) (to_303 s list place r c.record.ensures) (from_303 s list place r c.record.ensures))
