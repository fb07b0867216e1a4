use Rattle.std.proofs.Common.{◌∙◌, is_none, ap}
use Rattle.edi_record.specs.declared.name.Name.{Name}
use Rattle.edi_schema.specs.Classes.{place_of}
use Rattle.edi_plan.specs.ReferenceRules.{HasUnknownClass}
use Rattle.edi_plan.proofs.FindingLemmas.{at_place, none_not_some, tested}
use Rattle.edi_plan.proofs.OwnRules.{to_302, from_302}
use Rattle.edi_plan.proofs.reference_findings.ReferenceFindings.has_unknown_class.Goals as goal

pub returns : goal.returns
returns c =
    let s = c.self.inside.schema.now in
    let list = c.self.inside.records.now in
    let place = c.args.place in
    let r = c.record.result in
    at_place HasUnknownClass s list c.args.self.now place _ c.self.view_is
    (tested _ _ (none_not_some c.class.result c.is_none.result c.is_none.ensures ∙ (ap is_none c.class.ensures.class ∙ ap (λ (name : Name). is_none (place_of s name)) c.scp.ensures)) (to_302 s list place r c.record.ensures) (from_302 s list place r c.record.ensures))
