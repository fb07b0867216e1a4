use Rattle.std.proofs.Common.{◌↔◌, suc, Bool, false, IsTrue, List, get_or, subst, sym}
use Rattle.edi_plan.specs.ReferenceRules.{RepeatsRecordName}
use Rattle.edi_plan.proofs.FindingLemmas.{at_place, place_inside, repeat_found}
use Rattle.edi_plan.proofs.reference_findings.ReferenceFindings.repeats_name.Goals as goal

pub returns : goal.returns
returns c =
    let s = c.self.inside.schema.now in
    let list = c.self.inside.records.now in
    let place = c.args.place in
    let found = repeat_found s list c.self.inside.repeats place false c.self.invariant.1 (place_inside s list c.args.self.now place c.self.view_is c.requires) in
    at_place RepeatsRecordName s list c.args.self.now place _ c.self.view_is
    (subst (λ (repeats : List Bool). IsTrue (get_or repeats place false) ↔ RepeatsRecordName s list (suc place)) (sym c.as_slice.ensures) found)
