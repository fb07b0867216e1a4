use Rattle.std.proofs.Common.{◌↔◌, suc, false, IsTrue, List, get_or, subst, sym}
use Rattle.edi_plan.specs.ReferenceRules.{NamesNothing}
use Rattle.edi_plan.specs.declared.link_findings.LinkFindings.{LinkFindings}
use Rattle.edi_plan.proofs.FindingLemmas.{at_place, link_found, place_inside}
use Rattle.edi_plan.proofs.reference_findings.ReferenceFindings.names_nothing.Goals as goal

pub returns : goal.returns
returns c =
    let s = c.self.inside.schema.now in
    let list = c.self.inside.records.now in
    let place = c.args.place in
    let none : LinkFindings = record { names_nothing = false; joins_wrong = false; repeats_side = false } in
    let found = link_found s list c.self.inside.links place none c.self.invariant.2 (place_inside s list c.args.self.now place c.self.view_is c.requires) in
    at_place NamesNothing s list c.args.self.now place _ c.self.view_is
    (subst (λ (links : List LinkFindings). IsTrue (get_or links place none).names_nothing ↔ NamesNothing s list (suc place)) (sym c.as_slice.ensures) found.nothing)
