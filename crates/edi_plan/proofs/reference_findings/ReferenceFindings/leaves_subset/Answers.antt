use Rattle.std.proofs.Common.{◌∙◌, List, Option, ap}
use Rattle.edi_record.specs.LinkEnds.{EndData}
use Rattle.edi_plan.specs.inner.Resolving.{leaves}
use Rattle.edi_plan.specs.declared.references.Subset.{Subset}
use Rattle.edi_plan.specs.ReferenceRules.{LeavesSubset}
use Rattle.edi_plan.proofs.FindingLemmas.{at_place, tested}
use Rattle.edi_plan.proofs.OwnRules.{to_304, from_304}
use Rattle.edi_plan.proofs.reference_findings.ReferenceFindings.leaves_subset.Goals as goal

pub returns : goal.returns
returns c =
    let s = c.self.inside.schema.now in
    let list = c.self.inside.records.now in
    let place = c.args.place in
    let r = c.record.result in
    at_place LeavesSubset s list c.args.self.now place _ c.self.view_is
    (tested _ _ (c.leaves_subset.ensures ∙ (ap (λ (es : List EndData). leaves c.self.inside.subset es) c.ends.ensures ∙ ap (λ (x : Option Subset). leaves x r.ends) c.self.invariant.0)) (to_304 s list place r c.record.ensures) (from_304 s list place r c.record.ensures))
