use Rattle.std.proofs.Common.{◌∙◌, Bool, List, ap, subst, sym}
use Rattle.edi_report.specs.Reports.{Report}
use Rattle.edi_objects.specs.inner.Sheets.{AreOthers}
use Rattle.edi_objects.proofs.NamedBehind.{further_found}
use Rattle.edi_objects.proofs.further.further_outlines.Goals as goal

pub returns : goal.returns
returns c =
    let r = c.args.report.now in
    let first = c.plan-plan.ensures.plan ∙ (c.sound.ensures ∙ ap (λ (x : Report). x.first.accepted) c.report.view_is) in
    let others = subst (λ (marks : List Bool). AreOthers r marks) (sym c.deref.ensures.value) c.in_ok-others.ensures in
    further_found r c.plan-plan.result.now c.deref.result.now c.further_marks.result (λ further. further.items) first c.keeps.ensures.whole others c.further_marks.ensures
