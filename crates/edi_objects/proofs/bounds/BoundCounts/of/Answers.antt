use Rattle.std.proofs.Common.{◌∙◌, Bool, List, ap, length, subst, sym}
use Rattle.edi_report.specs.Reports.{Report}
use Rattle.edi_objects.specs.Bounds.{is_bent, is_lost}
use Rattle.edi_objects.specs.Differing.{arrives}
use Rattle.edi_objects.specs.inner.Sheets.{AreTested}
use Rattle.edi_objects.proofs.Bounded.{counted_known}
use Rattle.edi_objects.proofs.bounds.BoundCounts.of.Goals as goal

pub returns : goal.returns
returns c =
    let r = c.args.report.now in
    let n = length r.first.accepted.list in
    let m = length r.second.accepted.list in
    let first = c.plan-plan.ensures.plan ∙ (c.sound.ensures ∙ ap (λ (x : Report). x.first.accepted) c.report.view_is) in
    let second = c.plan-other.ensures.plan ∙ (c.sound-2.ensures ∙ ap (λ (x : Report). x.second.accepted) c.report.view_is) in
    let lost = subst (λ (marks : List Bool). AreTested (is_lost r) n marks) (sym c.deref-5.ensures.value) c.in_ok-lost.ensures in
    let new = subst (λ (marks : List Bool). AreTested (arrives r) m marks) (sym c.deref-7.ensures.value) c.requires.there.marked in
    let bent = subst (λ (marks : List Bool). AreTested (is_bent r) n marks) (sym c.deref-9.ensures.value) c.in_ok-bent.ensures in
    record {
      all_gone = counted_known (is_lost r) r.first.accepted c.plan-plan.result.now n c.deref-5.result.now c.in_ok-bounds_counts.field-0.items first lost c.in_ok-bounds_counts.ensures;
      all_new = counted_known (arrives r) r.second.accepted c.plan-other.result.now m c.deref-7.result.now c.in_ok-bounds_counts-2.field-0.items second new c.in_ok-bounds_counts-2.ensures;
      all_changed = counted_known (is_bent r) r.first.accepted c.plan-plan.result.now n c.deref-9.result.now c.in_ok-bounds_counts-3.field-0.items first bent c.in_ok-bounds_counts-3.ensures;
    }
