use Rattle.std.proofs.Common.{◌∙◌, Bool, List, ap, length, subst, sym}
use Rattle.edi_plan.specs.Plans.{PlanData}
use Rattle.edi_report.specs.Reports.{Report}
use Rattle.edi_objects.specs.Differing.{arrives, is_differing}
use Rattle.edi_objects.specs.inner.Sheets.{AreNotes, AreOutlined, AreTested}
use Rattle.edi_objects.proofs.Marked.{notes_are}
use Rattle.edi_objects.proofs.account.ObjectReporter.new.Goals as goal

pub invariant_of-result : goal.invariant_of-result
invariant_of-result c =
    let r = c.args.report.now in
    let here = c.in_ok-here.here in
    let there = c.in_ok-there.there in
    let first = c.plan.ensures.plan ∙ (c.sound.ensures ∙ ap (λ (x : Report). x.first.accepted) c.report.view_is) in
    let second = c.plan-2.ensures.plan ∙ (c.sound-2.ensures ∙ ap (λ (x : Report). x.second.accepted) c.report.view_is) in
    let differing = c.in_ok-differing.differing.items in
    let arriving = c.in_ok-arriving.arriving.items in (
      subst (λ (p : PlanData). AreNotes (is_differing r) p here) first
          (notes_are (is_differing r) c.plan.result.now differing here
          (subst (λ (p : PlanData). AreTested (is_differing r) (length p.list) differing) (sym first) c.in_ok-differing.ensures) c.in_ok-here.ensures.index c.in_ok-here.ensures.marks c.in_ok-here.ensures.outlines),
      subst (λ (p : PlanData). AreNotes (arrives r) p there) second
          (notes_are (arrives r) c.plan-2.result.now arriving there
          (subst (λ (p : PlanData). AreTested (arrives r) (length p.list) arriving) (sym second) c.in_ok-arriving.ensures) c.in_ok-there.ensures.index c.in_ok-there.ensures.marks c.in_ok-there.ensures.outlines),
      c.requires.first,
      c.requires.second,
      c.in_ok-further.ensures,
      c.in_ok-bounds.ensures,
    )

pub further_outlines-requires-clause-here : goal.further_outlines-requires-clause-here
further_outlines-requires-clause-here c =
    let r = c.args.report.now in
    let here = c.in_ok-here.here in
    let first = c.plan.ensures.plan ∙ (c.sound.ensures ∙ ap (λ (x : Report). x.first.accepted) c.report.view_is) in
    let differing = c.in_ok-differing.differing.items in
    let notes = notes_are (is_differing r) c.plan.result.now differing here
    (subst (λ (p : PlanData). AreTested (is_differing r) (length p.list) differing) (sym first) c.in_ok-differing.ensures) c.in_ok-here.ensures.index c.in_ok-here.ensures.marks c.in_ok-here.ensures.outlines in
    subst (λ (p : PlanData). AreOutlined (is_differing r) p c.deref.result.now) first
    (subst (λ (marks : List Bool). AreOutlined (is_differing r) c.plan.result.now marks) (sym c.deref.ensures.value) notes.outlined)

pub further_outlines-requires-clause-there : goal.further_outlines-requires-clause-there
further_outlines-requires-clause-there c =
    let r = c.args.report.now in
    let there = c.in_ok-there.there in
    let second = c.plan-2.ensures.plan ∙ (c.sound-2.ensures ∙ ap (λ (x : Report). x.second.accepted) c.report.view_is) in
    let arriving = c.in_ok-arriving.arriving.items in
    let notes = notes_are (arrives r) c.plan-2.result.now arriving there
    (subst (λ (p : PlanData). AreTested (arrives r) (length p.list) arriving) (sym second) c.in_ok-arriving.ensures) c.in_ok-there.ensures.index c.in_ok-there.ensures.marks c.in_ok-there.ensures.outlines in
    subst (λ (p : PlanData). AreOutlined (arrives r) p c.deref-2.result.now) second
    (subst (λ (marks : List Bool). AreOutlined (arrives r) c.plan-2.result.now marks) (sym c.deref-2.ensures.value) notes.outlined)

pub of-requires-3-clause-here : goal.of-requires-3-clause-here
of-requires-3-clause-here c =
    let r = c.args.report.now in
    let here = c.in_ok-here.here in
    let first = c.plan.ensures.plan ∙ (c.sound.ensures ∙ ap (λ (x : Report). x.first.accepted) c.report.view_is) in
    let differing = c.in_ok-differing.differing.items in
    subst (λ (p : PlanData). AreNotes (is_differing r) p here) first
    (notes_are (is_differing r) c.plan.result.now differing here
    (subst (λ (p : PlanData). AreTested (is_differing r) (length p.list) differing) (sym first) c.in_ok-differing.ensures) c.in_ok-here.ensures.index c.in_ok-here.ensures.marks c.in_ok-here.ensures.outlines)

pub of-requires-3-clause-there : goal.of-requires-3-clause-there
of-requires-3-clause-there c =
    let r = c.args.report.now in
    let there = c.in_ok-there.there in
    let second = c.plan-2.ensures.plan ∙ (c.sound-2.ensures ∙ ap (λ (x : Report). x.second.accepted) c.report.view_is) in
    let arriving = c.in_ok-arriving.arriving.items in
    subst (λ (p : PlanData). AreNotes (arrives r) p there) second
    (notes_are (arrives r) c.plan-2.result.now arriving there
    (subst (λ (p : PlanData). AreTested (arrives r) (length p.list) arriving) (sym second) c.in_ok-arriving.ensures) c.in_ok-there.ensures.index c.in_ok-there.ensures.marks c.in_ok-there.ensures.outlines)
