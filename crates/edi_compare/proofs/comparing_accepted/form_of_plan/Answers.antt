use Rattle.std.proofs.Common.{◌∙◌, ap, subst, sym}
use Rattle.edi_line.specs.Bytes.{IsBytes}
use Rattle.edi_plan.proofs.Built.{plans_agreeing}
use Rattle.edi_plan.specs.Agreeing.{Agrees}
use Rattle.edi_plan.specs.Plans.{PlanData}
use Rattle.edi_rank.specs.Arranged.{arranged}
use Rattle.edi_rank.specs.Labelling.{AreLabels}
use Rattle.edi_write.specs.Layout.{layout}
use Rattle.edi_compare.specs.Laws.{IsAcceptedPlan}
use Rattle.edi_compare.proofs.Forms.{plan_form}
use Rattle.edi_compare.proofs.comparing_accepted.form_of_plan.Goals as goal

pub labels_of-requires : goal.labels_of-requires
labels_of-requires c = subst (IsAcceptedPlan c.args.schema.now) (sym c.sound-sound.ensures) (c.requires.0, c.requires.2, c.requires.3)

pub write_canon-requires : goal.write_canon-requires
write_canon-requires c =
    let states = c.requires.3 in record {
      agrees = subst (λ (p : PlanData). Agrees c.args.schema.now p) (sym c.sound-sound.ensures) (plans_agreeing c.args.schema.now states.0 c.args.sheet.now states.2);
      labels = c.in_ok-labels.ensures;
    }

pub returns : goal.returns
returns c =
    let s = c.args.schema.now in
    plan_form s c.args.sheet.now c.in_ok-labels.labels c.in_ok-file.file.items c.keeps.ensures (subst IsBytes c.deref.ensures.value c.hold_bytes.ensures.bytes) c.requires
    (subst (λ (p : PlanData). AreLabels s p c.in_ok-labels.labels) c.sound-sound.ensures c.in_ok-labels.ensures)
    (c.in_ok-file.ensures ∙ ap (λ (p : PlanData). layout s (arranged s c.in_ok-labels.labels p)) c.sound-sound.ensures)
