use Rattle.std.proofs.Common.{◌∙◌, ◌<◌, subst, sym}
use Rattle.edi_objects.proofs.Marked.{onto_more}
use Rattle.edi_objects.proofs.marks.mark_moved.Goals as goal

pub loop-place-preserved : goal.loop-place-preserved
loop-place-preserved c = (
  c.mark.ensures.length ∙ c.loop-place.invariant.0,
  λ j h. onto_more c.args.report.now c.loop-place.place j c.args.marks.now c.loop-place.marks c.mark.new.marks c.moved_to.result (c.loop-place.invariant.1 j h) c.moved_to.ensures
      (c.mark.ensures.each j (subst (λ n. j < n) (sym c.loop-place.invariant.0) h)),
)
