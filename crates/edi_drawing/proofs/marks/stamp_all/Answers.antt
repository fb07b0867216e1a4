use Rattle.std.proofs.Common.{◌∙◌, refl}
use Rattle.edi_drawing.proofs.Marking.{stamped_more}
use Rattle.edi_drawing.proofs.marks.stamp_all.Goals as goal

pub loop-went-preserved : goal.loop-went-preserved
loop-went-preserved c = record {
  long = c.stamp.ensures.length ∙ c.loop-went.invariant.long;
  each = stamped_more c.args.to.now c.loop-went.went-index c.args.marks.now.items c.loop-went.marks.items c.stamp.new.marks.items _ c.args.mark c.loop-went-test.true refl
      c.loop-went.invariant.long c.loop-went.invariant.each c.stamp.ensures.each;
}
