use Rattle.std.proofs.Common.{take}
use Rattle.edi_drawing.specs.inner.Tints.{HaveTouched}
use Rattle.edi_drawing.proofs.tints.touched_records.Given as goal

abbrev pub invariant-loop-link : goal.invariant-loop-link
invariant-loop-link l = HaveTouched l.marks l.plan (take l.link-index l.link-items) l.touched.items
