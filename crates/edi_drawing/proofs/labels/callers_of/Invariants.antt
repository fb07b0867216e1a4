use Rattle.std.proofs.Common.{take}
use Rattle.edi_drawing.specs.inner.Labels.{HaveCallers}
use Rattle.edi_drawing.proofs.labels.callers_of.Given as goal

abbrev pub invariant-loop-link : goal.invariant-loop-link
invariant-loop-link l = HaveCallers l.schema l.plan (take l.link-index l.link-items) l.callers.items
