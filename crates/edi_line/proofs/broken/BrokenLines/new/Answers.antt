use Rattle.std.proofs.Common.{refl}
use Rattle.edi_line.proofs.LinesBroken.{none_held}
use Rattle.edi_line.proofs.broken.BrokenLines.new.Goals as goal

pub returns : goal.returns
returns c = none_held (record { line = 0; order = c.new.result; list = c.new-2.result }) refl c.new.ensures c.new-2.ensures.items
