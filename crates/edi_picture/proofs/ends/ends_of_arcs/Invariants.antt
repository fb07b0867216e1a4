use Rattle.std.proofs.Common.{◌≡◌, take}
use Rattle.edi_picture.specs.Faces.{ends_of}
use Rattle.edi_picture.proofs.ends.ends_of_arcs.Given as goal

abbrev pub invariant-loop-arc : goal.invariant-loop-arc
invariant-loop-arc l = l.ends.items ≡ ends_of l.plan (take l.arc-index l.arcs)
