use Rattle.std.proofs.Common.{length}
use Rattle.edi_matching.proofs.Taken.{AreTaken}
use Rattle.edi_matching.proofs.places.mark_all.Given as goal

-- the places of the records so far are marked
abbrev pub invariant-loop-target : goal.invariant-loop-target
invariant-loop-target l = AreTaken l.to l.met (length l.fn.met) l.target-index
