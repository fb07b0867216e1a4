use Rattle.edi_rank.specs.Same.{directed}
use Rattle.edi_diff.proofs.SharedPoints.{SharesSoFar}
use Rattle.edi_diff.proofs.directions.count_shared.Given as goal

abbrev pub invariant-loop-count : goal.invariant-loop-count
invariant-loop-count l = SharesSoFar (directed l.backwards l.points) (directed l.others_backwards l.others) l.count
