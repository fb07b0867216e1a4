use Rattle.std.proofs.Common.{◌≡◌, ◌+◌, eqb, count_by, length}
use Rattle.edi_line.specs.Bytes.{line_feed}
use Rattle.edi_compare.proofs.difference.newlines_in.Given as goal

abbrev pub invariant-loop-rest : goal.invariant-loop-rest
invariant-loop-rest l = l.count + count_by (λ c. eqb c line_feed) l.rest ≡ count_by (λ c. eqb c line_feed) l.fn.bytes

abbrev pub decreases-loop-rest : goal.decreases-loop-rest
decreases-loop-rest l = length l.rest
