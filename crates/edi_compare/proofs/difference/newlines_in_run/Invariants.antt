use Rattle.std.proofs.Common.{◌≡◌, eqb, count_by, take}
use Rattle.edi_line.specs.Bytes.{line_feed}
use Rattle.edi_compare.proofs.difference.newlines_in_run.Given as goal

abbrev pub invariant-loop-byte : goal.invariant-loop-byte
invariant-loop-byte l = l.count ≡ count_by (λ c. eqb c line_feed) (take l.byte-index l.run)
