use Rattle.std.proofs.Common.{◌≡◌, ◌++◌, drop, map, slice_index}
use Rattle.edi_rank.specs.Same.{moved}
use Rattle.edi_compare.specs.inner.Checking.{placed_end}
use Rattle.edi_compare.proofs.moved_ends.moved_ends.Given as goal

abbrev pub invariant-loop-end : goal.invariant-loop-end
invariant-loop-end l = l.moves.items ++ map (λ e. placed_end (moved (slice_index l.to) e)) (drop l.end-index l.ends) ≡ map (λ e. placed_end (moved (slice_index l.to) e)) l.ends
