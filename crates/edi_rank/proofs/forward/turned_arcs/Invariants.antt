use Rattle.std.proofs.Common.{◌≡◌, ◌<◌, ℕ, length}
use Rattle.edi_rank.specs.Labelling.{turned_at}
use Rattle.edi_rank.specs.Turned.{is_backward}
use Rattle.edi_rank.proofs.forward.turned_arcs.Given as goal

abbrev pub invariant-loop-place : goal.invariant-loop-place
invariant-loop-place l = record {
  length : length l.turned.items ≡ l.place;
  turned : (k : ℕ) → k < l.place → turned_at l.turned.items k ≡ is_backward l.plan k;
}
