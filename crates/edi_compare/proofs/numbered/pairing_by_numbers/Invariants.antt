use Rattle.std.proofs.Common.{◌≡◌, ◌<◌, ℕ, not, length, slice_index}
use mathlib.Core.Bool.{beq}
use Rattle.edi_rank.specs.Labelling.{turned_at}
use Rattle.edi_compare.specs.Counterparts.{counterpart}
use Rattle.edi_compare.proofs.numbered.pairing_by_numbers.Given as goal

-- the records so far have their counterparts
abbrev pub invariant-loop-place : goal.invariant-loop-place
invariant-loop-place l = record {
  to_long : length l.to.items ≡ l.place;
  turned_long : length l.turned.items ≡ l.place;
  to : (k : ℕ) → k < l.place → slice_index l.to.items k ≡ counterpart l.first l.others k;
  turned : (k : ℕ) → k < l.place → turned_at l.turned.items k ≡ not (beq (turned_at l.first.turned k) (turned_at l.others.turned (counterpart l.first l.others k)));
}
