use Rattle.std.proofs.Common.{◌≡◌, ℕ, ◌<◌, length}
use Rattle.std.specs.List.{slice_index}
use Rattle.edi_matching.proofs.links.each_to_itself.Given as goal

abbrev pub invariant-loop-place : goal.invariant-loop-place
invariant-loop-place l = (length l.itself.items ≡ l.place) × ((k : ℕ) → k < l.place → slice_index l.itself.items k ≡ k)
