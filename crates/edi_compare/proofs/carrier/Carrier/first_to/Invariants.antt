use Rattle.std.proofs.Common.{◌≢◌, ◌<◌, ℕ, slice_index}
use Rattle.edi_compare.proofs.carrier.Carrier.first_to.Given as goal

-- none so far goes there
abbrev pub invariant-loop-earlier : goal.invariant-loop-earlier
invariant-loop-earlier l = (k : ℕ) → k < l.earlier → slice_index l.self.to k ≢ l.target
