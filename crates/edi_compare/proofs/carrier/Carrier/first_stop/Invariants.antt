use Rattle.std.proofs.Common.{ℕ, ◌<◌, length, slice_index}
use Rattle.edi_compare.specs.inner.Checking.{AreMarked, IsCarriedAt}
use Rattle.edi_compare.proofs.carrier.Carrier.first_stop.Given as goal

-- the records so far are carried, and the places to which they go are marked
abbrev pub invariant-loop-place : goal.invariant-loop-place
invariant-loop-place l = ((k : ℕ) → k < l.place → IsCarriedAt l.self k) × AreMarked (slice_index l.self.to) l.marks.items (length l.self.other.list) l.place
