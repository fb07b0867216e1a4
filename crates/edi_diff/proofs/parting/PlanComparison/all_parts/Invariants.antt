use Rattle.std.proofs.Common.{◌≡◌, length}
use Rattle.edi_diff.proofs.PartsReported.{ArePartsUpTo}
use Rattle.edi_diff.proofs.parting.PlanComparison.all_parts.Given as goal

-- the parts of the records so far
abbrev pub invariant-loop-place : goal.invariant-loop-place
invariant-loop-place l = (length l.parts.items ≡ l.place) × ArePartsUpTo l.self l.parts.items l.place
