use Rattle.std.proofs.Common.{ℕ, ◌<◌, take}
use Rattle.edi_line.specs.ZoneData.{entries}
use Rattle.edi_explain.specs.BreakingZones.{PassesAt}
use Rattle.edi_explain.specs.inner.OpenAttributes.{LeaveOpen}
use Rattle.edi_explain.proofs.breaking.first_passing.Given as goal

abbrev pub invariant-loop-place : goal.invariant-loop-place
invariant-loop-place l =
    LeaveOpen l.is_open (entries (take l.place l.fn.group)) × ((k : ℕ) → k < l.place → ¬ (PassesAt l.fn.test (entries l.fn.group) k))
