use Rattle.std.proofs.Common.{ℕ, List, ◌<◌}
use Rattle.edi_line.specs.ZoneData.{ZoneData, entries}
use Rattle.edi_explain.specs.AstrayZones.{IsLostEndAt}
use Rattle.edi_explain.specs.inner.LostEnds.{AreNamesOfGroups}
use Rattle.edi_explain.proofs.lost_ends.first_lost_end.Given as goal

abbrev pub invariant-loop-place : goal.invariant-loop-place
invariant-loop-place l = (groups : List (List ZoneData)) → AreNamesOfGroups groups l.fn.names.keys → (k : ℕ) → k < l.place → ¬ (IsLostEndAt groups (entries l.fn.group) k)
