use Rattle.std.proofs.Common.{ℕ, ◌+◌, ◌<◌, ◌≤◌, length}
use Rattle.edi_line.specs.ZoneData.{entries}
use Rattle.edi_line.specs.Zones.{groups_of}
use Rattle.edi_explain.specs.KindClasses.{IsClassBehind, codes_of}
use Rattle.edi_explain.proofs.RowGroups.{IsLeftAt}
use Rattle.edi_explain.proofs.kind_classes.class_behind.Given as goal

abbrev pub invariant-loop-rest : goal.invariant-loop-rest
invariant-loop-rest l = record {
  within : l.number + length l.rest ≤ length l.fn.zones;
  left : IsLeftAt (groups_of (entries l.fn.zones)) l.number l.rest;
  none : (n : ℕ) → n < l.number + 1 → ¬ (IsClassBehind (groups_of (entries l.fn.zones)) (codes_of l.fn.codes) l.fn.role l.fn.behind n);
}

abbrev pub decreases-loop-rest : goal.decreases-loop-rest
decreases-loop-rest l = length l.rest
