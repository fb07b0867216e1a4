use Rattle.std.proofs.Common.{ℕ, ◌<◌, ◌≤◌, length}
use Rattle.edi_line.specs.ZoneData.{entries}
use Rattle.edi_line.specs.Zones.{groups_of}
use Rattle.edi_explain.specs.inner.RowPartners.{IsEarlierRow, PassesRow}
use Rattle.edi_explain.proofs.RowGroups.{IsLeftAt}
use Rattle.edi_explain.proofs.rows.first_row.Given as goal

abbrev pub invariant-loop-rest : goal.invariant-loop-rest
invariant-loop-rest l = record {
  within : l.at ≤ l.fn.place;
  left : IsLeftAt (groups_of (entries l.fn.zones)) l.at l.rest;
  none : (k : ℕ) → k < l.at → ¬ (IsEarlierRow (PassesRow l.fn.test) (groups_of (entries l.fn.zones)) l.fn.place k);
}

abbrev pub decreases-loop-rest : goal.decreases-loop-rest
decreases-loop-rest l = length l.rest
