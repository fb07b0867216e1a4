use Rattle.std.proofs.Common.{◌≡◌, ◌∷◌, drop}
use Rattle.edi_line.specs.ZoneData.{entry, entries}
use Rattle.edi_line.specs.Zones.{before_end, groups_of}
use Rattle.edi_record.specs.inner.Stored.{StoresRecord, kept}
use Rattle.edi_record.proofs.stating.record_of.Given as goal

abbrev pub invariant-loop-zone : goal.invariant-loop-zone
invariant-loop-zone l = record {
  own : l.own ≡ l.zone-index;
  kind : l.draft.kind ≡ l.initial.draft.kind;
  keeps : StoresRecord (kept l.draft l.parts) (before_end (entries (drop l.zone-index l.behind))) (entry l.fn.head ∷ before_end (entries l.fn.behind));
  left : groups_of (entries (drop l.zone-index l.behind)) ≡ groups_of (entries l.fn.behind);
}
