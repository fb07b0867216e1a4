use Rattle.std.proofs.Common.{List, take}
use Rattle.edi_line.specs.ZoneData.{ZoneData, entries}
use Rattle.edi_line.specs.inner.Groups.{HandedZones, IsStateOf, KeepsHanded, with_zones}
use Rattle.edi_line.proofs.groups.Handing.hand_all_on.Given as goal

abbrev pub invariant-loop-zone : goal.invariant-loop-zone
invariant-loop-zone g l = record {
  state : (s : HandedZones) → IsStateOf s l.initial.self → IsStateOf (with_zones s (entries (take l.zone-index l.zones))) l.self;
  keeps : (s : HandedZones) (groups : List (List ZoneData)) → IsStateOf s l.initial.self
      → KeepsHanded (g.O.GroupOut.Holds l.initial.out) groups s
      → KeepsHanded (g.O.GroupOut.Holds l.out) groups (with_zones s (entries (take l.zone-index l.zones)));
}
