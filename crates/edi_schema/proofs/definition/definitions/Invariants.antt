use Rattle.std.proofs.Common.{◌≡◌, ◌++◌, map, length}
use Rattle.edi_line.specs.ZoneData.{entries}
use Rattle.edi_line.specs.Zones.{groups_of}
use Rattle.edi_schema.specs.inner.Drafts.{definition_said, said_in}
use Rattle.edi_schema.proofs.definition.definitions.Given as goal

abbrev pub invariant-loop-rest : goal.invariant-loop-rest
invariant-loop-rest l = map said_in (groups_of (entries l.fn.zones)) ≡ map definition_said l.done.items ++ map said_in (groups_of (entries l.rest))

abbrev pub decreases-loop-rest : goal.decreases-loop-rest
decreases-loop-rest l = length l.rest
