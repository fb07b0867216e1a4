use Rattle.std.proofs.Common.{flat_map, take}
use Rattle.edi_hash.specs.Keys.{Holds}
use Rattle.edi_schema.specs.inner.Drafts.{definition_said, name_parts}
use Rattle.edi_schema.proofs.titles.hash_of.Given as goal

abbrev pub invariant-loop-record : goal.invariant-loop-record
invariant-loop-record l = Holds l.names (flat_map (λ d. name_parts (definition_said d).name) (take l.record-index l.records))
