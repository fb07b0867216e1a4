use Rattle.std.proofs.Common.{flat_map, take}
use Rattle.edi_hash.specs.Keys.{Holds}
use Rattle.edi_schema.specs.inner.Drafts.{drafted, name_parts}
use Rattle.edi_schema.proofs.sorting.hash_of.Given as goal

abbrev pub invariant-loop-draft : goal.invariant-loop-draft
invariant-loop-draft l = Holds l.names (flat_map (λ d. name_parts (drafted d).0) (take l.draft-index l.drafts))
