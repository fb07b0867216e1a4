use Rattle.std.proofs.Common.{map, take}
use Rattle.edi_hash.specs.Keys.{Holds}
use Rattle.edi_plan.specs.inner.Names.{tabled}
use Rattle.edi_plan.proofs.names.hash_of.Given as goal

abbrev pub invariant-loop-place : goal.invariant-loop-place
invariant-loop-place l = Holds l.names (map (λ r. r.rid) (tabled l.links_rise (take l.place l.records)))
