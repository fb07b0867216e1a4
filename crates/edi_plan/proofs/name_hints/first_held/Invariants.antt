use Rattle.std.proofs.Common.{◌≡◌, drop}
use Rattle.edi_plan.specs.inner.Hints.{first_held}
use Rattle.edi_plan.specs.inner.Names.{name_lent}
use Rattle.edi_plan.proofs.name_hints.first_held.Given as goal

abbrev pub invariant-loop-slot : goal.invariant-loop-slot
invariant-loop-slot l = first_held l.records (name_lent l.name) (drop l.slot-index l.slots) ≡ first_held l.records (name_lent l.name) l.slots
