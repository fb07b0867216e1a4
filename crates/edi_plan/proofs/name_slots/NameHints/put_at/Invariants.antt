use Rattle.std.proofs.Common.{◌≡◌}
use Rattle.edi_plan.specs.inner.Hints.{ArePassed}
use Rattle.edi_plan.specs.inner.Names.{name_lent}
use Rattle.edi_plan.proofs.name_slots.NameHints.put_at.Given as goal

abbrev pub invariant-loop-at : goal.invariant-loop-at
invariant-loop-at l = record {
  same : l.self.slots.items ≡ l.fn.self.slots.items;
  passed : ArePassed l.records (name_lent l.name) l.self.slots.items l.start l.at;
}
