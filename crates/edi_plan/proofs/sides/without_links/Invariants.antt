use Rattle.std.proofs.Common.{◌≡◌, replicate}
use Rattle.edi_schema.specs.ByRole.{no_values}
use Rattle.edi_plan.proofs.sides.without_links.Given as goal

abbrev pub invariant-loop : goal.invariant-loop
invariant-loop l = l.table.items ≡ replicate l.counter no_values
