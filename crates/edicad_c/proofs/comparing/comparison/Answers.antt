-- The verdict is that on the two sheets under the schema.
use Rattle.std.proofs.Common.{inl}
use Rattle.edicad_c.proofs.comparing.comparison.Goals as goal

pub returns-in-Ok : goal.returns-in-Ok
returns-in-Ok c = inl (c.in-Ok.verdict, c.in-Ok.ensures.first, c.in-Ok.ensures.second, c.in-Ok.ensures.verdict, c.of_verdict.ensures)
