-- What is said is said under the schema.
use Rattle.std.proofs.Common.{inl, inr}
use Rattle.edicad_c.proofs.explains.explanation.Goals as goal

pub returns-in-Ok : goal.returns-in-Ok
returns-in-Ok c = inl (c.in-Ok.sound, c.in-Ok.ensures.accepted, c.in-Ok.ensures.plan, c.description.ensures)

pub returns-in-Err : goal.returns-in-Err
returns-in-Err c = inr (c.in-Err.found.fault, c.in-Err.ensures.found.0, c.cause.ensures)
