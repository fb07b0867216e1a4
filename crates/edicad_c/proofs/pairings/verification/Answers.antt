-- What is answered of the file is answered under the schema.
use Rattle.std.proofs.Common.{inl}
use Rattle.edicad_c.proofs.pairings.verification.Goals as goal

pub returns-in-Ok : goal.returns-in-Ok
returns-in-Ok c =
    let w = c.in-Ok in
    inl (w.verified, w.ensures.first, w.ensures.second, w.ensures.answer, c.given_of_verified.ensures)
