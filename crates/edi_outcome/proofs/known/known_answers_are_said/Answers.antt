use Rattle.std.proofs.Common.{refl}
use Rattle.std.specs.Fmt.{digits}
use Rattle.edi_outcome.proofs.known.known_answers_are_said.Goals as goal

pub returns-clause-different : goal.returns-clause-different
unfolding digits
returns-clause-different c = refl
