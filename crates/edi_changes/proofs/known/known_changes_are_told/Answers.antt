use Rattle.std.proofs.Common.{refl}
use Rattle.std.specs.Fmt.{digits}
use Rattle.edi_changes.proofs.known.known_changes_are_told.Goals as goal

pub returns-clause-nothing : goal.returns-clause-nothing
unfolding digits
returns-clause-nothing c = refl

pub returns-clause-some : goal.returns-clause-some
unfolding digits
returns-clause-some c = refl
