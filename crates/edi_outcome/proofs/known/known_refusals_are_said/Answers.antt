use Rattle.std.proofs.Common.{refl}
use Rattle.std.specs.Fmt.{digits}
use Rattle.edi_outcome.proofs.known.known_refusals_are_said.Goals as goal

pub returns-clause-only_sheet : goal.returns-clause-only_sheet
unfolding digits
returns-clause-only_sheet c = refl

pub returns-clause-first_sheet : goal.returns-clause-first_sheet
unfolding digits
returns-clause-first_sheet c = refl

pub returns-clause-checked_sheet : goal.returns-clause-checked_sheet
unfolding digits
returns-clause-checked_sheet c = refl

pub returns-clause-second_sheet : goal.returns-clause-second_sheet
unfolding digits
returns-clause-second_sheet c = refl

pub returns-clause-classes : goal.returns-clause-classes
unfolding digits
returns-clause-classes c = refl

pub returns-clause-dictionary : goal.returns-clause-dictionary
unfolding digits
returns-clause-dictionary c = refl

pub returns-clause-pairing : goal.returns-clause-pairing
unfolding digits
returns-clause-pairing c = refl
