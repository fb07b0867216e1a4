use Rattle.std.proofs.Common.{refl}
use Rattle.std.specs.Fmt.{digits}
use Rattle.edi_line.specs.Number.{fraction_digits, size_text}
use Rattle.edi_picture.proofs.known.known_records_are_drawn.Goals as goal

pub returns-clause-node : goal.returns-clause-node
unfolding size_text fraction_digits digits
returns-clause-node c = refl

pub returns-clause-arc : goal.returns-clause-arc
unfolding size_text fraction_digits digits
returns-clause-arc c = refl

pub returns-clause-ink : goal.returns-clause-ink
returns-clause-ink c = refl

pub returns-clause-far : goal.returns-clause-far
returns-clause-far c = refl

pub returns-clause-hidden : goal.returns-clause-hidden
returns-clause-hidden c = refl
