use Rattle.std.proofs.Common.{rules}
use Rattle.edi_drawing.specs.Marked.{first_mark}
use Rattle.edi_drawing.proofs.marks.first_marks.Goals as goal

pub returns : goal.returns
returns c = c.values_of_places.ensures (first_mark c.args.unchanged.now c.args.became.now) (λ k less x p. search rules)
