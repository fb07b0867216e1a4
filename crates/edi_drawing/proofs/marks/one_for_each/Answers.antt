use Rattle.std.proofs.Common.{rules}
use Rattle.edi_drawing.proofs.marks.one_for_each.Goals as goal

pub returns : goal.returns
returns g c = c.values_of_places.ensures (λ k. c.args.value) (λ k less x p. search rules)
