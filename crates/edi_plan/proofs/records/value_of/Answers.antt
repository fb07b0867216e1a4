use Rattle.std.proofs.Common.{sym, subst}
use Rattle.edi_line.specs.Number.{IsNumberText}
use Rattle.edi_plan.proofs.records.value_of.Goals as goal

pub returns-in_ok-clone-in-None : goal.returns-in_ok-clone-in-None
returns-in_ok-clone-in-None c = (c.in_ok-clone-in-None.ensures.cases, λ t m h. c.in-None.ensures m (subst (λ x. IsNumberText x m) (sym c.as_slice.ensures) h))
