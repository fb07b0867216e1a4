use Rattle.std.proofs.Common.{ℕ}
use Rattle.edi_matching.specs.inner.Additions.{AddsPairs, HaveOneKey}
use Rattle.edi_matching.proofs.added.add_links.Given as goal

abbrev pub invariant-loop-key : goal.invariant-loop-key
invariant-loop-key g l = AddsPairs (HaveOneKey g.K.PartialEq.eq (λ (place : ℕ). place) l.fn.links.items l.fn.others.items) l.initial.to l.initial.taken l.to l.taken
