use Rattle.edi_matching.specs.inner.Inverses.{IsInverse}
use Rattle.edi_matching.proofs.growing.inverse.Given as goal

-- the first records were turned back
abbrev pub invariant-loop-place : goal.invariant-loop-place
invariant-loop-place l = IsInverse l.matching l.count l.place (record { to = l.to.items; turned = l.turned.items })
