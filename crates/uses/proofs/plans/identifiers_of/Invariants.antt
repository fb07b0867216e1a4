use Rattle.std.proofs.Common.{◌≡◌, map, take}
use Rattle.uses.proofs.plans.identifiers_of.Given as goal

-- the identifiers so far
abbrev pub invariant-loop-name : goal.invariant-loop-name
invariant-loop-name l = map (λ i. i.now) l.identifiers.items ≡ map (λ n. n.rid) (take l.name-index l.name-items)
