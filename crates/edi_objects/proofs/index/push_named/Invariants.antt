use Rattle.std.proofs.Common.{◌≡◌, ◌++◌, map, take}
use Rattle.edi_objects.proofs.index.push_named.Given as goal

abbrev pub invariant-loop-end : goal.invariant-loop-end
invariant-loop-end l = l.index.items ≡ l.initial.index.items ++ map (λ place. (place, l.link)) (map (λ e. e.target) (take l.end-index l.end-items))
