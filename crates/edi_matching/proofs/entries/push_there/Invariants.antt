use Rattle.std.proofs.Common.{◌≡◌, ◌++◌, drop, option_map}
use Rattle.edi_matching.specs.inner.Entries.{all_there}
use Rattle.edi_matching.proofs.entries.push_there.Given as goal

-- what is left, behind what was appended, is all behind what there was
abbrev pub invariant-loop-end : goal.invariant-loop-end
invariant-loop-end l = option_map (λ moved. l.there.items ++ moved) (all_there l.plan l.to (drop l.end-index l.ends)) ≡ option_map (λ moved. l.initial.there.items ++ moved) (all_there l.plan l.to l.ends)
