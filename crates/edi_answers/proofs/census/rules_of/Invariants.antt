use Rattle.std.proofs.Common.{◌≡◌, map, take}
use Rattle.edi_line.specs.declared.broken.BrokenRule.{BrokenRule}
use Rattle.edi_answers.proofs.census.rules_of.Given as goal

abbrev pub invariant-loop-it : goal.invariant-loop-it
invariant-loop-it l = l.rules.items ≡ map (λ (it : BrokenRule). it.rule) (take l.it-index l.broken)
