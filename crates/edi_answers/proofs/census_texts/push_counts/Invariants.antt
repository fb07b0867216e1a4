use Rattle.std.proofs.Common.{◌≡◌, ◌++◌, flat_map, take}
use Rattle.std.specs.Prelude.{◌==◌, count_by}
use Rattle.edi_answers.specs.Census.{rule_count}
use Rattle.edi_answers.proofs.census_texts.push_counts.Given as goal

abbrev pub invariant-loop-rule : goal.invariant-loop-rule
invariant-loop-rule l =
    l.counts.items ≡ l.initial.counts.items ++ flat_map (λ rule. rule_count rule (count_by (λ r. r == rule) l.broken)) (take l.rule-index l.rules)
