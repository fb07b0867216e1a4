use Rattle.std.proofs.Common.{◌≡◌, flat_map, take}
use Rattle.edi_answers.specs.Census.{rule_count_line}
use Rattle.edi_answers.proofs.census_texts.words_of_counts.Given as goal

abbrev pub invariant-loop-it : goal.invariant-loop-it
invariant-loop-it l = l.text.items ≡ flat_map rule_count_line (take l.it-index l.counts)
