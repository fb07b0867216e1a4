use Rattle.std.proofs.Common.{◌≡◌, ◌++◌, flat_map, map, take}
use Rattle.edi_explain.specs.Explained.{rule_line}
use Rattle.edi_explain.specs.Texts.{words_of_text}
use Rattle.edi_explain.proofs.rules.push_rules.Given as goal

abbrev pub invariant-loop-text : goal.invariant-loop-text
invariant-loop-text l = l.lines.items ≡ l.initial.lines.items ++ flat_map rule_line (map words_of_text (take l.text-index l.texts))
