use Rattle.std.proofs.Common.{◌≡◌, flat_map, map, take}
use Rattle.edi_explain.specs.Explained.{rule_line}
use Rattle.edi_explain.specs.Texts.{words_of_text}
use Rattle.edi_explain.proofs.rules.list_rules.Given as goal

abbrev pub invariant-loop-texts : goal.invariant-loop-texts
invariant-loop-texts l = l.lines.items ≡ flat_map rule_line (flat_map (λ texts. map words_of_text texts.now) (take l.texts-index l.texts-items))
