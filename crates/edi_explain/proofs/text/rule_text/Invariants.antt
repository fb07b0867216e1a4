use Rattle.std.proofs.Common.{◌≡◌, drop, flat_map, map}
use Rattle.edi_explain.specs.Texts.{rule_texts, words_among, words_of_text}
use Rattle.edi_explain.proofs.text.rule_text.Given as goal

abbrev pub invariant-loop-texts : goal.invariant-loop-texts
invariant-loop-texts l =
    words_among rule_texts l.fn.rule ≡ words_among (flat_map (λ texts. map words_of_text texts.now) (drop l.texts-index l.texts-items)) l.fn.rule
