use Rattle.std.proofs.Common.{◌≡◌, map, length}
use Rattle.edi_explain.specs.Texts.{words_among, words_of_text}
use Rattle.edi_explain.proofs.text.text_among.Given as goal

abbrev pub invariant-loop-rest : goal.invariant-loop-rest
invariant-loop-rest l = words_among (map words_of_text l.fn.texts) l.fn.rule ≡ words_among (map words_of_text l.rest) l.fn.rule

abbrev pub decreases-loop-rest : goal.decreases-loop-rest
decreases-loop-rest l = length l.rest
