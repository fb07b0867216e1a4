use Rattle.std.proofs.Common.{◌≡◌, ◌∙◌, None, Some, ap, arith, flat_map, length, map, rules, sym}
use Rattle.std.proofs.Math.ListN.{drop_of_length-le}
use Rattle.edi_explain.specs.Texts.{words_among, words_of_text}
use Rattle.edi_explain.proofs.RuleTexts.{in_first, in_others, text_said}
use Rattle.edi_explain.proofs.text.rule_text.Goals as goal

pub returns-in-Some : goal.returns-in-Some
returns-in-Some c =
    let lists = c.texts_by_phase.result in
    let seven : length lists ≡ 7 = search rules in
    let first = in_first (λ texts. map words_of_text texts.now) lists c.loop-texts.texts-index _ c.args.rule (omega (arith, seven, c.loop-texts-test.true)) c.text_among.result c.text_among.ensures in
    text_said c.args.rule (Some c.in-Some.text) (sym (c.loop-texts.invariant ∙ first c.in-Some.text c.in-Some.is))

pub loop-texts-preserved : goal.loop-texts-preserved
loop-texts-preserved c =
    let lists = c.texts_by_phase.result in
    let seven : length lists ≡ 7 = search rules in
    c.loop-texts.invariant
    ∙ in_others (λ texts. map words_of_text texts.now) lists c.loop-texts.texts-index _ c.args.rule (omega (arith, seven, c.loop-texts-test.true)) c.text_among.result c.text_among.ensures c.in_default.is

pub returns : goal.returns
returns c =
    let lists = c.texts_by_phase.result in
    let seven : length lists ≡ 7 = search rules in
    text_said c.args.rule None
    (sym (c.loop-texts.invariant ∙ ap (λ l. words_among (flat_map (λ texts. map words_of_text texts.now) l) c.args.rule) (drop_of_length-le lists (omega (arith, seven, c.loop-texts-test.false)))))
