use Rattle.std.proofs.Common.{◌≡◌, ℕ, ◌∙◌, ap, Result, Ok}
use Rattle.std.specs.Prelude.{decimal}
use Rattle.edi_explain.proofs.RuleWords.{read_word, texts}
use Rattle.edi_explain.proofs.explained.rule_of_word.Goals as goal

ok_one : {E : Type 0} (m n : ℕ) (r : Result ℕ E) → r ≡ Ok m → r ≡ Ok n → m ≡ n
ok_one m n r e f = cc

pub returns-in_default : goal.returns-in_default
returns-in_default c = λ rule w. c.in_default.not-Ok rule (read_word c.args.word.now c.parse.result rule c.parse.ensures.value.0 w)

pub returns-then-spells : goal.returns-then-spells
returns-then-spells c =
    texts c.args.word.now c.in-Ok.rule c.rule_text.result (c.spells.ensures.0 c.if-spells.true)
    (λ rule w. ok_one rule c.in-Ok.rule c.parse.result (read_word c.args.word.now c.parse.result rule c.parse.ensures.value.0 w) c.in-Ok.is) c.rule_text.ensures

pub returns-else-spells : goal.returns-else-spells
returns-else-spells c = λ rule w.
    let e : rule ≡ c.in-Ok.rule = ok_one rule c.in-Ok.rule c.parse.result (read_word c.args.word.now c.parse.result rule c.parse.ensures.value.0 w) c.in-Ok.is in
    let t = c.spells.ensures.1 (w.0 ∙ ap decimal e) in
    let f = c.if-spells.false in cc
