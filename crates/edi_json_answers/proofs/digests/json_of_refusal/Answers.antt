use Rattle.std.proofs.Common.{◌∙◌, ◌++◌, List, ap, codes}
use Rattle.json.specs.Token.{Token}
use Rattle.json.specs.Tree.{json_tokens}
use Rattle.edi_json_answers.specs.Answers.{broken_at_value}
use Rattle.edi_json_answers.proofs.Values.{broken_at_fit}
use Rattle.edi_json_answers.proofs.OneLine.{alone}
use Rattle.edi_json_answers.proofs.digests.json_of_refusal.Goals as goal

pub returns : goal.returns
returns c =
    let value = broken_at_value (codes "refusal") c.args.name.now c.args.rule c.args.line c.args.place in
    let fit = broken_at_fit (codes "refusal") c.args.name.now c.args.rule c.args.line c.args.place in
    let made = alone value fit c.write_broken_at.new.writer.before c.end_line.new.text.items c.write_broken_at.new.writer.tokens
    (c.in_ok-write_broken_at.ensures.before ∙ (c.begin_line-writer.ensures.before ∙ c.new-text.ensures.items))
    (c.in_ok-write_broken_at.ensures.tokens ∙ ap (λ (ts : List Token). ts ++ json_tokens value) c.begin_line-writer.ensures.tokens)
    c.in_ok-end_line.ensures.read c.in_ok-end_line.ensures.text in
    record { text = made.text; read = made.read }
