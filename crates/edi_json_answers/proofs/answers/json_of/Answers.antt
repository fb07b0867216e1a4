use Rattle.std.proofs.Common.{◌∙◌, ◌++◌, List, ap}
use Rattle.json.specs.Token.{Token}
use Rattle.json.specs.Tree.{json_tokens}
use Rattle.edi_outcome.specs.Words.{texts}
use Rattle.edi_json_answers.specs.Answers.{outcome_value}
use Rattle.edi_json_answers.proofs.OneLine.{IsLineOf, alone}
use Rattle.edi_json_answers.proofs.Values.{outcome_fit}
use Rattle.edi_json_answers.proofs.answers.json_of.Goals as goal

pub returns : goal.returns
returns c =
    let names = texts c.args.names.now in
    let value = outcome_value c.args.outcome.now names in
    let made : IsLineOf value c.end_line.new.text.items =
    alone value (outcome_fit c.args.outcome.now names) c.write_outcome.new.writer.before c.end_line.new.text.items c.write_outcome.new.writer.tokens
    (c.in_ok-write_outcome.ensures.before ∙ (c.begin_line-writer.ensures.before ∙ c.new-text.ensures.items))
    (c.in_ok-write_outcome.ensures.tokens ∙ ap (λ (ts : List Token). ts ++ json_tokens value) c.begin_line-writer.ensures.tokens)
    c.in_ok-end_line.ensures.read c.in_ok-end_line.ensures.text in
    record { text = made.text; read = made.read }
