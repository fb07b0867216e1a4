use Rattle.std.proofs.Common.{◌∙◌, ◌++◌, List, ap}
use Rattle.std.proofs.lemmas.Result.{on_ok_weaker}
use Rattle.json.specs.Token.{Token}
use Rattle.json.specs.Tree.{json_tokens}
use Rattle.edi_json.proofs.LineLemmas.{one_line}
use Rattle.edi_json_answers.specs.BrokenSheets.{rule_count_value}
use Rattle.edi_json_answers.proofs.SheetValues.{rule_count_fit}
use Rattle.edi_json_answers.proofs.broken_sheets.push_rule_count.Goals as goal

pub returns : goal.returns
returns c =
    let value = rule_count_value c.args.it in
    let fit = rule_count_fit c.args.it in
    on_ok_weaker c.end_line.result
    (one_line value fit.shallow fit.plain c.args.text.now.items c.write_rule_count.new.writer.before c.end_line.new.text.items c.write_rule_count.new.writer.tokens
    (c.in_ok-write_rule_count.ensures.before ∙ c.begin_line-writer.ensures.before)
    (c.in_ok-write_rule_count.ensures.tokens ∙ ap (λ (ts : List Token). ts ++ json_tokens value) c.begin_line-writer.ensures.tokens)
    c.end_line.ensures.read)
    c.end_line.ensures.text
