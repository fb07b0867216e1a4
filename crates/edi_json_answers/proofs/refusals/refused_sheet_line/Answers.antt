use Rattle.std.proofs.Common.{◌∙◌, ◌++◌, List, ap, codes}
use Rattle.json.specs.Token.{Token}
use Rattle.json.specs.Tree.{json_tokens}
use Rattle.edi_json_answers.specs.Answers.{sheet_value}
use Rattle.edi_json_answers.proofs.OneLine.{IsLineOf, alone}
use Rattle.edi_json_answers.proofs.Values.{sheet_fit}
use Rattle.edi_json_answers.proofs.refusals.refused_sheet_line.Goals as goal

pub returns : goal.returns
returns c =
    let value = sheet_value (codes "sheet") c.args.fault.now in
    let made : IsLineOf value c.end_line.new.text.items =
    alone value (sheet_fit (codes "sheet") c.args.fault.now) c.write_sheet.new.writer.before c.end_line.new.text.items c.write_sheet.new.writer.tokens
    (c.in_ok-write_sheet.ensures.before ∙ (c.begin_line-writer.ensures.before ∙ c.new-text.ensures.items))
    (c.in_ok-write_sheet.ensures.tokens ∙ ap (λ (ts : List Token). ts ++ json_tokens value) c.begin_line-writer.ensures.tokens)
    c.in_ok-end_line.ensures.read c.in_ok-end_line.ensures.text in
    record { text = made.text; read = made.read }
