use Rattle.std.proofs.Common.{◌∙◌, ◌++◌, List, ap}
use Rattle.std.proofs.lemmas.Result.{on_ok_weaker}
use Rattle.json.specs.Token.{Token}
use Rattle.json.specs.Tree.{json_tokens}
use Rattle.edi_json.proofs.LineLemmas.{one_line}
use Rattle.edi_json_answers.specs.BrokenSheets.{accepted_sheet_value}
use Rattle.edi_json_answers.proofs.SheetValues.{accepted_sheet_fit}
use Rattle.edi_json_answers.proofs.broken_sheets.push_accepted_sheet.Goals as goal

pub returns : goal.returns
returns c =
    let value = accepted_sheet_value c.args.name.now in
    let fit = accepted_sheet_fit c.args.name.now in
    on_ok_weaker c.end_line.result
    (one_line value fit.shallow fit.plain c.args.text.now.items c.write_accepted_sheet.new.writer.before c.end_line.new.text.items c.write_accepted_sheet.new.writer.tokens
    (c.in_ok-write_accepted_sheet.ensures.before ∙ c.begin_line-writer.ensures.before)
    (c.in_ok-write_accepted_sheet.ensures.tokens ∙ ap (λ (ts : List Token). ts ++ json_tokens value) c.begin_line-writer.ensures.tokens)
    c.end_line.ensures.read)
    c.end_line.ensures.text
