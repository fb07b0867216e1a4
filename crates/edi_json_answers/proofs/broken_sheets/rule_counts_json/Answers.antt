use Rattle.std.proofs.Common.{map}
use Rattle.edi_json_answers.specs.BrokenSheets.{rule_count_value}
use Rattle.edi_json_answers.proofs.SheetValues.{text_of_lines}
use Rattle.edi_json_answers.proofs.broken_sheets.rule_counts_json.Goals as goal

pub returns : goal.returns
returns c =
    let made = text_of_lines _ _ (map rule_count_value c.args.counts.now) c.new-text.ensures.items c.in_ok-push_rule_counts.ensures in
    record { text = made.0; read = made.1 }
