use Rattle.edi_json_answers.specs.BrokenSheets.{all_broken_values}
use Rattle.edi_json_answers.proofs.SheetValues.{text_of_lines}
use Rattle.edi_json_answers.proofs.broken_sheets.all_broken_json.Goals as goal

pub returns : goal.returns
returns c =
    let made = text_of_lines _ _ (all_broken_values c.args.name.now c.args.broken.now) c.new-text.ensures.items c.in_ok-push_all_broken.ensures in
    record { text = made.0; read = made.1 }
