use Rattle.edi_json_answers.specs.BrokenSheets.{broken_rule_value}
use Rattle.edi_json.proofs.LineLemmas.{no_lines}
use Rattle.edi_json_answers.proofs.SheetValues.{lines_next}
use Rattle.edi_json_answers.proofs.broken_sheets.push_broken_rules.Goals as goal

pub loop-it-init : goal.loop-it-init
loop-it-init c = no_lines _

pub loop-it-preserved : goal.loop-it-preserved
loop-it-preserved c =
    lines_next (broken_rule_value c.args.name.now) c.args.broken.now c.loop-it.it-index _ _ c.loop-it.text.items c.push_broken_rule.new.text.items c.loop-it-test.true
    c.loop-it.invariant c.in_ok-push_broken_rule.ensures
