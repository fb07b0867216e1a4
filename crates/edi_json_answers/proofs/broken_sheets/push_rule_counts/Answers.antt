use Rattle.edi_json_answers.specs.BrokenSheets.{rule_count_value}
use Rattle.edi_json.proofs.LineLemmas.{no_lines}
use Rattle.edi_json_answers.proofs.SheetValues.{lines_next}
use Rattle.edi_json_answers.proofs.broken_sheets.push_rule_counts.Goals as goal

pub loop-it-init : goal.loop-it-init
loop-it-init c = no_lines _

pub loop-it-preserved : goal.loop-it-preserved
loop-it-preserved c =
    lines_next rule_count_value c.args.counts.now c.loop-it.it-index _ _ c.loop-it.text.items c.push_rule_count.new.text.items c.loop-it-test.true
    c.loop-it.invariant c.in_ok-push_rule_count.ensures
