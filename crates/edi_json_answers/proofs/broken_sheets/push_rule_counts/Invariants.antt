use Rattle.std.proofs.Common.{map, take}
use Rattle.edi_json.specs.inner.Lines.{HasLines}
use Rattle.edi_json_answers.specs.BrokenSheets.{rule_count_value}
use Rattle.edi_json_answers.proofs.broken_sheets.push_rule_counts.Given as goal

abbrev pub invariant-loop-it : goal.invariant-loop-it
invariant-loop-it l = HasLines l.initial.text.items l.text.items (map rule_count_value (take l.it-index l.counts))
