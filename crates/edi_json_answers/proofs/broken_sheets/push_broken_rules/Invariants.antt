use Rattle.std.proofs.Common.{map, take}
use Rattle.edi_json.specs.inner.Lines.{HasLines}
use Rattle.edi_json_answers.specs.BrokenSheets.{broken_rule_value}
use Rattle.edi_json_answers.proofs.broken_sheets.push_broken_rules.Given as goal

abbrev pub invariant-loop-it : goal.invariant-loop-it
invariant-loop-it l = HasLines l.initial.text.items l.text.items (map (broken_rule_value l.name) (take l.it-index l.broken))
