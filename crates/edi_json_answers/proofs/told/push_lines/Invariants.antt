use Rattle.std.proofs.Common.{map, take}
use Rattle.edi_outcome.specs.Words.{texts}
use Rattle.edi_json.specs.inner.Lines.{HasLines}
use Rattle.edi_json_answers.specs.Told.{words_value}
use Rattle.edi_json_answers.proofs.told.push_lines.Given as goal

abbrev pub invariant-loop-line : goal.invariant-loop-line
invariant-loop-line l = HasLines l.initial.told.items l.told.items (map words_value (texts (take l.line-index l.lines)))
