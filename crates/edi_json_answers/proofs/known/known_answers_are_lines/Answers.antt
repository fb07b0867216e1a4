use Rattle.std.proofs.Common.{refl}
use Rattle.std.specs.Char.{encode_utf8}
use Rattle.std.specs.Fmt.{digits}
use Rattle.json.specs.Print.{escape_byte, print_from}
use Rattle.edi_json_answers.proofs.known.known_answers_are_lines.Goals as goal

pub returns-clause-accepted : goal.returns-clause-accepted
unfolding digits encode_utf8 escape_byte print_from
returns-clause-accepted c = refl

pub returns-clause-same : goal.returns-clause-same
unfolding digits encode_utf8 escape_byte print_from
returns-clause-same c = refl

pub returns-clause-different : goal.returns-clause-different
unfolding digits encode_utf8 escape_byte print_from
returns-clause-different c = refl

pub returns-clause-pairs : goal.returns-clause-pairs
unfolding digits encode_utf8 escape_byte print_from
returns-clause-pairs c = refl

pub returns-clause-unpaired : goal.returns-clause-unpaired
unfolding digits encode_utf8 escape_byte print_from
returns-clause-unpaired c = refl
