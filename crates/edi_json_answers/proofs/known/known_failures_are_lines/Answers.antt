use Rattle.std.proofs.Common.{refl}
use Rattle.std.specs.Char.{encode_utf8}
use Rattle.std.specs.Fmt.{digits}
use Rattle.std.specs.Str.{chars, is_utf8}
use Rattle.json.specs.Print.{escape_byte, print_from}
use Rattle.edi_json_answers.proofs.known.known_failures_are_lines.Goals as goal

pub returns-clause-unread : goal.returns-clause-unread
unfolding chars digits encode_utf8 escape_byte is_utf8 print_from
returns-clause-unread c = refl

pub returns-clause-memory : goal.returns-clause-memory
unfolding digits encode_utf8 escape_byte print_from
returns-clause-memory c = refl
