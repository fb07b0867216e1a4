use Rattle.std.proofs.Common.{refl}
use Rattle.std.specs.Char.{encode_utf8}
use Rattle.std.specs.Fmt.{digits}
use Rattle.json.specs.Print.{escape_byte, print_from}
use Rattle.edi_json_answers.proofs.known.known_words_are_lines.Goals as goal

pub returns-clause-two : goal.returns-clause-two
unfolding digits encode_utf8 escape_byte print_from
returns-clause-two c = refl

pub returns-clause-between : goal.returns-clause-between
unfolding digits encode_utf8 escape_byte print_from
returns-clause-between c = refl

pub returns-clause-escaped : goal.returns-clause-escaped
unfolding digits encode_utf8 escape_byte print_from
returns-clause-escaped c = refl

pub returns-clause-byte : goal.returns-clause-byte
unfolding digits encode_utf8 escape_byte print_from
returns-clause-byte c = refl

pub returns-clause-nothing : goal.returns-clause-nothing
returns-clause-nothing c = refl
