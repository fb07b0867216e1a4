use Rattle.std.proofs.Common.{refl}
use Rattle.std.specs.Char.{encode_utf8}
use Rattle.std.specs.Fmt.{digits}
use Rattle.hex.specs.Hex.{encode_with}
use Rattle.json.specs.Print.{escape_byte, print_from}
use Rattle.edi_json_answers.proofs.known.known_digests_are_lines.Goals as goal

pub returns-clause-of_schema : goal.returns-clause-of_schema
unfolding digits encode_utf8 encode_with escape_byte print_from
returns-clause-of_schema c = refl

pub returns-clause-of_sheet : goal.returns-clause-of_sheet
unfolding digits encode_utf8 encode_with escape_byte print_from
returns-clause-of_sheet c = refl

pub returns-clause-at_line : goal.returns-clause-at_line
unfolding digits encode_utf8 escape_byte print_from
returns-clause-at_line c = refl

pub returns-clause-at_record : goal.returns-clause-at_record
unfolding digits encode_utf8 escape_byte print_from
returns-clause-at_record c = refl
