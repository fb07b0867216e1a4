use Rattle.std.proofs.Common.{refl}
use Rattle.std.specs.Char.{encode_utf8}
use Rattle.std.specs.Fmt.{digits}
use Rattle.json.specs.Print.{escape_byte, print_from}
use Rattle.edi_json_answers.proofs.known_sheets.known_sheets_are_lines.Goals as goal

pub returns-clause-at_line : goal.returns-clause-at_line
unfolding digits encode_utf8 escape_byte print_from
returns-clause-at_line c = refl

pub returns-clause-at_record : goal.returns-clause-at_record
unfolding digits encode_utf8 escape_byte print_from
returns-clause-at_record c = refl

pub returns-clause-last_of_lines : goal.returns-clause-last_of_lines
unfolding digits encode_utf8 escape_byte print_from
returns-clause-last_of_lines c = refl

pub returns-clause-first_of_records : goal.returns-clause-first_of_records
unfolding digits encode_utf8 escape_byte print_from
returns-clause-first_of_records c = refl

pub returns-clause-accepted : goal.returns-clause-accepted
unfolding digits encode_utf8 escape_byte print_from
returns-clause-accepted c = refl

pub returns-clause-count : goal.returns-clause-count
unfolding digits encode_utf8 escape_byte print_from
returns-clause-count c = refl
