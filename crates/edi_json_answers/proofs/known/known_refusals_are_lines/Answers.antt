use Rattle.std.proofs.Common.{refl}
use Rattle.std.specs.Char.{encode_utf8}
use Rattle.std.specs.Fmt.{digits}
use Rattle.json.specs.Print.{escape_byte, print_from}
use Rattle.edi_json_answers.proofs.known.known_refusals_are_lines.Goals as goal

pub returns-clause-only_sheet : goal.returns-clause-only_sheet
unfolding digits encode_utf8 escape_byte print_from
returns-clause-only_sheet c = refl

pub returns-clause-first_sheet : goal.returns-clause-first_sheet
unfolding digits encode_utf8 escape_byte print_from
returns-clause-first_sheet c = refl

pub returns-clause-second_sheet : goal.returns-clause-second_sheet
unfolding digits encode_utf8 escape_byte print_from
returns-clause-second_sheet c = refl

pub returns-clause-classes : goal.returns-clause-classes
unfolding digits encode_utf8 escape_byte print_from
returns-clause-classes c = refl

pub returns-clause-dictionary : goal.returns-clause-dictionary
unfolding digits encode_utf8 escape_byte print_from
returns-clause-dictionary c = refl

pub returns-clause-kinds : goal.returns-clause-kinds
unfolding digits encode_utf8 escape_byte print_from
returns-clause-kinds c = refl

pub returns-clause-pairing : goal.returns-clause-pairing
unfolding digits encode_utf8 escape_byte print_from
returns-clause-pairing c = refl
