use Rattle.std.proofs.Common.{refl}
use Rattle.std.specs.Char.{encode_utf8}
use Rattle.std.specs.Fmt.{digits}
use Rattle.json.specs.Print.{escape_byte, print_from}
use Rattle.edi_json.proofs.known.known_differences_are_lines.Goals as goal

pub returns : goal.returns
unfolding digits encode_utf8 escape_byte print_from
returns c = refl
