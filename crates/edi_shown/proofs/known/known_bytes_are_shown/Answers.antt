use Rattle.std.proofs.Common.{refl}
use Rattle.std.specs.Char.{encode_utf8}
use Rattle.std.specs.Str.{chars, is_utf8}
use Rattle.edi_shown.proofs.known.known_bytes_are_shown.Goals as goal

pub returns-clause-identifier : goal.returns-clause-identifier
unfolding chars encode_utf8 is_utf8
returns-clause-identifier c = refl

pub returns-clause-escape : goal.returns-clause-escape
unfolding chars encode_utf8 is_utf8
returns-clause-escape c = refl

pub returns-clause-line_end : goal.returns-clause-line_end
unfolding chars encode_utf8 is_utf8
returns-clause-line_end c = refl

pub returns-clause-backslash : goal.returns-clause-backslash
unfolding chars encode_utf8 is_utf8
returns-clause-backslash c = refl

pub returns-clause-delete : goal.returns-clause-delete
unfolding chars encode_utf8 is_utf8
returns-clause-delete c = refl

pub returns-clause-accent : goal.returns-clause-accent
unfolding chars encode_utf8 is_utf8
returns-clause-accent c = refl

pub returns-clause-second_controls : goal.returns-clause-second_controls
unfolding chars encode_utf8 is_utf8
returns-clause-second_controls c = refl

pub returns-clause-latin : goal.returns-clause-latin
unfolding chars encode_utf8 is_utf8
returns-clause-latin c = refl
