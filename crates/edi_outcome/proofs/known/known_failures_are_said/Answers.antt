use Rattle.std.proofs.Common.{refl}
use Rattle.std.specs.Char.{encode_utf8}
use Rattle.std.specs.Str.{chars, is_utf8}
use Rattle.edi_outcome.proofs.known.known_failures_are_said.Goals as goal

pub returns-clause-unread : goal.returns-clause-unread
unfolding chars encode_utf8 is_utf8
returns-clause-unread c = refl

pub returns-clause-too_long : goal.returns-clause-too_long
unfolding chars encode_utf8 is_utf8
returns-clause-too_long c = refl

pub returns-clause-unwritten : goal.returns-clause-unwritten
unfolding chars encode_utf8 is_utf8
returns-clause-unwritten c = refl

pub returns-clause-escape : goal.returns-clause-escape
unfolding chars encode_utf8 is_utf8
returns-clause-escape c = refl
