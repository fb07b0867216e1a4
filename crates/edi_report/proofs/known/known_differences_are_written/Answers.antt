use Rattle.std.proofs.Common.{refl}
use Rattle.std.specs.Char.{encode_utf8}
use Rattle.std.specs.Fmt.{digits}
use Rattle.std.specs.Str.{chars, is_utf8}
use Rattle.edi_report.proofs.known.known_differences_are_written.Goals as goal

pub returns-clause-gone : goal.returns-clause-gone
unfolding digits chars encode_utf8 is_utf8
returns-clause-gone c = refl

pub returns-clause-changed : goal.returns-clause-changed
unfolding digits chars encode_utf8 is_utf8
returns-clause-changed c = refl

pub returns-clause-added : goal.returns-clause-added
unfolding digits chars encode_utf8 is_utf8
returns-clause-added c = refl

pub returns-clause-counts : goal.returns-clause-counts
unfolding digits
returns-clause-counts c = refl

pub returns-clause-whole : goal.returns-clause-whole
unfolding digits chars encode_utf8 is_utf8
returns-clause-whole c = refl

pub returns-clause-brief : goal.returns-clause-brief
unfolding digits
returns-clause-brief c = refl
