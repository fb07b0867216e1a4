use Rattle.std.proofs.Common.{refl}
use Rattle.hex.specs.Hex.{encode_with}
use Rattle.edi_answers.proofs.known.known_digests_are_written.Goals as goal

pub returns-clause-plain : goal.returns-clause-plain
unfolding encode_with
returns-clause-plain c = refl

pub returns-clause-backslash : goal.returns-clause-backslash
unfolding encode_with
returns-clause-backslash c = refl

pub returns-clause-line_feed : goal.returns-clause-line_feed
unfolding encode_with
returns-clause-line_feed c = refl
