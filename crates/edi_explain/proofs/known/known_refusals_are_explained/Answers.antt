use Rattle.std.proofs.Common.{refl}
use Rattle.std.specs.Char.{encode_utf8}
use Rattle.std.specs.Fmt.{digits}
use Rattle.std.specs.Str.{chars, is_utf8}
use Rattle.edi_explain.proofs.known.known_refusals_are_explained.Goals as goal

pub returns-clause-page : goal.returns-clause-page
unfolding digits
returns-clause-page c = λ text parts. rw (parts.rule_is, parts.sentence_is, parts.reason_is, parts.cause_is, parts.remedy_is) refl

pub returns-clause-record_lines : goal.returns-clause-record_lines
unfolding digits chars encode_utf8 is_utf8
returns-clause-record_lines c = refl

pub returns-clause-line_lines : goal.returns-clause-line_lines
unfolding digits chars encode_utf8 is_utf8
returns-clause-line_lines c = refl
