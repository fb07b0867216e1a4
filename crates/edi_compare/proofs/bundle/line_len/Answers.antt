use Rattle.std.proofs.Common.{sym, ◌∙◌}
use Rattle.edi_line.proofs.Cut.{first_at_feed, first_of_one}
use Rattle.edi_compare.proofs.bundle.line_len.Goals as goal

pub returns-in-Some-clause-line : goal.returns-in-Some-clause-line
returns-in-Some-clause-line c = first_at_feed c.args.bytes.now c.in-Some.feed (sym c.feed_in.ensures ∙ c.in-Some.is)

pub returns-in-None-clause-line : goal.returns-in-None-clause-line
returns-in-None-clause-line c = first_of_one c.args.bytes.now c.requires (sym c.feed_in.ensures ∙ c.in-None.is)
