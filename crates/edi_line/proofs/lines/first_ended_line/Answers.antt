use Rattle.std.proofs.Common.{sym, ◌∙◌, subst}
use Rattle.edi_line.specs.Lines.{IsEnded}
use Rattle.edi_line.proofs.Cut.{ended_at_feed, none_at_feed}
use Rattle.edi_line.proofs.lines.first_ended_line.Goals as goal

pub returns-in_err-feed-clause-none : goal.returns-in_err-feed-clause-none
returns-in_err-feed-clause-none c = λ _. none_at_feed c.args.bytes.now (sym c.feed_in.ensures ∙ c.in_err-feed.was)

pub returns-clause-ended : goal.returns-clause-ended
returns-clause-ended c = subst IsEnded (sym c.split_at.ensures.front) (ended_at_feed c.args.bytes.now c.in_ok-feed.feed (sym c.feed_in.ensures ∙ c.in_ok-feed.was))
