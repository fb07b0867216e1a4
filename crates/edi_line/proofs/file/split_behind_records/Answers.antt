use Rattle.std.proofs.Common.{◌∙◌, subst, sym}
use Rattle.edi_line.specs.inner.FilePieces.{EndsInFeed}
use Rattle.edi_line.proofs.FilePieces.{ends_at}
use Rattle.edi_line.proofs.file.split_behind_records.Goals as goal

pub returns-clause-ended : goal.returns-clause-ended
returns-clause-ended c = subst EndsInFeed (sym c.split_at-2.ensures.front) (ends_at c.args.bytes.now c.split_at.result.1.now _ c.in_ok-feed.feed c.split_at.ensures.back (sym c.feed_in.ensures ∙ c.in_ok-feed.was))
