use Rattle.std.proofs.Common.{refl, None}
use Rattle.edi_line.specs.Feeding.{FeedState}
use Rattle.edi_line.specs.inner.Held.{zoned}
use Rattle.edi_line.proofs.Feeds.{new_holds}
use Rattle.edi_line.proofs.feed.Feed.new.Goals as goal

pub returns-clause-none : goal.returns-clause-none
returns-clause-none c =
    let r = c.new.result in
    let f : FeedState = record { line = r.line; order = r.order; zones = zoned r; pending = c.new-2.result.items; refused = None } in
    new_holds f r (refl, refl, refl) c.new-2.ensures.items c.new.ensures
