use Rattle.edi_census.proofs.ListedLines.{listed_next}
use Rattle.edi_census.proofs.listing.lines_by_sites.Goals as goal

pub loop-it-preserved : goal.loop-it-preserved
loop-it-preserved c = λ b sited.
    listed_next b c.args.name.now c.args.broken.now c.loop-it.it-index _ c.args.sites.now c.loop-it.text.items c.push_rule.new.text.items c.loop-it-test.true
    sited (c.loop-it.invariant b sited) (c.in_ok-push_rule.ensures b)
