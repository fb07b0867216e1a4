use Rattle.std.proofs.Common.{List, ℕ, take}
use Rattle.edi_census.specs.Listed.{ListsBroken}
use Rattle.edi_census.specs.inner.Sited.{HasSitesFor}
use Rattle.edi_census.proofs.listing.lines_by_sites.Given as goal

abbrev pub invariant-loop-it : goal.invariant-loop-it
invariant-loop-it l = (b : List ℕ) → HasSitesFor b l.broken l.sites → ListsBroken b l.name (take l.it-index l.broken) l.text.items
