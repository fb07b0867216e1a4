use Rattle.std.proofs.Common.{◌≡◌, suc, arith}
use Rattle.std.specs.Prelude.{option_copied}
use Rattle.edi_census.proofs.ListedLines.{got, site_known}
use Rattle.edi_census.proofs.listing.site_at.Goals as goal

pub returns : goal.returns
returns c = λ zones are.
    let place = c.in_ok-place.place in
    let number : c.args.number ≡ suc place = omega (arith, c.in_ok-place.ensures.0, c.in_ok-place.ensures.1) in
    let found = c.get.ensures.lookup in
    site_known zones c.args.sites.now c.args.number place (option_copied c.get.result) number are (got c.get.result c.args.sites.now place found.3 found.1)
