use Rattle.std.proofs.Common.{sym, subst}
use Rattle.edi_pairing.specs.Names.{AreNames}
use Rattle.edi_pairing.proofs.PlaceLemmas.{name_added}
use Rattle.edi_pairing.proofs.places.PlacesByName.among.Goals as goal

pub loop-name-preserved : goal.loop-name-preserved
loop-name-preserved c =
    name_added c.as_slice-list.result.now (subst AreNames (sym c.as_slice-list.ensures.is) c.as_slice-list.ensures.names) c.loop-name.set.keys c.insert.new.self.keys c.loop-name.name-index c.borrow_name.result c.name-item.result
    c.loop-name-test.true c.loop-name.invariant c.name-item.is c.borrow_name.ensures c.in_ok-insert.ensures.keys
