use Rattle.edi_deliveries.proofs.FoundSteps.{found_behind}
use Rattle.edi_deliveries.proofs.parts.LotFinder.find_parts.Goals as goal

pub returns-clause-found : goal.returns-clause-found
returns-clause-found g c =
    found_behind _ _ c.args.lines.now.items c.find_classes-classes.new.lines.items c.find_any_geo-geo.new.lines.items (g.E.ByteOut.contents c.args.err.now) (g.E.ByteOut.contents c.find_classes-classes.new.err)
    (g.E.ByteOut.contents c.find_any_geo-geo.new.err) (g.E.ByteOut.has_failed c.find_classes-classes.new.err) (g.E.ByteOut.has_failed c.find_any_geo-geo.new.err) c.find_classes-classes.result c.find_any_geo-geo.result c.max.result
    c.find_classes-classes.ensures.found c.find_any_geo-geo.ensures.found c.find_any_geo-geo.ensures.stays c.max.ensures
