use Rattle.std.proofs.Common.{refl}
use Rattle.edi_deliveries.proofs.FoundSteps.{found_behind, none_added}
use Rattle.edi_deliveries.proofs.parts.LotFinder.find_lot.Goals as goal

pub returns-clause-found : goal.returns-clause-found
returns-clause-found g c =
    found_behind _ _ c.args.lines.now.items c.args.lines.now.items c.find_parts-parts.new.lines.items (g.E.ByteOut.contents c.args.err.now)
    (g.E.ByteOut.contents c.say_missing-missing.new.err) (g.E.ByteOut.contents c.find_parts-parts.new.err) (g.E.ByteOut.has_failed c.say_missing-missing.new.err)
    (g.E.ByteOut.has_failed c.find_parts-parts.new.err) c.say_missing-missing.result c.find_parts-parts.result c.max.result
    (none_added c.args.lines.now.items _ (refl, c.say_missing-missing.ensures.said)) c.find_parts-parts.ensures.found c.find_parts-parts.ensures.stays
    c.max.ensures
