use Rattle.edi_deliveries.proofs.FoundSteps.{found_behind}
use Rattle.edi_deliveries.proofs.parts.LotFinder.find_sheets.Goals as goal

pub returns-clause-found : goal.returns-clause-found
returns-clause-found g c =
    found_behind _ _ c.args.lines.now.items c.find_schema-head.new.lines.items c.find_each_sheet-sheets.new.lines.items (g.E.ByteOut.contents c.args.err.now) (g.E.ByteOut.contents c.find_schema-head.new.err)
    (g.E.ByteOut.contents c.find_each_sheet-sheets.new.err) (g.E.ByteOut.has_failed c.find_schema-head.new.err) (g.E.ByteOut.has_failed c.find_each_sheet-sheets.new.err) c.find_schema-head.result c.find_each_sheet-sheets.result c.max.result
    c.find_schema-head.ensures.found c.find_each_sheet-sheets.ensures.found c.find_each_sheet-sheets.ensures.stays c.max.ensures
