use Rattle.edi_line.specs.FileBytes.{file_bytes}
use Rattle.edi_compare.proofs.Headline.{plan_under}
use Rattle.edi_drawing.proofs.drawing.draw_from.Goals as goal

pub picture_of-requires-clause-agrees : goal.picture_of-requires-clause-agrees
picture_of-requires-clause-agrees c =
    (plan_under c.args.schema.now (file_bytes c.args.bytes) c.in_ok-sheet.sheet.accepted c.keeps.ensures c.in_ok-sheet.ensures.accepted c.in_ok-sheet.ensures.plan).agrees
