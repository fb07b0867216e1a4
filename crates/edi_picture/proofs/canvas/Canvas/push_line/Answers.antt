use Rattle.std.proofs.Common.{[], codes}
use Rattle.std.proofs.lemmas.Result.{on_ok_weaker}
use Rattle.edi_picture.specs.Elements.{spots_text}
use Rattle.edi_picture.specs.Titles.{title_text}
use Rattle.edi_picture.proofs.Joined.{joined5}
use Rattle.edi_picture.proofs.canvas.Canvas.push_line.Goals as goal

pub returns : goal.returns
returns c =
    let sheet = c.args.sheet.now in
    on_ok_weaker c.put-3.result
    (joined5 c.args.text.now.items (codes "<polyline points='") (spots_text c.args.self.now.frame sheet c.args.place) (codes "'>")
    (title_text c.args.self.now.schema.now sheet c.args.place []) (codes "</polyline>\n")
    c.put.new.text.items c.push_spots.new.text.items c.put-2.new.text.items c.push_title.new.text.items c.put-3.new.text.items
    c.in_ok-put.ensures c.in_ok-push_spots.ensures c.in_ok-put-2.ensures c.in_ok-push_title.ensures)
    c.put-3.ensures
