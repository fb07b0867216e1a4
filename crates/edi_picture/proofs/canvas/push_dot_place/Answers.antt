use Rattle.std.proofs.Common.{codes}
use Rattle.std.proofs.lemmas.Result.{on_ok_weaker}
use Rattle.edi_picture.specs.Elements.{across_text, down_text}
use Rattle.edi_picture.proofs.Joined.{joined4}
use Rattle.edi_picture.proofs.canvas.push_dot_place.Goals as goal

pub returns : goal.returns
returns c = on_ok_weaker c.push_down.result
    (joined4 c.args.text.now.items (codes "<circle cx='") (across_text c.args.frame.now c.args.point.now) (codes "' cy='") (down_text c.args.frame.now c.args.point.now)
    c.put.new.text.items c.push_across.new.text.items c.put-2.new.text.items c.push_down.new.text.items
    c.in_ok-put.ensures c.in_ok-push_across.ensures c.in_ok-put-2.ensures)
    c.push_down.ensures
