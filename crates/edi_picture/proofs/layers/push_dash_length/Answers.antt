use Rattle.std.proofs.Common.{codes}
use Rattle.std.proofs.lemmas.Result.{on_ok_weaker}
use Rattle.edi_picture.specs.Frames.{pixels}
use Rattle.edi_picture.proofs.Joined.{joined3}
use Rattle.edi_picture.proofs.layers.push_dash_length.Goals as goal

pub returns : goal.returns
returns c = on_ok_weaker c.put-2.result
    (joined3 c.args.text.now.items (codes "' stroke-dasharray='") (pixels c.args.frame.now 6) (codes "'>\n")
    c.put.new.text.items c.push_pixels.new.text.items c.put-2.new.text.items
    c.in_ok-put.ensures c.in_ok-push_pixels.ensures)
    c.put-2.ensures
