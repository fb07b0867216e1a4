use Rattle.std.proofs.Common.{codes}
use Rattle.std.proofs.lemmas.Result.{on_ok_weaker}
use Rattle.edi_picture.specs.Frames.{pixels}
use Rattle.edi_line.specs.Number.{size_text}
use Rattle.edi_picture.proofs.Joined.{joined4}
use Rattle.edi_picture.proofs.legend.push_bar_line.Goals as goal

pub returns : goal.returns
returns c = on_ok_weaker c.push_millionths.result
    (joined4 c.args.text.now.items (codes "<path fill='none' stroke='black' stroke-width='") (pixels c.args.frame.now 3) (codes "' d='M0,0h") (size_text c.args.bar)
    c.put.new.text.items c.push_pixels.new.text.items c.put-2.new.text.items c.push_millionths.new.text.items
    c.in_ok-put.ensures c.in_ok-push_pixels.ensures c.in_ok-put-2.ensures)
    c.push_millionths.ensures
