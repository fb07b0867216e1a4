use Rattle.std.proofs.Common.{codes}
use Rattle.std.proofs.lemmas.Result.{on_ok_weaker}
use Rattle.std.specs.Prelude.{decimal}
use Rattle.edi_picture.proofs.Joined.{joined3}
use Rattle.edi_picture.proofs.legend.push_sample_place.Goals as goal

pub returns : goal.returns
returns c = on_ok_weaker c.put-2.result
    (joined3 c.args.text.now.items (codes "<path fill='none' stroke-width='2' d='M20,") (decimal c.args.y) (codes "h30' stroke='")
    c.put.new.text.items c.push_number.new.text.items c.put-2.new.text.items
    c.in_ok-put.ensures c.in_ok-push_number.ensures)
    c.put-2.ensures
