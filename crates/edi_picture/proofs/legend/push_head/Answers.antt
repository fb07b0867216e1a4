use Rattle.std.proofs.Common.{codes}
use Rattle.std.proofs.lemmas.Result.{on_ok_weaker}
use Rattle.std.specs.Prelude.{decimal}
use Rattle.edi_picture.proofs.Joined.{joined5}
use Rattle.edi_picture.proofs.legend.push_head.Goals as goal

pub returns : goal.returns
returns c = on_ok_weaker c.put-3.result
    (joined5 c.args.text.now.items (codes "<svg xmlns='http://www.w3.org/2000/svg' font-family='sans-serif' font-size='14' viewBox='0 0 1000 ") (decimal c.args.height) (codes "'>\n<rect width='1000' height='") (decimal c.args.height) (codes "' fill='white'/>\n")
    c.put.new.text.items c.push_number.new.text.items c.put-2.new.text.items c.push_number-2.new.text.items c.put-3.new.text.items
    c.in_ok-put.ensures c.in_ok-push_number.ensures c.in_ok-put-2.ensures c.in_ok-push_number-2.ensures)
    c.put-3.ensures
