use Rattle.std.proofs.Common.{codes}
use Rattle.std.proofs.lemmas.Result.{on_ok_weaker}
use Rattle.edi_line.specs.Number.{size_text}
use Rattle.std.specs.Prelude.{decimal}
use Rattle.edi_picture.proofs.Joined.{joined5}
use Rattle.edi_picture.proofs.legend.push_bar_words.Goals as goal

pub returns : goal.returns
returns c = on_ok_weaker c.put-3.result
    (joined5 c.args.text.now.items (codes "<text x='20' y='") (decimal c.args.top) (codes "'>") (size_text c.args.bar) (codes " unit(s)</text>\n")
    c.put.new.text.items c.push_number.new.text.items c.put-2.new.text.items c.push_millionths.new.text.items c.put-3.new.text.items
    c.in_ok-put.ensures c.in_ok-push_number.ensures c.in_ok-put-2.ensures c.in_ok-push_millionths.ensures)
    c.put-3.ensures
