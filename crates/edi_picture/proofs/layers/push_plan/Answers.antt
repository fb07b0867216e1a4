use Rattle.std.proofs.Common.{codes}
use Rattle.std.proofs.lemmas.Result.{on_ok_weaker}
use Rattle.edi_picture.specs.Legends.{inset_text}
use Rattle.edi_picture.specs.Pictures.{layers}
use Rattle.edi_picture.proofs.Joined.{joined3}
use Rattle.edi_picture.proofs.layers.push_plan.Goals as goal

pub returns : goal.returns
returns c = on_ok_weaker c.put.result
    (joined3 c.args.text.now.items (inset_text c.args.canvas.now.frame c.args.top) (layers c.args.canvas.now.schema.now c.args.canvas.now.frame c.args.sheets.now) (codes "</svg>\n")
    c.push_inset.new.text.items c.push_layers.new.text.items c.put.new.text.items
    c.in_ok-push_inset.ensures c.in_ok-push_layers.ensures)
    c.put.ensures
