use Rattle.std.proofs.Common.{codes}
use Rattle.std.proofs.lemmas.Result.{on_ok_weaker}
use Rattle.std.specs.List.{flat_map}
use Rattle.edi_picture.specs.Labels.{sheet_labels}
use Rattle.edi_picture.proofs.Joined.{joined3}
use Rattle.edi_picture.proofs.layers.push_label_layer.Goals as goal

pub returns : goal.returns
returns c = on_ok_weaker c.put-2.result
    (joined3 c.args.text.now.items (codes "<g text-anchor='middle' font-size='12'>\n") (flat_map (sheet_labels c.args.canvas.now.frame c.args.top) c.args.sheets.now) (codes "</g>\n")
    c.put.new.text.items c.push_each_label.new.text.items c.put-2.new.text.items
    c.in_ok-put.ensures c.in_ok-push_each_label.ensures)
    c.put-2.ensures
