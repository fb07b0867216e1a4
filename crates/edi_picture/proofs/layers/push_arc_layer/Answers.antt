use Rattle.std.proofs.Common.{codes}
use Rattle.std.proofs.lemmas.Result.{on_ok_weaker}
use Rattle.std.specs.List.{flat_map}
use Rattle.edi_record.specs.declared.record.Kind.TheVariants.{Par}
use Rattle.edi_picture.specs.Elements.{drawn_records}
use Rattle.edi_picture.specs.Pictures.{arcs_begin, dashes}
use Rattle.edi_picture.proofs.Joined.{joined4}
use Rattle.edi_picture.proofs.layers.push_arc_layer.Goals as goal

pub returns : goal.returns
returns c = on_ok_weaker c.put.result
    (joined4 c.args.text.now.items (arcs_begin c.args.canvas.now.frame c.args.ink) (dashes c.args.canvas.now.frame c.args.ink) (flat_map (drawn_records Par c.args.canvas.now.schema.now c.args.canvas.now.frame c.args.ink) c.args.sheets.now) (codes "</g>\n")
    c.push_arcs_begin.new.text.items c.push_dashes.new.text.items c.push_all_records.new.text.items c.put.new.text.items
    c.in_ok-push_arcs_begin.ensures c.in_ok-push_dashes.ensures c.in_ok-push_all_records.ensures)
    c.put.ensures
