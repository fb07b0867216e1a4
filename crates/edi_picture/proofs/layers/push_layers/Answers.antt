use Rattle.std.proofs.lemmas.Result.{on_ok_weaker}
use Rattle.edi_picture.specs.Pictures.{all_arcs, all_nodes, arcs_text, faces_text, nodes_text}
use Rattle.edi_picture.specs.declared.mark.Ink.TheVariants.{Grey, New, Old}
use Rattle.edi_picture.proofs.Joined.{joined3}
use Rattle.edi_picture.proofs.layers.push_layers.Goals as goal

pub returns : goal.returns
returns c =
    let s = c.args.canvas.now.schema.now in
    let f = c.args.canvas.now.frame in
    let sheets = c.args.sheets.now in
    let faces = c.push_face_layer.new.text.items in
    let grey = c.push_arc_layer.new.text.items in
    let new = c.push_arc_layer-2.new.text.items in
    let arcs = c.push_arc_layer-3.new.text.items in
    let grey_nodes = c.push_node_layer.new.text.items in
    let old_nodes = c.push_node_layer-2.new.text.items in
    let all = c.push_node_layer-3.new.text.items in
    let arcs_there = joined3 faces (arcs_text s f sheets Grey) (arcs_text s f sheets New) (arcs_text s f sheets Old) grey new arcs
    c.in_ok-push_arc_layer.ensures c.in_ok-push_arc_layer-2.ensures c.in_ok-push_arc_layer-3.ensures in
    on_ok_weaker c.push_node_layer-3.result
    (λ last. joined3 c.args.text.now.items (faces_text s f sheets) (all_arcs s f sheets) (all_nodes s f sheets) faces arcs all c.in_ok-push_face_layer.ensures arcs_there
    (joined3 arcs (nodes_text s f sheets Grey) (nodes_text s f sheets Old) (nodes_text s f sheets New) grey_nodes old_nodes all
    c.in_ok-push_node_layer.ensures c.in_ok-push_node_layer-2.ensures last))
    c.push_node_layer-3.ensures
