use Rattle.std.proofs.Common.{codes}
use Rattle.std.proofs.lemmas.Result.{on_ok_weaker}
use Rattle.std.specs.List.{flat_map}
use Rattle.edi_picture.specs.Faces.{faces_of}
use Rattle.edi_picture.proofs.Joined.{joined3}
use Rattle.edi_picture.proofs.layers.push_face_layer.Goals as goal

pub returns : goal.returns
returns c = on_ok_weaker c.put-2.result
    (joined3 c.args.text.now.items (codes "<g fill='none' fill-rule='evenodd' fill-opacity='0.5' pointer-events='all'>\n") (flat_map (faces_of c.args.canvas.now.schema.now c.args.canvas.now.frame) c.args.sheets.now) (codes "</g>\n")
    c.put.new.text.items c.push_all_faces.new.text.items c.put-2.new.text.items
    c.in_ok-put.ensures c.in_ok-push_all_faces.ensures)
    c.put-2.ensures
