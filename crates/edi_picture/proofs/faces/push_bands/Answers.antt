use Rattle.std.proofs.Common.{codes}
use Rattle.std.proofs.lemmas.Result.{on_ok_weaker}
use Rattle.std.specs.List.{flat_map}
use Rattle.edi_picture.specs.Faces.{band_text, bands_begin, face_end}
use Rattle.edi_picture.proofs.Joined.{joined3}
use Rattle.edi_picture.proofs.faces.push_bands.Goals as goal

pub returns : goal.returns
returns c = on_ok_weaker c.push_face_end.result
    (joined3 c.args.text.now.items (bands_begin c.args.canvas.now.frame) (flat_map (band_text c.args.canvas.now.frame c.args.sheet.now) c.args.arcs.now)
    (face_end c.args.canvas.now.schema.now c.args.sheet.now c.args.face (codes ", not filled, since its arcs do not close"))
    c.push_bands_begin.new.text.items c.push_each_band.new.text.items c.push_face_end.new.text.items
    c.in_ok-push_bands_begin.ensures c.in_ok-push_each_band.ensures)
    c.push_face_end.ensures
