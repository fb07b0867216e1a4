use Rattle.std.proofs.Common.{codes, ◌++◌, ◌∙◌, ap}
use Rattle.std.proofs.lemmas.Result.{on_ok_weaker}
use Rattle.edi_picture.specs.Frames.{pixels}
use Rattle.edi_picture.specs.Marks.{colour, stroke_width}
use Rattle.edi_picture.proofs.Joined.{joined4}
use Rattle.edi_picture.proofs.layers.push_arcs_begin.Goals as goal

pub returns : goal.returns
returns c = on_ok_weaker c.push_pixels.result
    (λ e. joined4 c.args.text.now.items (codes "<g fill='none' stroke-linejoin='round' stroke='") (colour c.args.ink) (codes "' stroke-width='") (pixels c.args.frame.now (stroke_width c.args.ink))
    c.put.new.text.items c.put-2.new.text.items c.put-3.new.text.items c.push_pixels.new.text.items
    c.in_ok-put.ensures (c.in_ok-put-2.ensures ∙ ap (λ x. c.put.new.text.items ++ x) c.colour.ensures) c.in_ok-put-3.ensures (e ∙ ap (λ x. c.put-3.new.text.items ++ pixels c.args.frame.now x) c.stroke_width.ensures))
    c.push_pixels.ensures
