use Rattle.std.proofs.Common.{codes, ◌++◌, ◌∙◌, ap}
use Rattle.std.proofs.lemmas.Result.{on_ok_weaker}
use Rattle.std.specs.Prelude.{decimal}
use Rattle.edi_picture.specs.Frames.{plan_height}
use Rattle.edi_picture.proofs.Joined.{joined3}
use Rattle.edi_picture.proofs.legend.push_inset_height.Goals as goal

pub returns : goal.returns
returns c = on_ok_weaker c.put-2.result
    (joined3 c.args.text.now.items (codes "' width='960' height='") (decimal (plan_height c.args.frame.now)) (codes "' overflow='visible' preserveAspectRatio='xMinYMin' viewBox='0 0 ")
    c.put.new.text.items c.push_number.new.text.items c.put-2.new.text.items
    c.in_ok-put.ensures (c.in_ok-push_number.ensures ∙ ap (λ x. c.put.new.text.items ++ decimal x) c.plan_height.ensures.height))
    c.put-2.ensures
