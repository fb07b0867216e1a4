use Rattle.std.proofs.Common.{◌++◌, ◌∙◌, ap, codes, sym}
use Rattle.std.proofs.lemmas.Result.{on_ok_weaker}
use Rattle.edi_picture.specs.Labels.{label_place}
use Rattle.edi_picture.specs.Titles.{escaped_text}
use Rattle.edi_picture.proofs.Joined.{joined4}
use Rattle.edi_picture.proofs.LabelTexts.{amid_some}
use Rattle.edi_picture.proofs.labels.push_label_amid.Goals as goal

pub returns-in_ok-push_escaped_text-in-len1-up : goal.returns-in_ok-push_escaped_text-in-len1-up
returns-in_ok-push_escaped_text-in-len1-up c =
    let frame = c.args.frame.now in
    let points = c.args.points.now in
    let label = c.args.label.now in
    on_ok_weaker c.put-in-len1-up.result
    (λ last. joined4 c.args.text.now.items (label_place frame c.args.top points) (codes "' dy='0.35em'>") (escaped_text label) (codes "</text>\n")
    c.push_label_place.new.text.items c.put.new.text.items c.push_escaped_text.new.text.items c.put-in-len1-up.new.text.items
    c.in_ok-push_label_place-in-len1-up.ensures c.in_ok-put-in-len1-up.ensures c.in_ok-push_escaped_text-in-len1-up.ensures last
    ∙ ap (λ t. c.args.text.now.items ++ t) (sym (amid_some frame c.args.top points label c.in-len1-up.len_at_least)))
    c.put-in-len1-up.ensures
