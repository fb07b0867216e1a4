use Rattle.std.proofs.Common.{◌+◌, ◌++◌, ◌∙◌, ap}
use Rattle.std.proofs.lemmas.Result.{on_ok_weaker}
use Rattle.edi_picture.specs.Legends.{bar_text, far_text, legend_height}
use Rattle.edi_picture.specs.Pictures.{labels_text, plan_bottom, plan_text, plan_top}
use Rattle.edi_picture.proofs.Joined.{joined4}
use Rattle.edi_picture.proofs.drawing.push_drawn.Goals as goal

pub returns : goal.returns
returns c = on_ok_weaker c.push_far.result
    (λ e. joined4 c.args.text.now.items (bar_text c.args.canvas.now.frame (legend_height c.args.sheets.now + 10) c.args.bar) (plan_text c.args.canvas.now.schema.now c.args.canvas.now.frame c.args.sheets.now (plan_top c.args.sheets.now))
    (labels_text c.args.canvas.now.frame c.args.sheets.now (plan_top c.args.sheets.now)) (far_text c.args.canvas.now.schema.now c.args.canvas.now.frame c.args.sheets.now (plan_bottom c.args.sheets.now c.args.canvas.now.frame + 22))
    c.push_bar.new.text.items c.push_plan.new.text.items c.push_label_layer.new.text.items c.push_far.new.text.items
    (c.in_ok-push_bar.ensures ∙ ap (λ h. c.args.text.now.items ++ bar_text c.args.canvas.now.frame (h + 10) c.args.bar) c.legend_height-height.ensures.height)
    (c.in_ok-push_plan.ensures ∙ ap (λ t. c.push_bar.new.text.items ++ plan_text c.args.canvas.now.schema.now c.args.canvas.now.frame c.args.sheets.now t) c.plan_top-top.ensures.top)
    (c.in_ok-push_label_layer.ensures ∙ ap (λ t. c.push_plan.new.text.items ++ labels_text c.args.canvas.now.frame c.args.sheets.now t) c.plan_top-top.ensures.top)
    (e ∙ ap (λ b. c.push_label_layer.new.text.items ++ far_text c.args.canvas.now.schema.now c.args.canvas.now.frame c.args.sheets.now (b + 22)) c.plan_bottom.ensures.bottom))
    c.push_far.ensures
