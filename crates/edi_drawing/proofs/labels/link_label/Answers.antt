use Rattle.std.proofs.Common.{◌∙◌, sym}
use Rattle.edi_drawing.proofs.Labelled.{called}
use Rattle.edi_drawing.proofs.labels.link_label.Goals as goal

pub returns-in-Some : goal.returns-in-Some
returns-in-Some c =
    called c.args.schema.now c.args.plan.now c.args.link c.in-Some.object c.ends.result.now c.attributes.result.now c.object_label.result.now
    (sym c.in-Some.is ∙ c.first_object.ensures.object) c.ends.ensures c.attributes.ensures c.object_label.ensures
