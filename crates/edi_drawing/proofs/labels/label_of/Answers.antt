use Rattle.std.proofs.Common.{◌∙◌, sym}
use Rattle.edi_drawing.proofs.Labelled.{caller_at}
use Rattle.edi_drawing.proofs.labels.label_of.Goals as goal

pub link_label-requires-clause-link : goal.link_label-requires-clause-link
link_label-requires-clause-link c =
    caller_at c.args.schema.now c.args.plan.now c.args.callers.now c.args.place c.in-Some.link c.requires.callers (sym c.in-Some.is ∙ c.entry_at.ensures)
