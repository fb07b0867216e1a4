-- The sheet is accepted or refused under the schema.
use Rattle.std.proofs.Common.{inl, inr, ◌∙◌}
use Rattle.edicad_c.proofs.sheets.check.Goals.{in-Ok, in-Err}
use Rattle.edicad_c.proofs.sheets.check.Goals as goal

pub returns : goal.returns
returns c =
    elim c.match-accept.branch [
      | in-Ok w ↦ inl (w.in-Ok.ensures.accepted, w.result-is ∙ w.done.ensures)
      | in-Err w ↦ inr (w.in-Err.fault, w.in-Err.ensures.refusal, w.result-is ∙ w.of_sheet.ensures)
    ]
