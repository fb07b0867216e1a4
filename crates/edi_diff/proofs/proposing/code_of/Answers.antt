use Rattle.std.proofs.Common.{◌∙◌, ap}
use Rattle.edi_diff.specs.inner.Codes.{is_of_second, place_by}
use Rattle.edi_diff.proofs.Coded.{code_is, place_is, sheet_is}
use Rattle.edi_diff.proofs.proposing.code_of.Goals as goal

pub returns-clause-code : goal.returns-clause-code
returns-clause-code c = code_is c.args.place c.args.of_second c.saturating_mul.result c.from.result c.saturating_add.result c.saturating_mul.ensures c.from.ensures c.saturating_add.ensures

pub returns-clause-sheet : goal.returns-clause-sheet
returns-clause-sheet c = λ h.
    ap is_of_second (code_is c.args.place c.args.of_second c.saturating_mul.result c.from.result c.saturating_add.result c.saturating_mul.ensures c.from.ensures c.saturating_add.ensures)
    ∙ sheet_is c.args.place c.args.of_second h

pub returns-clause-place : goal.returns-clause-place
returns-clause-place c = λ h.
    ap place_by (code_is c.args.place c.args.of_second c.saturating_mul.result c.from.result c.saturating_add.result c.saturating_mul.ensures c.from.ensures c.saturating_add.ensures)
    ∙ place_is c.args.place c.args.of_second h
