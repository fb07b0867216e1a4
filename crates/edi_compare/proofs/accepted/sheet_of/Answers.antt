use Rattle.edi_line.specs.FileBytes.{file_bytes}
use Rattle.edi_compare.specs.Faults.{of_sheet}
use Rattle.edi_compare.specs.Refused.{IsRefusal}
use Rattle.edi_schema.specs.Classes.{Classes}
use Rattle.edi_compare.proofs.Refusals.{err_kept, sheet_fault}
use Rattle.edi_compare.proofs.accepted.sheet_of.Goals as goal

pub returns-in_err-read-clause-refusal : goal.returns-in_err-read-clause-refusal
returns-in_err-read-clause-refusal g c =
    let f = c.in_err-read.field-0.0 in
    let b = file_bytes c.args.bytes in
    err_kept _ (of_sheet f) (λ fault. (s : Classes) → IsRefusal s b fault) c.from_residual.ensures.1
    (λ s. sheet_fault s b f c.in_err-read.ensures.refusal)

pub returns-clause-held : goal.returns-clause-held
returns-clause-held g c s = (c.in_ok-read.ensures.lines, c.in_ok-read.ensures.records)
