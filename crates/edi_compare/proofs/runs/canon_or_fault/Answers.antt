use Rattle.edi_line.specs.FileBytes.{file_bytes}
use Rattle.edi_compare.specs.Faults.{of_first, of_pair}
use Rattle.edi_compare.specs.inner.Runs.{OneSheetFault}
use Rattle.edi_compare.proofs.PairFaults.{sheet_fault}
use Rattle.edi_compare.proofs.Refusals.{err_kept}
use Rattle.edi_compare.proofs.runs.canon_or_fault.Goals as goal

pub returns-in_err-canonical-clause-err : goal.returns-in_err-canonical-clause-err
returns-in_err-canonical-clause-err c =
    let f = c.in_err-canonical.field-0.0 in
    let b = file_bytes c.args.vec in
    err_kept _ (of_pair (of_first f)) (OneSheetFault c.args.kinds.now c.args.scd.now c.args.dic.now b) c.from_residual-in_err-canonical.ensures.1
    (sheet_fault c.args.kinds.now c.args.scd.now c.args.dic.now b c.in_ok-schema.schema f c.in_ok-schema.ensures.ok c.in_err-canonical.ensures.refusal)
