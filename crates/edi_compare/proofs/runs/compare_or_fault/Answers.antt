use Rattle.edi_line.specs.FileBytes.{file_bytes}
use Rattle.edi_compare.specs.Faults.{of_pair}
use Rattle.edi_compare.specs.inner.Runs.{PairFault}
use Rattle.edi_compare.proofs.PairFaults.{pair_fault}
use Rattle.edi_compare.proofs.Refusals.{err_kept}
use Rattle.edi_compare.proofs.runs.compare_or_fault.Goals as goal

pub returns-in_err-verdict-clause-err : goal.returns-in_err-verdict-clause-err
returns-in_err-verdict-clause-err c =
    let f = c.in_err-verdict.field-0.0 in
    let a = file_bytes c.args.first in
    let b = file_bytes c.args.second in
    err_kept _ (of_pair f) (PairFault c.args.kinds.now c.args.scd.now c.args.dic.now a b) c.from_residual-in_err-verdict.ensures.1
    (pair_fault c.args.kinds.now c.args.scd.now c.args.dic.now a b c.in_ok-schema.schema f c.in_ok-schema.ensures.ok c.in_err-verdict.ensures.refusal)
