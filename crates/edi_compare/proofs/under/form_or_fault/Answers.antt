use Rattle.edi_compare.specs.Faults.{of_first, of_pair}
use Rattle.edi_compare.specs.inner.Under.{UnderSchema}
use Rattle.edi_compare.proofs.PairFaults.{under_fault}
use Rattle.edi_compare.proofs.Refusals.{err_kept}
use Rattle.edi_compare.proofs.under.form_or_fault.Goals as goal

pub returns-in_err-canonical-clause-err : goal.returns-in_err-canonical-clause-err
returns-in_err-canonical-clause-err c =
    let f = c.in_err-canonical.field-0.0 in
    err_kept _ (of_pair (of_first f)) (UnderSchema c.args.schema.now c.args.vec) c.from_residual.ensures.1
    (under_fault c.args.schema.now c.args.vec f c.in_err-canonical.ensures.refusal)
