use Rattle.edi_compare.specs.Headline.{IsFormOf}
use Rattle.edi_compare.proofs.UnderSchema.{one_err, one_ok}
use Rattle.edi_compare.proofs.under.canon_under.Goals as goal

pub returns-clause-ok : goal.returns-clause-ok
returns-clause-ok g c =
    one_ok c.form_or_fault.result (g.V.ByteIn.contents c.args.vec.now) c.in_ok-vec.vec (λ out v. IsFormOf c.args.schema.now v out.items)
    c.in_ok-vec.ensures.all c.form_or_fault.ensures.ok

pub returns-clause-err : goal.returns-clause-err
returns-clause-err g c =
    one_err c.args.schema.now c.form_or_fault.result (g.V.ByteIn.contents c.args.vec.now) c.in_ok-vec.vec _ _
    c.in_ok-vec.ensures.all c.form_or_fault.ensures.err
