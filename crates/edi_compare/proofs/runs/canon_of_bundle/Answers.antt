use Rattle.edi_compare.specs.Runs.{IsCanonOf}
use Rattle.edi_compare.proofs.ThreeKnown.{some_ok, some_err, through}
use Rattle.edi_compare.proofs.runs.canon_of_bundle.Goals as goal

pub returns-clause-ok : goal.returns-clause-ok
returns-clause-ok g c =
    some_ok c.canon_of_parts.result (g.R.ByteIn.contents c.args.reader.now) c.deref.result.now (λ out s d v. IsCanonOf c.args.kinds.now s d v out.items)
    (through _ _ _ c.deref.ensures.value c.in_ok-bundle.ensures.all) c.canon_of_parts.ensures.ok

pub returns-clause-err : goal.returns-clause-err
returns-clause-err g c =
    some_err c.args.kinds.now c.canon_of_parts.result (g.R.ByteIn.contents c.args.reader.now) c.deref.result.now _ _ _
    (through _ _ _ c.deref.ensures.value c.in_ok-bundle.ensures.all) c.canon_of_parts.ensures.err
