use Rattle.edi_compare.specs.Runs.{IsCanonOf}
use Rattle.edi_compare.proofs.ThreeKnown.{parts_ok, parts_err}
use Rattle.edi_compare.proofs.runs.canon_of_parts.Goals as goal

pub returns-clause-ok : goal.returns-clause-ok
returns-clause-ok c =
    parts_ok c.canon_or_fault.result c.args.bundle.now _ _ _ (λ out s d v. IsCanonOf c.args.kinds.now s d v out.items) c.bundle_of-files.ensures c.canon_or_fault.ensures.ok

pub returns-clause-err : goal.returns-clause-err
returns-clause-err c = parts_err c.args.kinds.now c.canon_or_fault.result c.args.bundle.now _ _ _ c.bundle_of-files.ensures c.canon_or_fault.ensures.err
