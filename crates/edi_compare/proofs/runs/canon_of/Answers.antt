use Rattle.edi_compare.specs.Runs.{IsCanonOf}
use Rattle.edi_compare.proofs.ThreeKnown.{known_ok, known_err, through}
use Rattle.edi_compare.proofs.runs.canon_of.Goals as goal

pub returns-clause-ok : goal.returns-clause-ok
returns-clause-ok g c =
    known_ok c.canon_or_fault.result (g.S.ByteIn.contents c.args.scd.now) (g.D.ByteIn.contents c.args.dic.now) (g.V.ByteIn.contents c.args.vec.now)
    c.deref.result.now c.deref-2.result.now c.in_ok-vec.vec (λ out s d v. IsCanonOf c.args.kinds.now s d v out.items)
    (through _ _ _ c.deref.ensures.value c.in_ok-scd.ensures.all) (through _ _ _ c.deref-2.ensures.value c.in_ok-dic.ensures.all)
    c.in_ok-vec.ensures.all c.canon_or_fault.ensures.ok

pub returns-clause-err : goal.returns-clause-err
returns-clause-err g c =
    known_err c.args.kinds.now c.canon_or_fault.result (g.S.ByteIn.contents c.args.scd.now) (g.D.ByteIn.contents c.args.dic.now) (g.V.ByteIn.contents c.args.vec.now)
    c.deref.result.now c.deref-2.result.now c.in_ok-vec.vec _ _ _
    (through _ _ _ c.deref.ensures.value c.in_ok-scd.ensures.all) (through _ _ _ c.deref-2.ensures.value c.in_ok-dic.ensures.all)
    c.in_ok-vec.ensures.all c.canon_or_fault.ensures.err
