use Rattle.edi_compare.specs.Runs.{IsSheetUnder}
use Rattle.edi_compare.proofs.ThreeKnown.{known_on, known_err, through}
use Rattle.edi_compare.proofs.runs.run_check.Goals as goal

pub returns-clause-ok : goal.returns-clause-ok
returns-clause-ok g c =
    known_on c.accept_or_fault.result (g.S.ByteIn.contents c.args.scd.now) (g.D.ByteIn.contents c.args.dic.now) (g.V.ByteIn.contents c.args.vec.now)
    c.deref.result.now c.deref-2.result.now c.in_ok-vec.vec (IsSheetUnder c.args.kinds.now)
    (through _ _ _ c.deref.ensures.value c.in_ok-scd.ensures.all) (through _ _ _ c.deref-2.ensures.value c.in_ok-dic.ensures.all)
    c.in_ok-vec.ensures.all c.accept_or_fault.ensures.ok

pub returns-clause-err : goal.returns-clause-err
returns-clause-err g c =
    known_err c.args.kinds.now c.accept_or_fault.result (g.S.ByteIn.contents c.args.scd.now) (g.D.ByteIn.contents c.args.dic.now) (g.V.ByteIn.contents c.args.vec.now)
    c.deref.result.now c.deref-2.result.now c.in_ok-vec.vec _ _ _
    (through _ _ _ c.deref.ensures.value c.in_ok-scd.ensures.all) (through _ _ _ c.deref-2.ensures.value c.in_ok-dic.ensures.all)
    c.in_ok-vec.ensures.all c.accept_or_fault.ensures.err
