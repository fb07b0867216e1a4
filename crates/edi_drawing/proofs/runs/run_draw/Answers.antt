use Rattle.edi_compare.proofs.ThreeKnown.{known_ok, known_err, through}
use Rattle.edi_drawing.specs.UnderFiles.{IsPictureUnder}
use Rattle.edi_drawing.proofs.runs.run_draw.Goals as goal

pub returns-clause-ok : goal.returns-clause-ok
returns-clause-ok g c =
    known_ok c.draw_or_fault.result (g.S.ByteIn.contents c.args.scd.now) (g.D.ByteIn.contents c.args.dic.now) (g.V.ByteIn.contents c.args.vec.now)
    c.deref.result.now c.deref-2.result.now c.in_ok-vec.vec (λ picture s d v. IsPictureUnder c.args.kinds.now c.args.name.now s d v picture.items)
    (through _ _ _ c.deref.ensures.value c.in_ok-scd.ensures.all) (through _ _ _ c.deref-2.ensures.value c.in_ok-dic.ensures.all)
    c.in_ok-vec.ensures.all c.draw_or_fault.ensures.ok

pub returns-clause-err : goal.returns-clause-err
returns-clause-err g c =
    known_err c.args.kinds.now c.draw_or_fault.result (g.S.ByteIn.contents c.args.scd.now) (g.D.ByteIn.contents c.args.dic.now) (g.V.ByteIn.contents c.args.vec.now)
    c.deref.result.now c.deref-2.result.now c.in_ok-vec.vec _ _ _
    (through _ _ _ c.deref.ensures.value c.in_ok-scd.ensures.all) (through _ _ _ c.deref-2.ensures.value c.in_ok-dic.ensures.all)
    c.in_ok-vec.ensures.all c.draw_or_fault.ensures.err
