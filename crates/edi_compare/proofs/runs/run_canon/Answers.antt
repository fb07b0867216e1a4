use Rattle.edi_compare.specs.Runs.{IsCanonOf}
use Rattle.edi_compare.proofs.ThreeKnown.{known_map, writes_all, writes_first}
use Rattle.edi_compare.proofs.runs.run_canon.Goals as goal

pub returns-in-Ok-clause-ok : goal.returns-in-Ok-clause-ok
returns-in-Ok-clause-ok g c =
    known_map (g.S.ByteIn.contents c.args.scd.now) (g.D.ByteIn.contents c.args.dic.now) (g.V.ByteIn.contents c.args.vec.now)
    (λ s d v. IsCanonOf c.args.kinds.now s d v c.in_ok-bytes.bytes.items) _
    (λ s d v h. writes_all c.args.kinds.now s d v c.in_ok-bytes.bytes.items c.deref.result.now _ _ c.deref.ensures.value h c.in-Ok.ensures.ok)
    c.in_ok-bytes.ensures.ok

pub returns-clause-err : goal.returns-clause-err
returns-clause-err g c = (
  c.in-Err.ensures.failed,
  known_map (g.S.ByteIn.contents c.args.scd.now) (g.D.ByteIn.contents c.args.dic.now) (g.V.ByteIn.contents c.args.vec.now)
      (λ s d v. IsCanonOf c.args.kinds.now s d v c.in_ok-bytes.bytes.items) _
      (λ s d v h. writes_first c.args.kinds.now s d v c.in_ok-bytes.bytes.items c.deref.result.now _ _ _ c.deref.ensures.value h c.in-Err.ensures.err)
      c.in_ok-bytes.ensures.ok,
)
