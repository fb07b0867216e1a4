use Rattle.std.proofs.Common.{◌∙◌, ◌+◌, ◌-◌, List, ℕ, take, drop, sym, arith}
use Rattle.std.proofs.lemmas.Slice.Eq.{bytes_eq-Decides}
use Rattle.edi_compare.proofs.Differing.{fronts_equal}
use Rattle.edi_compare.proofs.difference.equal_front.Goals as goal

pub loop-at-preserved : goal.loop-at-preserved
loop-at-preserved c =
    let at = c.loop-at.at in
    let run : List ℕ → List ℕ = λ bytes. take (at + 64 - at) (drop at bytes) in
    let same = (bytes_eq-Decides (run c.args.first.now) (run c.args.second.now)).0 (sym c.eq.ensures ∙ c.if-eq.true) in
    let more = fronts_equal c.args.first.now c.args.second.now at (at + 64) (omega arith) c.loop-at.invariant.1 same in
    (omega (arith, c.loop-at-test.true, c.loop-at.invariant.0), more)
