use Rattle.std.proofs.Common.{◌≡◌, ◌+◌, subst, arith}
use Rattle.edi_line.specs.AllBroken.{AreAllBroken}
use Rattle.edi_census.specs.inner.Judging.{BreaksBefore}
use Rattle.edi_census.proofs.judging.push_broken.Goals as goal

-- src/judging.rt:48:1
pub returns : goal.returns
returns g c =
    let e : c.loop-rule.rule ≡ c.args.last + 1 = omega (arith, c.loop-rule-test.false, c.loop-rule.auto.rule-end (omega (arith, c.requires.rules))) in
    λ h. subst (λ r. AreAllBroken (BreaksBefore (g.J.Judging.Breaks c.args.records.now) r (c.args.place + 1)) c.loop-rule.list.items) e (c.loop-rule.invariant h)
