use Rattle.edi_plan.specs.inner.Targets.{IsTargetIfAny}
use Rattle.edi_plan.proofs.TargetLemmas.{zip_taken}
use Rattle.edi_plan.proofs.targets.add_targets.Goals as goal

pub loop-end-preserved : goal.loop-end-preserved
loop-end-preserved c = λ before all.
    zip_taken (IsTargetIfAny c.args.records.now) before c.args.ends.now c.loop-end.end-index c.end-item.result c.loop-end.targets.items c.target_of-target.result c.push.new.self.items c.loop-end-test.true c.end-item.is
    c.in_ok-push.ensures.items (c.loop-end.invariant before all) c.target_of-target.ensures
