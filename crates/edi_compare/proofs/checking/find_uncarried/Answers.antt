use Rattle.std.proofs.Common.{◌≡◌, ◌∙◌, MatchOption, IfOk, subst, arith}
use Rattle.edi_compare.specs.inner.Checking.{PairedPlans, AreCarried, FailsBy}
use Rattle.edi_compare.specs.Uncarried.{HasEntries}
use Rattle.edi_compare.proofs.Stops.{found}
use Rattle.edi_compare.proofs.checking.find_uncarried.Goals as goal

pub returns-clause-none : goal.returns-clause-none
returns-clause-none c =
    let s = c.args.schema.now in
    let p = c.args.first.now in
    let q = c.args.second.now in
    let pairing = c.args.pairing.now in
    let plan : c.plan-plan.result.now ≡ p = c.plan-plan.ensures.plan ∙ c.sound.ensures in
    let other : c.plan-other.result.now ≡ q = c.plan-other.ensures.plan ∙ c.sound-2.ensures in
    let entries : HasEntries p pairing = record {
      all_paired = grind (arith, c.if-to-len.false, c.len.ensures, c.as_slice-to.ensures, plan);
      all_directed = grind (arith, c.if-turned-len.false, c.len-else-to-len.ensures, c.as_slice-turned.ensures, plan);
    } in
    let cse : q.cse ≡ p.cse = grind (arith, c.same_texts.ensures.0 c.if-not-same_texts.false, c.cse.ensures, c.cse-2.ensures, plan, other) in
    found s p q pairing c.first_stop.result entries cse
    (subst (λ (m : PairedPlans). IfOk c.first_stop.result (λ why. MatchOption why (AreCarried m) (FailsBy m)))
    (λ i. record { classes = s; plan = plan i; other = other i; to = c.as_slice-to.ensures i; turned = c.as_slice-turned.ensures i }) c.first_stop.ensures)
