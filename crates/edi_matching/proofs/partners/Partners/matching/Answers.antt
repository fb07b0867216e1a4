use Rattle.std.proofs.Common.{◌≡◌, length, ap, subst, arith}
use Rattle.std.proofs.lemmas.List.{length_push}
use Rattle.edi_line.specs.Refusal.{IsUnbroken}
use Rattle.edi_plan.specs.Plans.{PlanData}
use Rattle.edi_plan.specs.Whole.{IsWholePlan}
use Rattle.edi_topo.specs.TopologyRules.{BreaksTopologyRule}
use Rattle.edi_matching.specs.inner.Partners.{TwoPlans}
use Rattle.edi_matching.proofs.PartnersHold.{one_goes_more, partners_known}
use Rattle.edi_matching.proofs.partners.Partners.matching.Goals as goal

pub loop-place-preserved : goal.loop-place-preserved
loop-place-preserved c =
    let to = c.in_ok-push.ensures.items in
    let turned = c.in_ok-push-2.ensures.items in
    let inv = c.loop-place.invariant in
    record {
      to_long = omega (arith, ap length to, length_push c.loop-place.to.items c.in_ok-target.target, inv.to_long);
      turned_long = omega (arith, ap length turned, length_push c.loop-place.turned.items c.in_ok-target.is_turned, inv.turned_long);
      each = one_goes_more c.args.self.now c.loop-place.to.items c.push.new.self.items c.loop-place.turned.items c.push-in-loop-place.new.self.items c.in_ok-target.target c.in_ok-target.is_turned c.loop-place.place
          to turned inv.to_long inv.turned_long inv.each c.in_ok-target.ensures;
    }

pub returns : goal.returns
returns c =
    let inv = c.loop-place.invariant in
    let two = c.args.self.now in
    let here : c.self.inside.plan.now ≡ two.plan = ap (λ (t : TwoPlans). t.plan) c.self.view_is in
    let there : c.self.inside.other.now ≡ two.other = ap (λ (t : TwoPlans). t.other) c.self.view_is in
    let long : length c.self.inside.plan.now.list ≡ length two.plan.list = ap (λ (p : PlanData). length p.list) here in
    let contents =
    partners_known two (subst IsWholePlan here c.keeps.ensures.whole) (subst IsWholePlan there c.keeps-2.ensures.whole) (subst (λ (p : PlanData). IsUnbroken (BreaksTopologyRule p)) here c.self.invariant.0.0)
    c.loop-place.to.items c.loop-place.turned.items c.from_vec.result c.from_vec-2.result c.from_vec.ensures c.from_vec-2.ensures c.loop-place.place
    (omega (arith, long)) inv.to_long inv.turned_long inv.each in
    record { holds = contents.0; partners = contents.1 }
