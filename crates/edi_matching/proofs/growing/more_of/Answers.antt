use Rattle.std.proofs.Common.{ℕ, ◌∙◌, ◌⊎◌, inr, ap, length, subst}
use Rattle.std.proofs.lemmas.Result.{IfOk-weaker}
use Rattle.edi_plan.specs.Plans.{PlanData}
use Rattle.edi_matching.specs.declared.matching.Matching.{Matching}
use Rattle.edi_matching.specs.inner.Inverses.{IsInverse, IsMore, IsMoreBackwards}
use Rattle.edi_matching.proofs.growing.more_of.Goals as goal

pub returns : goal.returns
returns c =
    let m = c.args.matching.now in
    let back = c.in_ok-back.back in
    let more = c.in_ok-more.more in
    let first = length c.args.first.now.list in
    let second = length c.args.second.now.list in
    let inverse = subst (λ (n : ℕ). IsInverse m n 4294967295 back) (c.len.ensures ∙ ap (λ (d : PlanData). length d.list) c.plan-2.ensures.plan) c.in_ok-back.ensures in
    IfOk-weaker c.inverse-2.result (IsInverse more c.len-2.result 4294967295) (λ (x : Matching). IsMore m x ⊎ IsMoreBackwards first second m x)
    (λ x again. inr (record {
      back = back;
      more_back = more;
      inverse = inverse;
      adds = c.in_ok-more.ensures;
      again = subst (λ (n : ℕ). IsInverse more n 4294967295 x) (c.len-2.ensures ∙ ap (λ (d : PlanData). length d.list) c.plan.ensures.plan) again;
    }))
    c.inverse-2.ensures
