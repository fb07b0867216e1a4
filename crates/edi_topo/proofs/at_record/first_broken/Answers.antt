use Rattle.std.proofs.Common.{◌≡◌, ℕ, ◌+◌, ◌<◌, ◌⊎◌, inl, inr, arith, sym, subst, add-one}
use Rattle.std.proofs.lemmas.Bool.{cases_order}
use Rattle.edi_line.specs.Refusal.{IsLeastBroken}
use Rattle.edi_topo.specs.inner.AtRecord.{IsUnbrokenAt}
use Rattle.edi_topo.specs.TopologyRules.{BreaksTopologyRule}
use Rattle.edi_topo.proofs.AtPlaces.{ahead_more, first_is_least, none_is_broken}
use Rattle.edi_topo.proofs.at_record.first_broken.Goals as goal

pub returns-in-Some : goal.returns-in-Some
returns-in-Some c =
    subst (IsLeastBroken (BreaksTopologyRule c.args.plan.now) c.in-Some.rule) (sym (add-one c.loop-place.place))
    (first_is_least c.args.plan.now c.loop-place.place c.in-Some.rule c.in-Some.ensures c.loop-place.invariant.before)

pub loop-place-preserved : goal.loop-place-preserved
loop-place-preserved c = record {
  before = λ k h. go k h (cases_order k c.loop-place.place);
  ahead = ahead_more c.args.plan.now c.args.findings.now c.loop-place.place c.requires.findings c.loop-place.invariant.ahead c.in_default.ensures;
}
  where
    go : (k : ℕ) → k < c.loop-place.place + 1 → (k ≡ c.loop-place.place) ⊎ ((k < c.loop-place.place) ⊎ (c.loop-place.place < k)) → IsUnbrokenAt c.args.plan.now k
    go k h (inl e) = subst (IsUnbrokenAt c.args.plan.now) (sym e) c.in_default.ensures
    go k h (inr (inl less)) = c.loop-place.invariant.before k less
    go k h (inr (inr more)) = absurd (omega (arith, h, more))

pub returns : goal.returns
returns c = none_is_broken c.args.plan.now c.loop-place.place (λ k h. omega (arith, h, c.len-place-end.ensures, c.loop-place-test.false)) c.loop-place.invariant.before
