use Rattle.std.proofs.Common.{◌≡◌, ◌∙◌, ◌+◌, ◌<◌, ◌++◌, ◌∷◌, [], List, add-one, drop, length, refl, sym, ap, subst, append_assoc, append-nil, arith}
use Rattle.std.proofs.Math.Seq.{drop-cons}
use Rattle.std.proofs.Math.ListN.{drop_of_length-le}
use Rattle.edi_record.specs.LinkEnds.{EndData}
use Rattle.edi_plan.specs.inner.Resolving.{AreGiven}
use Rattle.edi_plan.specs.declared.record.PlanEnd.{PlanEnd}
use Rattle.edi_plan.proofs.RuleLemmas.{given_step, none_there}
use Rattle.edi_plan.proofs.records.plan_ends.Goals as goal

pub loop-place-preserved : goal.loop-place-preserved
loop-place-preserved c =
    let targets = c.args.targets.now in
    let ends = c.args.ends.now in
    let n = c.loop-place.place in
    let e = c.index-ends-place.result in
    let p = c.in_ok-plan_end.field-0 in
    let next : drop n ends ≡ e ∷ drop (n + 1) ends = drop-cons ends n e c.loop-place-test.true ∙ (λ i. sym c.index-ends-place.is i ∷ drop (sym (add-one n) i) ends) in
    let less : n < length targets = subst (λ m. n < m) (sym c.requires.long) c.loop-place-test.true in
    λ (more : List PlanEnd) given.
    subst (AreGiven targets ends) (sym (ap (λ xs. xs ++ more) c.in_ok-push.ensures.items ∙ append_assoc c.loop-place.done.items (p ∷ []) more))
    (c.loop-place.invariant (p ∷ more) (given_step targets n _ c.in-Some.target (drop n ends) (drop (n + 1) ends) e p more less c.in-Some.is next c.in_ok-plan_end.ensures given))

pub returns-in_default-clause-err : goal.returns-in_default-clause-err
returns-in_default-clause-err c =
    let less : c.loop-place.place < length c.args.targets.now = subst (λ m. c.loop-place.place < m) (sym c.requires.long) c.loop-place-test.true in
    (refl, none_there c.args.targets.now c.loop-place.place _ less c.in_default.is)

pub returns-clause-ok : goal.returns-clause-ok
returns-clause-ok c =
    let targets = c.args.targets.now in
    let ends = c.args.ends.now in
    let n = c.loop-place.place in
    let no_target : drop n targets ≡ [] = drop_of_length-le targets (omega (arith, c.requires.long, c.loop-place-test.false)) in
    let no_end : drop n ends ≡ [] = drop_of_length-le ends c.loop-place-test.false in
    subst (AreGiven targets ends) (append-nil c.loop-place.done.items)
    (c.loop-place.invariant [] (subst (λ ts. AreGiven ts (drop n ends) []) (sym no_target) (subst (λ (es : List EndData). AreGiven [] es []) (sym no_end) tt)))
