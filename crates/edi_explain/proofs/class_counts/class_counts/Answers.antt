use Rattle.std.proofs.Common.{◌∙◌, ◌<◌, ℕ, length, subst}
use Rattle.edi_explain.proofs.ClassCounted.{each_more, few_more}
use Rattle.edi_explain.proofs.class_counts.class_counts.Goals as goal

pub loop-place-preserved : goal.loop-place-preserved
loop-place-preserved c =
    let kept = c.loop-place.invariant in
    let old = c.loop-place.counts.items in
    let new = c.count_one.new.counts.items in
    let n = c.loop-place.place in
    let place = c.place.result in
    let one = c.count_one.ensures in
    let there = subst (λ (m : ℕ). n < m) c.len-place-end.ensures c.loop-place-test.true in record {
      long = one.length ∙ kept.long;
      few = few_more old new n place one.length one.each kept.few;
      each = each_more old new n place one.length one.each c.args.plan.now.list (length c.args.schema.now) there (c.place.ensures ∙ c.scp.ensures) kept.long kept.each;
    }
