use Rattle.std.proofs.Common.{◌∙◌, ◌++◌, ◌∷◌, [], sym, subst, ap, arith, map}
use Rattle.std.specs.List.{slice_index}
use Rattle.edi_plan.specs.Plans.{IsPlace}
use Rattle.edi_plan.specs.declared.record.PlanEnd.{PlanEnd}
use Rattle.edi_rank.specs.EndOrder.{ends_at, no_end}
use Rattle.edi_rank.specs.Keys.{numbered}
use Rattle.edi_rank.proofs.OthersSorted.{end_there, length-ends_at, mapped_more, take_whole}
use Rattle.edi_rank.proofs.link_key.push_others.Goals as goal

pub numbered_end-requires-clause-place : goal.numbered_end-requires-clause-place
numbered_end-requires-clause-place c = subst (λ (e : PlanEnd). IsPlace c.args.plan.now e.target) (sym c.end_in_order-end.ensures)
    (end_there (λ e. IsPlace c.args.plan.now e.target) c.args.order.now c.args.others.now c.requires.order c.requires.places c.loop-index.index (omega (arith, c.loop-index-test.true)))

pub loop-index-preserved : goal.loop-index-preserved
loop-index-preserved c =
    let long = length-ends_at c.args.order.now c.args.others.now c.requires.order in
    let key = numbered c.args.plan.now (slice_index c.args.numbers.now) in
    mapped_more key (ends_at c.args.order.now c.args.others.now) c.loop-index.index no_end c.args.keys.now.items c.loop-index.keys.items c.push.new.self.items (omega (arith, long, c.loop-index-test.true)) c.loop-index.invariant
    (c.in_ok-push.ensures.items ∙ ap (λ k. c.loop-index.keys.items ++ k ∷ []) (c.numbered_end.ensures ∙ ap key c.end_in_order-end.ensures))

pub returns : goal.returns
returns c =
    let long = length-ends_at c.args.order.now c.args.others.now c.requires.order in
    c.loop-index.invariant ∙ ap (λ xs. c.args.keys.now.items ++ map (numbered c.args.plan.now (slice_index c.args.numbers.now)) xs)
    (take_whole (ends_at c.args.order.now c.args.others.now) c.loop-index.index (omega (arith, long, c.loop-index-test.false)))
