use Rattle.std.proofs.Common.{◌∙◌, ◌++◌, ℕ, List, sym, subst, ap, ap₂, arith, map}
use Rattle.std.specs.List.{slice_index}
use Rattle.std.specs.Prelude.{flat_map}
use Rattle.edi_line.specs.Printing.{printed}
use Rattle.edi_plan.specs.Plans.{IsPlace}
use Rattle.edi_plan.specs.declared.record.PlanEnd.{PlanEnd}
use Rattle.edi_rank.specs.EndOrder.{ends_at, no_end}
use Rattle.edi_rank.specs.Keys.{numbered}
use Rattle.edi_rank.specs.Labelling.{number_of}
use Rattle.edi_rank.proofs.OthersSorted.{end_there, length-ends_at, take_whole}
use Rattle.edi_write.specs.inner.Numbered.{numbered_end_zones}
use Rattle.edi_write.proofs.EndsWritten.{ends_more}
use Rattle.edi_write.proofs.links.write_others.Goals as goal

pub numbered_end-requires-clause-place : goal.numbered_end-requires-clause-place
numbered_end-requires-clause-place c = subst (λ (e : PlanEnd). IsPlace c.args.plan.now e.target) (sym c.end_in_order-end.ensures)
    (end_there (λ e. IsPlace c.args.plan.now e.target) c.args.order.now c.args.others.now c.requires.order c.requires.there c.loop-index.index (omega (arith, c.loop-index-test.true)))

pub loop-index-preserved : goal.loop-index-preserved
loop-index-preserved c =
    let p = c.args.plan.now in
    let long = length-ends_at c.args.order.now c.args.others.now c.requires.order in
    ends_more numbered_end_zones (numbered p (number_of c.args.labels.now)) (ends_at c.args.order.now c.args.others.now) c.loop-index.index no_end c.args.page.now.file.items c.loop-index.page.file.items c.write_end.new.page.file.items
    (omega (arith, long, c.loop-index-test.true)) c.loop-index.invariant
    (c.in_ok-write_end.ensures ∙ ap (λ k. c.loop-index.page.file.items ++ printed (numbered_end_zones k))
    (c.numbered_end.ensures ∙ ap₂ (λ (ns : List ℕ) (e : PlanEnd). numbered p (slice_index ns) e) c.numbers.ensures c.end_in_order-end.ensures))

pub returns : goal.returns
returns c =
    let long = length-ends_at c.args.order.now c.args.others.now c.requires.order in
    c.loop-index.invariant ∙ ap (λ xs. c.args.page.now.file.items ++ printed (flat_map numbered_end_zones (map (numbered c.args.plan.now (number_of c.args.labels.now)) xs)))
    (take_whole (ends_at c.args.order.now c.args.others.now) c.loop-index.index (omega (arith, long, c.loop-index-test.false)))
