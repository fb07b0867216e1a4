use Rattle.std.proofs.Common.{◌≡◌, ◌∙◌, inl, refl, sym, subst, arith, get_or}
use Rattle.std.specs.Prelude.{max}
use Rattle.edi_answers.specs.Effects.{effects, written}
use Rattle.edi_answers.specs.Statuses.{IsSheetStatus}
use Rattle.edi_answers.proofs.Answering.{max_status, ord_max_is}
use Rattle.edi_deliveries.specs.Deliveries.{IsLotAnswered}
use Rattle.edi_deliveries.proofs.Steps.{Completes, all_done, none_so_far, one_more}
use Rattle.edi_deliveries.proofs.lots.LotAnswerer.answer_each.Goals as goal

pub loop-lot-init : goal.loop-lot-init
loop-lot-init g c =
    let says = IsLotAnswered (effects g.F.Folder g.F.Reader.ByteIn g.F.Sink.ByteOut g.F.NewFile.ByteOut c.args.self.now.folder.now c.args.self.now.folder.now) c.args.self.now.kinds.now c.args.self.now.before.now c.args.self.now.names.now in
    (none_so_far says c.args.lots.now (g.O.ByteOut.contents c.args.out.now) (g.E.ByteOut.contents c.args.err.now) (g.O.ByteOut.has_failed c.args.out.now) (g.E.ByteOut.has_failed c.args.err.now), inl refl, λ t. t, λ t. t)

pub loop-lot-preserved : goal.loop-lot-preserved
loop-lot-preserved g c =
    let says = IsLotAnswered (effects g.F.Folder g.F.Reader.ByteIn g.F.Sink.ByteOut g.F.NewFile.ByteOut c.args.self.now.folder.now c.args.self.now.folder.now) c.args.self.now.kinds.now c.args.self.now.before.now c.args.self.now.names.now in
    let worst : c.max-worst.result ≡ max c.loop-lot.worst c.answer_lot-status.result = c.max-worst.ensures ∙ ord_max_is c.loop-lot.worst c.answer_lot-status.result in
    let o = g.O.ByteOut.contents c.args.out.now in
    let e = g.E.ByteOut.contents c.args.err.now in
    let told : says (get_or c.args.lots.now c.loop-lot.lot-index c.lot-item.result) (written g.O.ByteOut c.loop-lot.out c.answer_lot-status.new.out)
    (written g.E.ByteOut c.loop-lot.err c.answer_lot-status.new.err) c.answer_lot-status.result =
    subst (λ lot. says lot (written g.O.ByteOut c.loop-lot.out c.answer_lot-status.new.out) (written g.E.ByteOut c.loop-lot.err c.answer_lot-status.new.err) c.answer_lot-status.result)
    c.lot-item.is c.answer_lot-status.ensures.answer in
    let more = one_more says c.args.lots.now o e c.loop-lot.lot-index c.lot-item.result (g.O.ByteOut.contents c.loop-lot.out) (g.E.ByteOut.contents c.loop-lot.err)
    (g.O.ByteOut.contents c.answer_lot-status.new.out) (g.E.ByteOut.contents c.answer_lot-status.new.err)
    (g.O.ByteOut.has_failed c.loop-lot.out) (g.E.ByteOut.has_failed c.loop-lot.err) (g.O.ByteOut.has_failed c.answer_lot-status.new.out) (g.E.ByteOut.has_failed c.answer_lot-status.new.err)
    c.loop-lot.worst c.answer_lot-status.result c.loop-lot-test.true c.loop-lot.invariant.0 told c.answer_lot-status.ensures.out_stays c.answer_lot-status.ensures.err_stays in (
      subst (Completes says c.args.lots.now _ o e _ _ _ _) (sym worst) more,
      subst IsSheetStatus (sym worst) (max_status c.loop-lot.worst c.answer_lot-status.result c.loop-lot.invariant.1 c.answer_lot-status.ensures.status),
      λ t. c.answer_lot-status.ensures.out_stays (c.loop-lot.invariant.2 t),
      λ t. c.answer_lot-status.ensures.err_stays (c.loop-lot.invariant.3 t),
    )

pub returns-clause-answer : goal.returns-clause-answer
returns-clause-answer g c =
    all_done _ c.args.lots.now _ _ c.loop-lot.lot-index _ _ _ _ c.loop-lot.worst (omega arith) c.loop-lot.invariant.0
