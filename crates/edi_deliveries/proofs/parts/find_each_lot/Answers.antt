use Rattle.std.proofs.Common.{◌≡◌, ◌∙◌, arith, inl, refl, subst, sym}
use Rattle.std.specs.Prelude.{max}
use Rattle.edi_delivery.specs.declared.lot.Lot.{Lot}
use Rattle.edi_answers.specs.Effects.{inputs, written}
use Rattle.edi_answers.specs.Statuses.{IsSheetStatus}
use Rattle.edi_answers.proofs.Answering.{max_status, ord_max_is}
use Rattle.edi_deliveries.specs.Found.{IsLotFound, placed}
use Rattle.edi_deliveries.specs.inner.Finding.{AddsLines}
use Rattle.edi_deliveries.proofs.FoundSteps.{CompletesFound, each_found, none_found, one_found}
use Rattle.edi_deliveries.proofs.parts.find_each_lot.Goals as goal

pub loop-lot-init : goal.loop-lot-init
loop-lot-init g c =
    let found = λ (lot : Lot). IsLotFound (inputs g.F.Folder g.F.Reader.ByteIn c.args.folder.now) (g.F.Folder.why c.args.folder.now) c.args.kinds.now (placed c.args.before.now c.args.names.now lot) in
    (none_found found c.args.lots.now c.args.lines.now.items (g.E.ByteOut.contents c.args.err.now) (g.E.ByteOut.has_failed c.args.err.now), inl refl, λ t. t)

pub loop-lot-preserved : goal.loop-lot-preserved
loop-lot-preserved g c =
    let found = λ (lot : Lot). IsLotFound (inputs g.F.Folder g.F.Reader.ByteIn c.args.folder.now) (g.F.Folder.why c.args.folder.now) c.args.kinds.now (placed c.args.before.now c.args.names.now lot) in
    let worst : c.max-worst.result ≡ max c.loop-lot.worst c.find_lot-status.result = c.max-worst.ensures ∙ ord_max_is c.loop-lot.worst c.find_lot-status.result in
    let here = subst (λ x. AddsLines c.loop-lot.lines.items c.find_lot-status.new.lines.items
    (λ l. found x l (written g.E.ByteOut c.loop-lot.err c.find_lot-status.new.err) c.find_lot-status.result)) c.lot-item.is c.find_lot-status.ensures.found in
    let more = one_found found c.args.lots.now c.args.lines.now.items (g.E.ByteOut.contents c.args.err.now) c.loop-lot.lot-index c.lot-item.result
    c.loop-lot.lines.items c.find_lot-status.new.lines.items (g.E.ByteOut.contents c.loop-lot.err) (g.E.ByteOut.contents c.find_lot-status.new.err)
    (g.E.ByteOut.has_failed c.loop-lot.err) (g.E.ByteOut.has_failed c.find_lot-status.new.err)
    c.loop-lot.worst c.find_lot-status.result c.loop-lot-test.true c.loop-lot.invariant.0 here c.find_lot-status.ensures.stays in (
      subst (CompletesFound found c.args.lots.now _ c.args.lines.now.items _ (g.E.ByteOut.contents c.args.err.now) _ _) (sym worst) more,
      subst IsSheetStatus (sym worst) (max_status c.loop-lot.worst c.find_lot-status.result c.loop-lot.invariant.1 c.find_lot-status.ensures.status),
      λ t. c.find_lot-status.ensures.stays (c.loop-lot.invariant.2 t),
    )

pub returns-clause-found : goal.returns-clause-found
returns-clause-found g c =
    each_found _ c.args.lots.now _ _ c.loop-lot.lot-index _ _ _ c.loop-lot.worst (omega arith) c.loop-lot.invariant.0
