use Rattle.std.proofs.Common.{◌≡◌, ◌∙◌, ◌<◌, ℕ, List, ap, arith, get_or, inl, length, refl, subst, sym}
use Rattle.std.specs.Prelude.{max}
use Rattle.edi_answers.specs.Effects.{inputs, written}
use Rattle.edi_answers.specs.Statuses.{IsSheetStatus}
use Rattle.edi_answers.proofs.Answering.{max_status, ord_max_is}
use Rattle.edi_deliveries.specs.Found.{IsSheetFound}
use Rattle.edi_deliveries.specs.inner.Finding.{AddsLines, placed_of}
use Rattle.edi_deliveries.proofs.FoundSteps.{CompletesFound, each_found, none_found, one_found}
use Rattle.edi_deliveries.proofs.parts.LotFinder.find_each_sheet.Goals as goal

pub loop-own-init : goal.loop-own-init
loop-own-init g c =
    let found = IsSheetFound (inputs g.F.Folder g.F.Reader.ByteIn c.args.self.now.folder.now) (g.F.Folder.why c.args.self.now.folder.now) c.args.schema.now (placed_of c.args.self.now) in
    (none_found found c.args.self.now.lot.now.vecs c.args.lines.now.items (g.E.ByteOut.contents c.args.err.now) (g.E.ByteOut.has_failed c.args.err.now), inl refl, λ t. t)

pub loop-own-preserved : goal.loop-own-preserved
loop-own-preserved g c =
    let found = IsSheetFound (inputs g.F.Folder g.F.Reader.ByteIn c.args.self.now.folder.now) (g.F.Folder.why c.args.self.now.folder.now) c.args.schema.now (placed_of c.args.self.now) in
    let worst : c.max-worst.result ≡ max c.loop-own.worst c.find_sheet-status.result = c.max-worst.ensures ∙ ord_max_is c.loop-own.worst c.find_sheet-status.result in
    let below = subst (λ (l : List (List ℕ)). c.loop-own.own-index < length l) c.as_slice-own-items.ensures c.loop-own-test.true in
    let same = subst (λ (l : List (List ℕ)). c.own-item.result ≡ get_or l c.loop-own.own-index c.own-item.result) c.as_slice-own-items.ensures c.own-item.is in
    let here = subst (λ x. AddsLines c.loop-own.lines.items c.find_sheet-status.new.lines.items
    (λ l. found x l (written g.E.ByteOut c.loop-own.err c.find_sheet-status.new.err) c.find_sheet-status.result)) same c.find_sheet-status.ensures.found in
    let more = one_found found c.args.self.now.lot.now.vecs c.args.lines.now.items (g.E.ByteOut.contents c.args.err.now) c.loop-own.own-index c.own-item.result
    c.loop-own.lines.items c.find_sheet-status.new.lines.items (g.E.ByteOut.contents c.loop-own.err) (g.E.ByteOut.contents c.find_sheet-status.new.err)
    (g.E.ByteOut.has_failed c.loop-own.err) (g.E.ByteOut.has_failed c.find_sheet-status.new.err)
    c.loop-own.worst c.find_sheet-status.result below c.loop-own.invariant.0 here c.find_sheet-status.ensures.stays in (
      subst (CompletesFound found c.args.self.now.lot.now.vecs _ c.args.lines.now.items _ (g.E.ByteOut.contents c.args.err.now) _ _) (sym worst) more,
      subst IsSheetStatus (sym worst) (max_status c.loop-own.worst c.find_sheet-status.result c.loop-own.invariant.1 c.find_sheet-status.ensures.status),
      λ t. c.find_sheet-status.ensures.stays (c.loop-own.invariant.2 t),
    )

pub returns-clause-found : goal.returns-clause-found
returns-clause-found g c =
    each_found _ c.args.self.now.lot.now.vecs _ _ c.loop-own.own-index _ _ _ c.loop-own.worst (omega (arith, ap (λ (l : List (List ℕ)). length l) c.as_slice-own-items.ensures)) c.loop-own.invariant.0
