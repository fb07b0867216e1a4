use Rattle.std.proofs.Common.{◌≡◌, ◌∙◌, inl, refl, sym, subst, arith, ℕ, List, Bor}
use Rattle.std.specs.Prelude.{max}
use Rattle.edi_answers.specs.Effects.{effects}
use Rattle.edi_answers.specs.Statuses.{IsSheetStatus}
use Rattle.edi_answers.proofs.Answering.{max_status, ord_max_is}
use Rattle.edi_deliveries.specs.Deliveries.{IsPathAnswered, listings}
use Rattle.edi_deliveries.proofs.Steps.{Completes, all_done, none_so_far, one_more}
use Rattle.edi_deliveries.proofs.deliveries.answer_paths.Goals as goal

pub loop-path-init : goal.loop-path-init
loop-path-init g c =
    let says = λ (path : Bor (List ℕ)). IsPathAnswered (effects g.F.Folder g.F.Reader.ByteIn g.F.Sink.ByteOut g.F.NewFile.ByteOut c.args.folder.now c.args.folder.now) (listings g.F.Listing c.args.folder.now) c.args.kinds.now path.now in
    (none_so_far says c.args.paths.now (g.O.ByteOut.contents c.args.out.now) (g.E.ByteOut.contents c.args.err.now) (g.O.ByteOut.has_failed c.args.out.now) (g.E.ByteOut.has_failed c.args.err.now), inl refl, λ t. t, λ t. t)

pub loop-path-preserved : goal.loop-path-preserved
loop-path-preserved g c =
    let says = λ (path : Bor (List ℕ)). IsPathAnswered (effects g.F.Folder g.F.Reader.ByteIn g.F.Sink.ByteOut g.F.NewFile.ByteOut c.args.folder.now c.args.folder.now) (listings g.F.Listing c.args.folder.now) c.args.kinds.now path.now in
    let worst : c.max-worst.result ≡ max c.loop-path.worst c.answer_path-status.result = c.max-worst.ensures ∙ ord_max_is c.loop-path.worst c.answer_path-status.result in
    let o = g.O.ByteOut.contents c.args.out.now in
    let e = g.E.ByteOut.contents c.args.err.now in
    let more = one_more says c.args.paths.now o e c.loop-path.path-index _ (g.O.ByteOut.contents c.loop-path.out) (g.E.ByteOut.contents c.loop-path.err)
    (g.O.ByteOut.contents c.answer_path-status.new.out) (g.E.ByteOut.contents c.answer_path-status.new.err)
    (g.O.ByteOut.has_failed c.loop-path.out) (g.E.ByteOut.has_failed c.loop-path.err) (g.O.ByteOut.has_failed c.answer_path-status.new.out) (g.E.ByteOut.has_failed c.answer_path-status.new.err)
    c.loop-path.worst c.answer_path-status.result c.loop-path-test.true c.loop-path.invariant.0 c.answer_path-status.ensures.answer c.answer_path-status.ensures.out_stays c.answer_path-status.ensures.err_stays in (
      subst (Completes says c.args.paths.now _ o e _ _ _ _) (sym worst) more,
      subst IsSheetStatus (sym worst) (max_status c.loop-path.worst c.answer_path-status.result c.loop-path.invariant.1 c.answer_path-status.ensures.status),
      λ t. c.answer_path-status.ensures.out_stays (c.loop-path.invariant.2 t),
      λ t. c.answer_path-status.ensures.err_stays (c.loop-path.invariant.3 t),
    )

pub returns-clause-answer : goal.returns-clause-answer
returns-clause-answer g c =
    all_done _ c.args.paths.now _ _ c.loop-path.path-index _ _ _ _ c.loop-path.worst (omega arith) c.loop-path.invariant.0
