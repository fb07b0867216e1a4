use Rattle.std.proofs.Common.{◌≡◌, ◌∙◌, ◌+◌, [], inl, refl, sym, subst, suc, drop, take}
use Rattle.std.specs.Prelude.{max}
use Rattle.edi_answers.specs.Effects.{inputs, written}
use Rattle.edi_answers.specs.Statuses.{GoesOut, IsSheetStatus}
use Rattle.edi_answers.specs.inner.Census.{AddShares}
use Rattle.edi_answers.proofs.Answering.{appends_nothing, max_status, one_more_path, ord_max_is, paths_of, split_at_path}
use Rattle.edi_answers.proofs.Shares.{no_shares, shares_next, stops_more}
use Rattle.edi_answers.proofs.census.answer_each.Goals as goal

pub loop-path-init : goal.loop-path-init
loop-path-init g c =
    let o = g.O.ByteOut.contents c.args.out.now in
    let e = g.E.ByteOut.contents c.args.err.now in
    let inputs = inputs g.F.Folder g.F.Reader.ByteIn c.args.folder.now in
    let why = g.F.Folder.why c.args.folder.now in
    let out = written g.O.ByteOut c.args.out.now c.args.out.now in
    let err = written g.E.ByteOut c.args.err.now c.args.err.now in (
      subst (AddShares inputs why c.args.schema.now c.args.form [] out err 0) (sym c.requires)
          (no_shares inputs why c.args.schema.now c.args.form o (g.O.ByteOut.has_failed c.args.out.now) e (g.E.ByteOut.has_failed c.args.err.now)),
      inl refl,
      λ t. t,
    )

pub loop-path-preserved : goal.loop-path-preserved
loop-path-preserved g c =
    let inputs = inputs g.F.Folder g.F.Reader.ByteIn c.args.folder.now in
    let status = c.in-Ok.status in
    let ok = c.in-Ok.ensures.ok in
    let worst : c.max-worst.result ≡ max c.loop-path.worst status = c.max-worst.ensures ∙ ord_max_is c.loop-path.worst status in (
      shares_next inputs (g.F.Folder.why c.args.folder.now) c.args.schema.now c.args.form (g.O.ByteOut.contents c.args.out.now) (g.O.ByteOut.contents c.loop-path.out) (g.O.ByteOut.contents c.answer_one.new.out)
          (g.O.ByteOut.has_failed c.loop-path.out) (g.O.ByteOut.has_failed c.answer_one.new.out)
          (g.E.ByteOut.contents c.args.err.now) (g.E.ByteOut.contents c.loop-path.err) (g.E.ByteOut.contents c.answer_one.new.err)
          (g.E.ByteOut.has_failed c.loop-path.err) (g.E.ByteOut.has_failed c.answer_one.new.err)
          (paths_of (take c.loop-path.path-index c.args.sheets.now)) (paths_of (take (c.loop-path.path-index + 1) c.args.sheets.now)) _
          c.loop-path.worst status c.max-worst.result c.loop-path.rules.items ok.0 c.answer_one.new.rules.items
          (one_more_path c.args.sheets.now c.loop-path.path-index _ c.loop-path-test.true) worst ok.1 c.loop-path.invariant.0 ok.2 c.answer_one.ensures.stays,
      subst IsSheetStatus (sym worst) (max_status c.loop-path.worst status c.loop-path.invariant.1 c.in-Ok.ensures.status),
      λ t. c.answer_one.ensures.stays (c.loop-path.invariant.2 t),
    )

pub returns-in-Err-clause-err : goal.returns-in-Err-clause-err
returns-in-Err-clause-err g c =
    let inputs = inputs g.F.Folder g.F.Reader.ByteIn c.args.folder.now in
    let err = c.in-Err.ensures.err in
    stops_more inputs (g.F.Folder.why c.args.folder.now) c.args.schema.now c.args.form (g.O.ByteOut.contents c.args.out.now) (g.O.ByteOut.contents c.loop-path.out) (g.O.ByteOut.contents c.answer_one.new.out)
    (g.O.ByteOut.has_failed c.loop-path.out) (g.O.ByteOut.has_failed c.answer_one.new.out)
    (g.E.ByteOut.contents c.args.err.now) (g.E.ByteOut.contents c.loop-path.err) (g.E.ByteOut.contents c.answer_one.new.err)
    (g.E.ByteOut.has_failed c.loop-path.err) (g.E.ByteOut.has_failed c.answer_one.new.err)
    (paths_of c.args.sheets.now) (paths_of (take c.loop-path.path-index c.args.sheets.now)) (paths_of (drop (suc c.loop-path.path-index) c.args.sheets.now)) _
    c.loop-path.worst c.loop-path.rules.items
    (split_at_path c.args.sheets.now c.loop-path.path-index _ c.loop-path-test.true) c.loop-path.invariant.0 err.0
    (subst (λ after. GoesOut (g.E.ByteOut.contents c.loop-path.err) (g.E.ByteOut.contents after) (g.E.ByteOut.has_failed c.answer_one.new.err) []) (sym err.1)
    (inl (appends_nothing (g.E.ByteOut.contents c.loop-path.err))))
    c.answer_one.ensures.stays
