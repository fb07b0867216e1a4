use Rattle.std.proofs.Common.{◌≡◌, ◌∙◌, inl, inr, refl, sym, subst, arith, suc, drop, take, codes}
use Rattle.std.specs.Prelude.{max}
use Rattle.edi_answers.specs.Effects.{inputs, written}
use Rattle.edi_answers.specs.Hashes.{AreAnswered}
use Rattle.edi_files.specs.Reasons.{ended}
use Rattle.edi_answers.specs.Statuses.{GoesOut, IsSheetStatus}
use Rattle.edi_answers.proofs.Answering.{all_paths, answered_more, cut_off, max_status, none_answered, one_more_path, ord_max_is, paths_of, split_at_path}
use Rattle.edi_answers.proofs.hashes.answer_all.Goals as goal

pub loop-path-init : goal.loop-path-init
loop-path-init g c =
    let o = g.O.ByteOut.contents c.args.out.now in
    let e = g.E.ByteOut.contents c.args.err.now in
    let inputs = inputs g.F.Folder g.F.Reader.ByteIn c.args.folder.now in
    (none_answered inputs (g.F.Folder.why c.args.folder.now) c.args.schema.now (paths_of c.args.siblings.now) c.args.form o (g.O.ByteOut.has_failed c.args.out.now) e (g.E.ByteOut.has_failed c.args.err.now), inl refl, λ t. t, λ t. t)

pub loop-path-preserved : goal.loop-path-preserved
loop-path-preserved g c =
    let inputs = inputs g.F.Folder g.F.Reader.ByteIn c.args.folder.now in
    let why = g.F.Folder.why c.args.folder.now in
    let s = c.args.schema.now in
    let siblings = paths_of c.args.siblings.now in
    let out = written g.O.ByteOut c.args.out.now c.answer.new.out in
    let err = written g.E.ByteOut c.args.err.now c.answer.new.err in
    let more = answered_more inputs why s siblings c.args.form (g.O.ByteOut.contents c.args.out.now) (g.O.ByteOut.contents c.loop-path.out) (g.O.ByteOut.contents c.answer.new.out)
    (g.O.ByteOut.has_failed c.loop-path.out) (g.O.ByteOut.has_failed c.answer.new.out)
    (g.E.ByteOut.contents c.args.err.now) (g.E.ByteOut.contents c.loop-path.err) (g.E.ByteOut.contents c.answer.new.err)
    (g.E.ByteOut.has_failed c.loop-path.err) (g.E.ByteOut.has_failed c.answer.new.err)
    _ _ c.loop-path.worst c.in-Ok.status c.loop-path.invariant.0 c.in-Ok.ensures.ok c.in-Ok.ensures.stays in
    let worst : c.max-worst.result ≡ max c.loop-path.worst c.in-Ok.status = c.max-worst.ensures ∙ ord_max_is c.loop-path.worst c.in-Ok.status in (
      subst (λ paths. AreAnswered inputs why s siblings c.args.form out err paths c.max-worst.result) (sym (one_more_path c.args.sheets.now c.loop-path.path-index _ c.loop-path-test.true))
          (subst (AreAnswered inputs why s siblings c.args.form out err _) (sym worst) more),
      subst IsSheetStatus (sym worst) (max_status c.loop-path.worst c.in-Ok.status c.loop-path.invariant.1 c.in-Ok.ensures.status),
      λ t. c.in-Ok.ensures.stays (c.loop-path.invariant.2 t),
      λ t. c.in-Ok.ensures.out_stays (c.loop-path.invariant.3 t),
    )

pub returns-in-Err-clause-answer : goal.returns-in-Err-clause-answer
returns-in-Err-clause-answer g c =
    let inputs = inputs g.F.Folder g.F.Reader.ByteIn c.args.folder.now in
    inr (cut_off inputs (g.F.Folder.why c.args.folder.now) c.args.schema.now (paths_of c.args.siblings.now) c.args.form (g.O.ByteOut.contents c.args.out.now) (g.O.ByteOut.contents c.loop-path.out) (g.O.ByteOut.contents c.answer.new.out)
    (g.O.ByteOut.has_failed c.loop-path.out) (g.O.ByteOut.has_failed c.answer.new.out)
    (g.E.ByteOut.contents c.args.err.now) (g.E.ByteOut.contents c.loop-path.err) (g.E.ByteOut.contents c.say_unwritten.new.err)
    (g.E.ByteOut.has_failed c.loop-path.err) (g.E.ByteOut.has_failed c.say_unwritten.new.err)
    (paths_of c.args.sheets.now) (paths_of (take c.loop-path.path-index c.args.sheets.now)) (paths_of (drop (suc c.loop-path.path-index) c.args.sheets.now)) _
    c.loop-path.worst c.say_unwritten.result
    (split_at_path c.args.sheets.now c.loop-path.path-index _ c.loop-path-test.true) c.loop-path.invariant.0 c.in-Err.ensures.err.0
    (subst (λ before. GoesOut (g.E.ByteOut.contents before) (g.E.ByteOut.contents c.say_unwritten.new.err) (g.E.ByteOut.has_failed c.say_unwritten.new.err) (ended (codes "cannot write standard output")))
    c.in-Err.ensures.err.1 c.say_unwritten.ensures.text)
    (λ failed. c.say_unwritten.ensures.stays (c.in-Err.ensures.stays failed)) c.say_unwritten.ensures.status)

pub returns-clause-answer : goal.returns-clause-answer
returns-clause-answer g c =
    let inputs = inputs g.F.Folder g.F.Reader.ByteIn c.args.folder.now in
    let out = written g.O.ByteOut c.args.out.now c.loop-path.out in
    let err = written g.E.ByteOut c.args.err.now c.loop-path.err in
    inl (subst (λ paths. AreAnswered inputs (g.F.Folder.why c.args.folder.now) c.args.schema.now (paths_of c.args.siblings.now) c.args.form out err paths c.loop-path.worst) (all_paths c.args.sheets.now c.loop-path.path-index (omega arith)) c.loop-path.invariant.0)

pub returns-in-Err-clause-stays : goal.returns-in-Err-clause-stays
returns-in-Err-clause-stays g c = λ t. c.say_unwritten.ensures.stays (c.in-Err.ensures.stays (c.loop-path.invariant.2 t))

pub returns-clause-stays : goal.returns-clause-stays
returns-clause-stays g c = c.loop-path.invariant.2

pub returns-in-Err-clause-out_stays : goal.returns-in-Err-clause-out_stays
returns-in-Err-clause-out_stays g c = λ t. c.in-Err.ensures.out_stays (c.loop-path.invariant.3 t)

pub returns-clause-out_stays : goal.returns-clause-out_stays
returns-clause-out_stays g c = c.loop-path.invariant.3
