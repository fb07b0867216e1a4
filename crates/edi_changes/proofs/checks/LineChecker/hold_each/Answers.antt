use Rattle.std.proofs.Common.{◌≡◌, ◌∙◌, inr, inl, refl, sym, subst, arith, get_or}
use Rattle.std.specs.Prelude.{max}
use Rattle.edi_answers.specs.Effects.{effects, written}
use Rattle.edi_answers.specs.Replies.{EachUntil}
use Rattle.edi_answers.specs.Statuses.{IsPairStatus}
use Rattle.edi_answers.proofs.Answering.{ord_max_is}
use Rattle.edi_changes.specs.Checks.{FailsInVerdict, GivesVerdict, IsLineHeld}
use Rattle.edi_changes.specs.inner.Checking.{IsSaidAs, status_of_said}
use Rattle.edi_changes.proofs.Checking.{CompletesUntil, all_done, none_so_far, of_greater, one_more, stopped}
use Rattle.edi_changes.proofs.checks.LineChecker.hold_each.Goals as goal

pub loop-line-init : goal.loop-line-init
loop-line-init g c =
    let run = effects g.F.Folder g.F.Reader.ByteIn g.F.Sink.ByteOut g.F.NewFile.ByteOut c.args.self.now.folder.now c.args.self.now.folder.now in
    let says = IsLineHeld run c.args.self.now.schema.now GivesVerdict in
    let stops = IsLineHeld run c.args.self.now.schema.now FailsInVerdict in
    (none_so_far says stops c.args.lines.now (g.O.ByteOut.contents c.args.out.now) (g.E.ByteOut.contents c.args.err.now) (g.O.ByteOut.has_failed c.args.out.now) (g.E.ByteOut.has_failed c.args.err.now), inr (inl refl), λ t. t, λ t. t)

pub loop-line-preserved : goal.loop-line-preserved
loop-line-preserved g c =
    let run = effects g.F.Folder g.F.Reader.ByteIn g.F.Sink.ByteOut g.F.NewFile.ByteOut c.args.self.now.folder.now c.args.self.now.folder.now in
    let says = IsLineHeld run c.args.self.now.schema.now GivesVerdict in
    let stops = IsLineHeld run c.args.self.now.schema.now FailsInVerdict in
    let out = written g.O.ByteOut c.loop-line.out c.hold_line.new.out in
    let err = written g.E.ByteOut c.loop-line.err c.hold_line.new.err in
    let o = g.O.ByteOut.contents c.args.out.now in
    let e = g.E.ByteOut.contents c.args.err.now in
    let worst : c.max-worst.result ≡ max c.loop-line.worst c.in-Whole.status = c.max-worst.ensures ∙ ord_max_is c.loop-line.worst c.in-Whole.status in
    let line = get_or c.args.lines.now c.loop-line.line-index c.line-item.result in
    let held : IsSaidAs (says line) (stops line) out err c.hold_line.result =
    subst (λ x. IsSaidAs (says x) (stops x) out err c.hold_line.result) c.line-item.is c.hold_line.ensures.said in
    let told : says line out err c.in-Whole.status = subst (IsSaidAs (says line) (stops line) out err) c.in-Whole.is held in
    let status = subst (λ said. IsPairStatus (status_of_said said)) c.in-Whole.is c.hold_line.ensures.status in
    let more = one_more says stops c.args.lines.now o e c.loop-line.line-index c.line-item.result (g.O.ByteOut.contents c.loop-line.out) (g.E.ByteOut.contents c.loop-line.err)
    (g.O.ByteOut.contents c.hold_line.new.out) (g.E.ByteOut.contents c.hold_line.new.err)
    (g.O.ByteOut.has_failed c.loop-line.out) (g.E.ByteOut.has_failed c.loop-line.err) (g.O.ByteOut.has_failed c.hold_line.new.out) (g.E.ByteOut.has_failed c.hold_line.new.err)
    c.loop-line.worst c.in-Whole.status c.loop-line-test.true c.loop-line.invariant.0 told c.hold_line.ensures.out_stays c.hold_line.ensures.err_stays in (
      subst (CompletesUntil says stops c.args.lines.now _ o e _ _ _ _) (sym worst) more,
      subst IsPairStatus (sym worst) (of_greater IsPairStatus c.loop-line.worst c.in-Whole.status c.loop-line.invariant.1 status),
      λ t. c.hold_line.ensures.out_stays (c.loop-line.invariant.2 t),
      λ t. c.hold_line.ensures.err_stays (c.loop-line.invariant.3 t),
    )

pub returns-clause-answer : goal.returns-clause-answer
returns-clause-answer g c =
    all_done _ _ c.args.lines.now _ _ c.loop-line.line-index _ _ _ _ c.loop-line.worst (omega arith) c.loop-line.invariant.0

pub returns-in-CutOff-clause-answer : goal.returns-in-CutOff-clause-answer
returns-in-CutOff-clause-answer g c =
    let run = effects g.F.Folder g.F.Reader.ByteIn g.F.Sink.ByteOut g.F.NewFile.ByteOut c.args.self.now.folder.now c.args.self.now.folder.now in
    let says = IsLineHeld run c.args.self.now.schema.now GivesVerdict in
    let stops = IsLineHeld run c.args.self.now.schema.now FailsInVerdict in
    let out = written g.O.ByteOut c.loop-line.out c.hold_line.new.out in
    let err = written g.E.ByteOut c.loop-line.err c.hold_line.new.err in
    let o = g.O.ByteOut.contents c.args.out.now in
    let e = g.E.ByteOut.contents c.args.err.now in
    let worst : c.max.result ≡ max c.loop-line.worst c.in-CutOff.status = c.max.ensures in
    let line = get_or c.args.lines.now c.loop-line.line-index c.line-item.result in
    let held : IsSaidAs (says line) (stops line) out err c.hold_line.result =
    subst (λ x. IsSaidAs (says x) (stops x) out err c.hold_line.result) c.line-item.is c.hold_line.ensures.said in
    let told : stops line out err c.in-CutOff.status = subst (IsSaidAs (says line) (stops line) out err) c.in-CutOff.is held in
    subst (EachUntil says stops c.args.lines.now (written g.O.ByteOut c.args.out.now c.hold_line.new.out) (written g.E.ByteOut c.args.err.now c.hold_line.new.err)) (sym worst)
    (stopped says stops c.args.lines.now o e c.loop-line.line-index c.line-item.result (g.O.ByteOut.contents c.loop-line.out) (g.E.ByteOut.contents c.loop-line.err)
    (g.O.ByteOut.contents c.hold_line.new.out) (g.E.ByteOut.contents c.hold_line.new.err)
    (g.O.ByteOut.has_failed c.loop-line.out) (g.E.ByteOut.has_failed c.loop-line.err) (g.O.ByteOut.has_failed c.hold_line.new.out) (g.E.ByteOut.has_failed c.hold_line.new.err)
    c.loop-line.worst c.in-CutOff.status c.loop-line-test.true c.loop-line.invariant.0 told c.hold_line.ensures.out_stays c.hold_line.ensures.err_stays)

pub returns-in-CutOff-clause-status : goal.returns-in-CutOff-clause-status
returns-in-CutOff-clause-status g c =
    let status = subst (λ said. IsPairStatus (status_of_said said)) c.in-CutOff.is c.hold_line.ensures.status in
    subst IsPairStatus (sym c.max.ensures) (of_greater IsPairStatus c.loop-line.worst c.in-CutOff.status c.loop-line.invariant.1 status)
