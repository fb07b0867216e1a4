use Rattle.std.proofs.Common.{[], ◌∷◌, ◌++◌, sym, ap, subst, arith, length, length-append}
use Rattle.std.proofs.lemmas.List.{length_push}
use Rattle.std.proofs.lemmas.Result.{err_from_is_err_and}
use Rattle.edi_line.specs.inner.Held.{TakesNextLine, BreaksAtNext}
use Rattle.edi_line.specs.inner.Feeding.{TakesFront, RefusesIn}
use Rattle.edi_line.specs.inner.Spelling.{reading_of}
use Rattle.edi_line.proofs.Rules.{stands_more}
use Rattle.edi_line.proofs.Feeds.{if_broken, front_more, refuses_first, refuses_more}
use Rattle.edi_line.proofs.feed.take_ended.Goals as goal

pub returns-in_err-take_copied-clause-broken : goal.returns-in_err-take_copied-clause-broken
returns-in_err-take_copied-clause-broken c =
    let p = err_from_is_err_and c.from_residual.result c.from_residual.ensures.1 in
    rw (p.1, p.2) (if_broken (BreaksAtNext c.loop-line.reader (reading_of c.content.result.now)) (RefusesIn c.args.reader.now c.args.bytes.now)
    (λ rule place h. c.loop-line.invariant.refuses rule place (subst (λ b. RefusesIn c.loop-line.reader b rule place) (sym c.in-Some.ensures.joined)
    (refuses_first c.loop-line.reader c.in-Some.line.now c.in-Some.after.now rule place c.in-Some.ensures.ended (subst (λ x. BreaksAtNext c.loop-line.reader (reading_of x) rule place) c.content.ensures h))))
    c.in_err-take_copied.field-0.0 c.in_err-take_copied.ensures.broken)

pub loop-line-preserved : goal.loop-line-preserved
loop-line-preserved c =
    let old = c.loop-line.reader in
    let mid = c.take_copied.new.self in
    let line = c.in-Some.line.now in
    let after = c.in-Some.after.now in
    let t = subst (λ x. TakesNextLine old (reading_of x) mid) c.content.ensures c.in_ok-take_copied.ensures.ok in
    let ended = c.in-Some.ensures.ended in
    let held = c.loop-line.invariant.holds in
    record {
      takes = λ rest new f. c.loop-line.invariant.takes rest new (subst (λ b. TakesFront old b rest new) (sym c.in-Some.ensures.joined) (front_more old mid new line after rest ended t f));
      refuses = λ rule place h. c.loop-line.invariant.refuses rule place (subst (λ b. RefusesIn old b rule place) (sym c.in-Some.ensures.joined) (refuses_more old mid line after rule place ended t h));
      holds = (held.0 ++ reading_of c.content.result.now ∷ [], stands_more held.0 (reading_of c.content.result.now) old mid held.1 c.in_ok-take_copied.ensures.ok);
      room = omega (arith, t.counted, c.loop-line.invariant.room, ap length c.in-Some.ensures.joined, length-append line after, ap length ended.ended, length_push ended.bytes 10);
    }
