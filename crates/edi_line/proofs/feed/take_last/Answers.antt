use Rattle.std.proofs.Common.{◌<◌, length, sym, ◌∙◌, subst, arith}
use Rattle.std.proofs.lemmas.Bool.{eqb-false}
use Rattle.std.proofs.lemmas.Result.{on_ok_weaker}
use Rattle.edi_line.specs.inner.Held.{TakesNextLine, BreaksAtNext}
use Rattle.edi_line.specs.inner.Feeding.{RefusesOne}
use Rattle.edi_line.specs.inner.Spelling.{reading_of}
use Rattle.edi_line.specs.inner.Zones.{readings_of}
use Rattle.edi_line.proofs.Feeds.{if_err, takes_last, refuses_last}
use Rattle.edi_line.proofs.feed.take_last.Goals as goal

pub returns-clause-ok : goal.returns-clause-ok
returns-clause-ok c =
    let none = eqb-false _ _ (sym c.is_empty.ensures ∙ c.if-is_empty.false) in
    let some : 0 < length c.args.pending.now = omega (arith, none) in
    on_ok_weaker c.take_copied.result (λ t. takes_last c.args.reader.now c.take_copied.new.self c.args.pending.now c.requires.no_feed some
    (subst (λ x. TakesNextLine c.args.reader.now (reading_of x) c.take_copied.new.self) c.content.ensures t)) c.take_copied.ensures.ok

pub returns-clause-broken : goal.returns-clause-broken
returns-clause-broken c =
    let none = eqb-false _ _ (sym c.is_empty.ensures ∙ c.if-is_empty.false) in
    let some : 0 < length c.args.pending.now = omega (arith, none) in
    if_err (BreaksAtNext c.args.reader.now (reading_of c.content.result.now)) (RefusesOne c.args.reader.now (readings_of c.args.pending.now)) c.take_copied.result
    (λ rule place h. refuses_last c.args.reader.now c.args.pending.now rule place c.requires.no_feed some (subst (λ x. BreaksAtNext c.args.reader.now (reading_of x) rule place) c.content.ensures h)) c.take_copied.ensures.broken
