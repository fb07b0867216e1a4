use Rattle.std.proofs.Common.{◌≡◌, ◌∙◌, ◌∷◌, ◌++◌, [], List, sym, ap, subst}
use Rattle.std.proofs.lemmas.Bool.{eqb-true}
use Rattle.std.proofs.lemmas.List.{nil_from_length}
use Rattle.std.proofs.lemmas.Result.{err_from_is_err_and}
use Rattle.edi_line.specs.ZoneData.{ZoneData}
use Rattle.edi_line.specs.LineRules.{BreaksIn}
use Rattle.edi_line.specs.Refusal.{IsLeastBroken}
use Rattle.edi_line.specs.Spelling.{Reading}
use Rattle.edi_line.specs.inner.HandingOn.{IsAtLines, WentOn}
use Rattle.edi_line.specs.inner.Held.{BreaksAtNext}
use Rattle.edi_line.specs.inner.Spelling.{reading_of}
use Rattle.edi_line.specs.inner.Zones.{readings_of}
use Rattle.edi_line.proofs.Feeds.{if_broken}
use Rattle.edi_line.proofs.HandedOn.{line_taken, went_nowhere, went_further, line_refused}
use Rattle.edi_line.proofs.Passes.{readings_step}
use Rattle.edi_line.proofs.groups.read_lines.Goals as goal

pub returns-in_err-take_line-clause-broken : goal.returns-in_err-take_line-clause-broken
returns-in_err-take_line-clause-broken g c =
    let p = err_from_is_err_and c.from_residual.result c.from_residual.ensures.1 in
    let line = reading_of c.content.result.now in
    let after = readings_of c.first_line.result.1.now in
    let old = c.loop-rest.reader in
    let step : readings_of c.loop-rest.rest.now ≡ line ∷ after =
    readings_step c.loop-rest.rest.now c.first_line.result.0.now c.first_line.result.1.now c.first_line.ensures.lines ∙ ap (λ x. reading_of x ∷ after) (sym c.content.ensures) in
    rw (p.1, p.2) (if_broken (BreaksAtNext old line)
    (λ rule place. (lines left : List Reading) (given : List ZoneData) → IsAtLines lines (readings_of c.args.bytes.now ++ left) given c.args.reader c.args.handing.now → IsLeastBroken (BreaksIn lines) rule place)
    (λ rule place refuses lines left given at.
    (let went = c.loop-rest.invariant.went lines left given at in
    line_refused lines (after ++ left) line went.given_now old c.loop-rest.handing rule place refuses (subst (λ ls. IsAtLines lines (ls ++ left) went.given_now old c.loop-rest.handing) step went.at)))
    c.in_err-take_line.field-0.0 c.in_err-take_line.ensures.broken)

pub loop-rest-preserved-in_ok-hand_done_on : goal.loop-rest-preserved-in_ok-hand_done_on
loop-rest-preserved-in_ok-hand_done_on g c =
    let line = reading_of c.content.result.now in
    let after = readings_of c.first_line.result.1.now in
    let old = c.loop-rest.reader in
    let mid = c.take_line.new.self in
    let new = c.hand_done_on.new.reader in
    let handing = c.loop-rest.handing in
    let handing_now = c.hand_done_on.new.handing in
    let Before = g.O.GroupOut.Holds c.loop-rest.out in
    let After = g.O.GroupOut.Holds c.hand_done_on.new.out in
    let step : readings_of c.loop-rest.rest.now ≡ line ∷ after =
    readings_step c.loop-rest.rest.now c.first_line.result.0.now c.first_line.result.1.now c.first_line.ensures.lines ∙ ap (λ x. reading_of x ∷ after) (sym c.content.ensures) in
    let more : (lines left : List Reading) (given : List ZoneData) → IsAtLines lines (readings_of c.loop-rest.rest.now ++ left) given old handing → WentOn lines (after ++ left) given new handing_now Before After =
    (λ lines left given at. c.in_ok-hand_done_on.ensures.went lines (after ++ left) given
    (line_taken lines (after ++ left) line given old mid handing c.in_ok-take_line.ensures.ok (subst (λ ls. IsAtLines lines (ls ++ left) given old handing) step at))) in
    let here = c.loop-rest.invariant.at in
    let now = more here.0 here.1 here.2 here.3 in
    record {
      went = λ lines left given at. went_further (λ given_now. more lines left given_now) (c.loop-rest.invariant.went lines left given at);
      at = (here.0, here.1, now.given_now, now.at, here.4);
    }

pub loop-rest-preserved : goal.loop-rest-preserved
loop-rest-preserved g c =
    let line = reading_of c.content.result.now in
    let after = readings_of c.first_line.result.1.now in
    let old = c.loop-rest.reader in
    let new = c.take_line.new.self in
    let handing = c.loop-rest.handing in
    let Holds = g.O.GroupOut.Holds c.loop-rest.out in
    let step : readings_of c.loop-rest.rest.now ≡ line ∷ after =
    readings_step c.loop-rest.rest.now c.first_line.result.0.now c.first_line.result.1.now c.first_line.ensures.lines ∙ ap (λ x. reading_of x ∷ after) (sym c.content.ensures) in
    let more : (lines left : List Reading) (given : List ZoneData) → IsAtLines lines (readings_of c.loop-rest.rest.now ++ left) given old handing → IsAtLines lines (after ++ left) given new handing =
    (λ lines left given at. line_taken lines (after ++ left) line given old new handing c.in_ok-take_line.ensures.ok (subst (λ ls. IsAtLines lines (ls ++ left) given old handing) step at)) in
    let here = c.loop-rest.invariant.at in
    record {
      went = λ lines left given at. went_further (λ given_now held. went_nowhere lines (after ++ left) given_now new handing Holds (more lines left given_now held)) (c.loop-rest.invariant.went lines left given at);
      at = (here.0, here.1, here.2, more here.0 here.1 here.2 here.3, here.4);
    }

pub returns-clause-ok : goal.returns-clause-ok
returns-clause-ok g c =
    let none : c.loop-rest.rest.now ≡ [] = nil_from_length c.loop-rest.rest.now (eqb-true _ _ (sym c.is_empty.ensures ∙ c.loop-rest-test.false)) in
    λ lines left given at. subst (λ rest. WentOn lines (readings_of rest ++ left) given c.loop-rest.reader c.loop-rest.handing (g.O.GroupOut.Holds c.args.out.now) (g.O.GroupOut.Holds c.loop-rest.out)) none
    (c.loop-rest.invariant.went lines left given at)
