use Rattle.std.proofs.Common.{◌≡◌, ◌∙◌, ◌+◌, ◌-◌, ◌<◌, ◌≤◌, ◌⊎◌, inl, inr, ℕ, suc, List, length, None, Some, sym, ap, arith, rules, slice_get}
use Rattle.std.proofs.lemmas.Bool.{cases_lt}
use Rattle.edi_line.specs.inner.Lines.{line_contents}
use Rattle.edi_explain.specs.Barring.{IsBarredBy}
use Rattle.edi_explain.proofs.Barred.{barred, empty_contents, next_content, no_bars, no_such_line, text_bars}
use Rattle.edi_plan.proofs.Leasts.{least_here, none_here}
use Rattle.edi_explain.proofs.barring.barring_line.Goals as goal
use Rattle.edi_explain.proofs.barring.barring_line.Goals.{else-rule-ne107-via-then-rule-ne107+else-rule-ne108, else-rule-ne107-via-else-rule-ne107}

pub returns-then-rule-ne108 : goal.returns-then-rule-ne108
returns-then-rule-ne108 c = λ k h. no_bars c.args.bytes.now c.args.rule c.args.at k c.if-rule-ne107.true c.if-rule-ne108.true h

pub returns-in_err-refused : goal.returns-in_err-refused
returns-in_err-refused c = rw c.from_residual.ensures (λ m h. no_such_line c.args.bytes.now c.args.rule c.args.at m (sym c.in_err-refused.ensures) h)

pub returns-then-bars : goal.returns-then-bars
returns-then-bars c =
    let bytes = c.args.bytes.now in
    let rule = c.args.rule in
    let at = c.args.at in
    let big : 104 ≤ rule = elim c.else-rule-ne107.branch [
      | else-rule-ne107-via-then-rule-ne107+else-rule-ne108 w ↦ omega (arith, w.if-rule-ne108.false)
      | else-rule-ne107-via-else-rule-ne107 w ↦ omega (arith, w.if-rule-ne107.false)
    ] in
    let d = c.in_ok-refused.refused.now in
    let here : slice_get (line_contents bytes) (at - 1) ≡ Some d = sym c.in_ok-refused.ensures in
    let one = c.loop-refused.invariant.from_one in
    let less : c.loop-refused.number < at = omega arith in
    let some : 1 ≤ at = omega arith in
    let next = next_content c.loop-refused.rest.now c.first_line.result.0.now c.first_line.result.1.now c.first_line.ensures.lines in
    let there : slice_get (line_contents bytes) (c.loop-refused.number - 1) ≡ Some c.content.result.now =
    ap (slice_get (line_contents bytes)) (omega arith) ∙ (c.loop-refused.invariant.left 0 ∙ (ap (λ cs. slice_get cs 0) next ∙ ap Some (sym c.content.ensures))) in
    least_here (IsBarredBy bytes rule at) c.loop-refused.number c.loop-refused.invariant.none
    (barred bytes rule at c.requires big d some here c.loop-refused.number c.content.result.now one less there (sym c.bars.ensures ∙ c.if-bars.true))

pub loop-refused-preserved : goal.loop-refused-preserved
loop-refused-preserved c =
    let bytes = c.args.bytes.now in
    let rule = c.args.rule in
    let at = c.args.at in
    let big : 104 ≤ rule = elim c.else-rule-ne107.branch [
      | else-rule-ne107-via-then-rule-ne107+else-rule-ne108 w ↦ omega (arith, w.if-rule-ne108.false)
      | else-rule-ne107-via-else-rule-ne107 w ↦ omega (arith, w.if-rule-ne107.false)
    ] in
    let d = c.in_ok-refused.refused.now in
    let here : slice_get (line_contents bytes) (at - 1) ≡ Some d = sym c.in_ok-refused.ensures in
    let one = c.loop-refused.invariant.from_one in
    let less : c.loop-refused.number < at = omega arith in
    let some : 1 ≤ at = omega arith in
    let next = next_content c.loop-refused.rest.now c.first_line.result.0.now c.first_line.result.1.now c.first_line.ensures.lines in
    let there : slice_get (line_contents bytes) (c.loop-refused.number - 1) ≡ Some c.content.result.now =
    ap (slice_get (line_contents bytes)) (omega arith) ∙ (c.loop-refused.invariant.left 0 ∙ (ap (λ cs. slice_get cs 0) next ∙ ap Some (sym c.content.ensures))) in
    record {
      from_one = omega arith;
      left = λ j. ap (slice_get (line_contents bytes)) (omega (arith, one)) ∙ (c.loop-refused.invariant.left (suc j) ∙ ap (λ cs. slice_get cs (suc j)) next);
      none = none_here (IsBarredBy bytes rule at) c.loop-refused.number c.loop-refused.invariant.none
          (λ h. let t = text_bars bytes rule at c.requires big d some here c.loop-refused.number c.content.result.now there h in let f = sym c.bars.ensures ∙ c.if-bars.false in cc);
    }

pub returns-else-number-at : goal.returns-else-number-at
returns-else-number-at c = λ k h. c.loop-refused.invariant.none k (omega (arith, h.before, c.if-number-at.false)) h

-- the refused line is not behind the last one
past_end : (cs rest : List (List ℕ)) (number at k : ℕ) (d : List ℕ) → 1 ≤ number → ((j : ℕ) → slice_get cs (number - 1 + j) ≡ slice_get rest j) → ((j : ℕ) → slice_get rest j ≡ None)
    → slice_get cs (at - 1) ≡ Some d → k < at → k < number
past_end cs rest number at k d one left none here less = go (cases_lt k number)
  where
    go : (k < number) ⊎ (number ≤ k) → k < number
    go (inl h) = h
    go (inr h) =
        let some : Some d ≡ None = sym here ∙ (ap (slice_get cs) (omega (arith, h, less, one)) ∙ (left (at - number) ∙ none (at - number))) in absurd cc

pub returns-after-loop-refused : goal.returns-after-loop-refused
returns-after-loop-refused c = λ k h.
    let none : length c.loop-refused.rest.now ≡ 0 = search rules in
    c.loop-refused.invariant.none k (past_end (line_contents c.args.bytes.now) (line_contents c.loop-refused.rest.now) c.loop-refused.number c.args.at k c.in_ok-refused.refused.now
    c.loop-refused.invariant.from_one c.loop-refused.invariant.left (empty_contents c.loop-refused.rest.now none) (sym c.in_ok-refused.ensures) h.before) h
