use Rattle.std.proofs.Common.{arith}
use Rattle.edi_pairing.proofs.TextLemmas.{some_left}
use Rattle.edi_pairing.proofs.WrongLemmas.{ends_in_return, is_ended, no_line_feed, return_before}
use Rattle.edi_pairing.proofs.wrong.why_unread.Goals as goal
use Rattle.edi_pairing.proofs.wrong.why_unread.Goals.{else-at-gt0-via-then-at-gt0+else-text-at-eq13, else-at-gt0-via-else-at-gt0}

pub returns-in_default : goal.returns-in_default
returns-in_default c = (some_left c.args.text.now c.is_empty.result c.is_empty.ensures c.if-is_empty.false, no_line_feed c.args.text.now c.in_default.ensures)

pub returns-then-text-at-eq13 : goal.returns-then-text-at-eq13
returns-then-text-at-eq13 c =
    ends_in_return c.args.text.now c.in-Some.at c.in-Some.ensures.0.high c.in-Some.ensures.1 c.in-Some.ensures.0.before c.if-at-gt0.true c.if-text-at-eq13.true

pub returns : goal.returns
returns c = record {
  some = some_left c.args.text.now c.is_empty.result c.is_empty.ensures c.if-is_empty.false;
  ended = is_ended c.args.text.now c.in-Some.at c.in-Some.ensures.0.high c.in-Some.ensures.1 c.in-Some.ensures.0.before;
  plain = λ h.
      let back = return_before c.args.text.now c.in-Some.at c.in-Some.ensures.0.high c.in-Some.ensures.1 c.in-Some.ensures.0.before h in
      elim c.else-at-gt0.branch [
        | else-at-gt0-via-then-at-gt0+else-text-at-eq13 w ↦ w.if-text-at-eq13.false back.1
        | else-at-gt0-via-else-at-gt0 w ↦ omega (arith, back.0, w.if-at-gt0.false)
      ];
}
