use Rattle.std.proofs.Common.{arith}
use Rattle.edi_manifest.proofs.ReadBack.{behind_head, body_long, body_is}
use Rattle.edi_manifest.proofs.reading.body_in.Goals as goal

pub returns-then-behind-lt-LAST_LEN : goal.returns-then-behind-lt-LAST_LEN
returns-then-behind-lt-LAST_LEN c = λ lines h e.
    let long = body_long lines c.in_ok-behind.behind.now (behind_head lines c.args.text.now c.in_ok-behind.behind.now e c.in_ok-behind.ensures.cases.1) in
    absurd (omega (arith, long, c.if-behind-lt-LAST_LEN.true))

pub returns : goal.returns
returns c = λ lines h e. body_is lines c.in_ok-behind.behind.now (behind_head lines c.args.text.now c.in_ok-behind.behind.now e c.in_ok-behind.ensures.cases.1)
