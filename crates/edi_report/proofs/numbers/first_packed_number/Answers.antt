use Rattle.std.proofs.Common.{◌-◌, arith}
use Rattle.edi_report.proofs.Packings.{read_last, read_next, read_none}
use Rattle.edi_report.proofs.numbers.first_packed_number.Goals as goal

pub returns-then-byte-lt255-clause-number : goal.returns-then-byte-lt255-clause-number
returns-then-byte-lt255-clause-number c = λ n rest fits is.
    let s = c.loop-i.invariant n rest fits is in
    let last = read_last c.args.bytes.now c.loop-i.i s.0 rest c.loop-i-test.true s.2 c.if-byte-lt255.true in
    (omega (arith, s.1, last.0, fits), last.1)

pub loop-i-preserved : goal.loop-i-preserved
loop-i-preserved c = λ n rest fits is.
    let s = c.loop-i.invariant n rest fits is in
    let next = read_next c.args.bytes.now c.loop-i.i s.0 rest c.loop-i-test.true s.2 c.if-byte-lt255.false in
    (s.0 - 255, omega (arith, s.1, next.0, next.1, fits), next.2)

pub returns-clause-number : goal.returns-clause-number
returns-clause-number c = λ n rest fits is.
    let s = c.loop-i.invariant n rest fits is in
    absurd (read_none c.args.bytes.now c.loop-i.i s.0 rest c.loop-i-test.false s.2)
