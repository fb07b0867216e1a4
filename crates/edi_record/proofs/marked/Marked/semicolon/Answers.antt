use Rattle.std.proofs.Common.{Some, ap, ◌∙◌, arith}
use lib.Count.{count_trailing_zeros}
use Rattle.edi_record.proofs.TextMarks.{first_mark, no_mark}
use Rattle.edi_record.proofs.marked.Marked.semicolon.Goals as goal

pub returns-then-marks-eq0 : goal.returns-then-marks-eq0
returns-then-marks-eq0 c =
    let marks = c.args.self.now.right c.in-Some.marks c.in-Some.is in
    no_mark c.args.self.now.text.now (omega (arith, marks.1))

pub returns : goal.returns
returns c =
    let marks = c.args.self.now.right c.in-Some.marks c.in-Some.is in
    ap (λ m. Some (count_trailing_zeros 64 m)) marks.1 ∙ first_mark c.args.self.now.text.now (omega (arith, marks.0)) (λ e. omega (arith, marks.1, e))
