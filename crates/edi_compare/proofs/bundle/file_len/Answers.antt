use Rattle.std.proofs.Common.{◌≤◌, ◌+◌, length, drop, arith, ◌∙◌, sym}
use Rattle.std.proofs.lemmas.List.{take_rest, length-drop, length-take-le}
use Rattle.edi_compare.proofs.Cuts.{first_file_ends, first_file_goes}
use Rattle.edi_compare.proofs.bundle.file_len.Goals as goal

pub returns-then-starts_with-clause-file : goal.returns-then-starts_with-clause-file
returns-then-starts_with-clause-file c =
    let bytes = c.args.bytes.now in
    let at = c.loop-at.at in
    let n = c.line_len.result in
    let rest = take_rest bytes at in
    let within = rw rest at c.line_len.ensures.within in
    let len = length-take-le n (drop at bytes) within in
    let lines = rw rest at c.line_len.ensures.line in
    let untouched = c.loop-at.invariant in
    let last = rw rest at (sym c.starts_with.ensures.value ∙ c.if-starts_with.true) in
    rw (rest, len) (first_file_ends bytes at n lines last untouched.1 untouched.2).0

pub loop-at-preserved : goal.loop-at-preserved
loop-at-preserved c =
    let bytes = c.args.bytes.now in
    let at = c.loop-at.at in
    let n = c.line_len.result in
    let rest = take_rest bytes at in
    let within = rw rest at c.line_len.ensures.within in
    let len = length-take-le n (drop at bytes) within in
    let lines = rw rest at c.line_len.ensures.line in
    let untouched = c.loop-at.invariant in
    let last = rw rest at (sym c.starts_with.ensures.value ∙ c.if-starts_with.false) in
    let goes = first_file_goes bytes at n lines last untouched.1 untouched.2 in
    let fits : at + n ≤ length bytes = omega (arith, within, length-drop at bytes, c.loop-at-test.true) in
    rw (rest, len) (fits, goes.0, goes.1)
