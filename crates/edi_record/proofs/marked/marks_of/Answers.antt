use Rattle.std.proofs.Common.{sym, ap₂, subst, ◌+◌, ◌-◌, ◌*◌, ◌/◌, ◌%◌, ◌^◌, ◌∙◌, length, Fits, w64}
use lib.Lanes.{chunk}
use Rattle.edi_record.specs.inner.Texts.{semicolon_marks}
use Rattle.edi_record.proofs.TextMarks.{marks_joined, marks_fit}
use Rattle.edi_record.proofs.marked.marks_of.Goals as goal

pub overflow_add-result : goal.overflow_add-result
overflow_add-result c =
    let first = c.semicolons_among-first in
    let last = c.semicolons_among-last in
    let short = 32 - length c.args.text.now in
    subst (λ m. Fits w64 (m + (last.result / 2 ^ short * 2 ^ 16) % 2 ^ 64)) (sym first.ensures)
    (subst (λ m. Fits w64 (semicolon_marks (chunk 0 16 c.args.text.now) + (m / 2 ^ short * 2 ^ 16) % 2 ^ 64)) (sym last.ensures) (marks_fit c.args.text.now c.requires.long c.requires.short))

pub returns : goal.returns
returns c =
    ap₂ (λ first last. first + (last / 2 ^ (32 - length c.args.text.now) * 2 ^ 16) % 2 ^ 64) c.semicolons_among-first.ensures c.semicolons_among-last.ensures
    ∙ marks_joined c.args.text.now c.requires.long c.requires.short
