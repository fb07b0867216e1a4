use Rattle.std.proofs.Common.{◌≡◌, sym, ap, ap₂, subst, ◌+◌, ◌-◌, ◌*◌, ◌/◌, ◌%◌, ◌^◌, ◌∙◌, length, take, drop, Fits, w64}
use Rattle.edi_record.specs.inner.Texts.{semicolon_marks}
use Rattle.edi_record.proofs.TextMarks.{far_joined, far_fit}
use Rattle.edi_record.proofs.marked.marks_of_long.Goals as goal

pub overflow_add-result : goal.overflow_add-result
overflow_add-result c =
    let text = c.args.text.now in
    let first : c.marks_of-2.result ≡ semicolon_marks (take 32 text) = c.marks_of-2.ensures ∙ ap semicolon_marks c.split_at.ensures.front in
    let last : c.marks_of.result ≡ semicolon_marks (drop (length text - 32) text) = c.marks_of.ensures ∙ ap semicolon_marks c.split_at-2.ensures.back in
    subst (Fits w64) (sym (ap₂ (λ f l. f + (l / 2 ^ (64 - length text) * 2 ^ 32) % 2 ^ 64) first last)) (far_fit text c.requires.long c.requires.short)

pub returns : goal.returns
returns c =
    let text = c.args.text.now in
    let first : c.marks_of-2.result ≡ semicolon_marks (take 32 text) = c.marks_of-2.ensures ∙ ap semicolon_marks c.split_at.ensures.front in
    let last : c.marks_of.result ≡ semicolon_marks (drop (length text - 32) text) = c.marks_of.ensures ∙ ap semicolon_marks c.split_at-2.ensures.back in
    ap₂ (λ f l. f + (l / 2 ^ (64 - length text) * 2 ^ 32) % 2 ^ 64) first last ∙ far_joined text c.requires.long c.requires.short
