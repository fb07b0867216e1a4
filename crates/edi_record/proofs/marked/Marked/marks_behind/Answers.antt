use Rattle.std.proofs.Common.{◌≡◌, ◌/◌, ◌^◌, ◌+◌, ap, sym, ◌∙◌, arith}
use Rattle.std.proofs.lemmas.List.{length-drop}
use Rattle.edi_record.proofs.TextMarks.{marks_behind}
use Rattle.edi_record.proofs.marked.Marked.marks_behind.Goals as goal

pub returns-in-Some : goal.returns-in-Some
returns-in-Some c = λ x e.
    let marks = c.args.self.now.right c.in-Some.marks c.in-Some.is in
    let text = c.args.self.now.text.now in
    let is : c.in-Some.marks / 2 ^ (c.args.at + 1) ≡ x = cc in
    (omega (arith, length-drop (c.args.at + 1) text, marks.0), sym is ∙ ap (λ m. m / 2 ^ (c.args.at + 1)) marks.1 ∙ marks_behind text (c.args.at + 1) (omega arith))
