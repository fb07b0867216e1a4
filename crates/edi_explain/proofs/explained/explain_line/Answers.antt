use Rattle.std.proofs.Common.{◌∙◌, ◌++◌, List, ℕ, ap, ap₂, append_assoc, sym}
use Rattle.edi_explain.specs.Cuts.{cut_hint}
use Rattle.edi_explain.specs.Lengths.{length_hint}
use Rattle.edi_explain.specs.Lines.{lines_of_line, sentence_of}
use Rattle.edi_explain.proofs.explained.explain_line.Goals as goal

pub returns : goal.returns
returns c =
    let said = c.sentence_for.ensures in
    let name = c.args.file.now.name.now in
    let earlier = c.barring_line-earlier.result in
    let hints = c.in_ok-hints.ensures in (
      said.0,
      earlier,
      hints.0,
      hints.1,
      said.1,
      c.barring_line-earlier.ensures,
      hints.2,
      hints.3,
      c.in_ok-extend_from_slice.ensures.items ∙ (ap₂ (λ (xs ys : List ℕ). xs ++ ys)
          (c.in_ok-lines.ensures ∙ ap (λ (s : List ℕ). lines_of_line name c.args.at earlier s c.args.rule) said.2) (c.deref.ensures.value ∙ hints.4)
          ∙ sym (append_assoc (lines_of_line name c.args.at earlier (sentence_of said.0) c.args.rule) (length_hint name hints.0) (cut_hint name hints.1))),
    )
