use Rattle.std.proofs.Common.{◌∙◌, ◌∷◌, ◌+◌, sym, ap, subst, take}
use Rattle.std.proofs.lemmas.List.{take_rest}
use Rattle.std.specs.Option.{ForSome}
use Rattle.edi_record.specs.inner.Texts.{parts, AreSemicolons}
use Rattle.edi_record.proofs.TextParts.{cut_at, cut_none}
use Rattle.edi_record.proofs.marked.Marked.split_at_semicolon.Goals as goal

pub returns-in_err-at : goal.returns-in_err-at
returns-in_err-at c = rw c.from_residual.ensures (cut_none c.args.self.text.now (sym c.in_err-at.ensures))

pub returns : goal.returns
returns c =
    cut_at c.args.self.text.now c.in_ok-at.at (sym c.in_ok-at.ensures)
    ∙ ap (λ xs. take c.in_ok-at.at c.args.self.text.now ∷ parts xs) (sym (take_rest c.args.self.text.now (c.in_ok-at.at + 1)))

pub invariant_of-rest : goal.invariant_of-rest
invariant_of-rest c = record { right = subst (λ t. ForSome c.marks_behind.result (AreSemicolons t)) (sym (take_rest c.args.self.text.now (c.in_ok-at.at + 1))) c.marks_behind.ensures }
