use Rattle.std.proofs.Common.{◌∙◌, ◌++◌, List, ℕ, ap, map, subst, sym}
use Rattle.edi_outcome.specs.Words.{texts}
use Rattle.edi_json.specs.Texts.{ReadsAs, json_text}
use Rattle.edi_json.specs.inner.Lines.{HasLines}
use Rattle.edi_json.proofs.LineLemmas.{all_read}
use Rattle.edi_json_answers.specs.Told.{told_values, words_value}
use Rattle.edi_json_answers.proofs.told.told_lines.Goals as goal

pub returns : goal.returns
returns c =
    let values = told_values c.args.text.now in
    let made : HasLines c.new-told.result.items c.push_lines.new.told.items values =
    subst (λ (lines : List (List ℕ)). HasLines c.new-told.result.items c.push_lines.new.told.items (map words_value lines))
    (ap texts c.deref.ensures.value ∙ c.in_ok-lines.ensures) c.in_ok-push_lines.ensures in
    let text = made.text ∙ ap (λ (xs : List ℕ). xs ++ json_text values) c.new-told.ensures.items in
    record { text = text; read = subst (λ (xs : List ℕ). ReadsAs xs values) (sym text) (all_read values made.lines) }
