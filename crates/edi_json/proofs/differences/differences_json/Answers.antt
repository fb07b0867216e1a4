use Rattle.std.proofs.Common.{◌∙◌, ◌++◌, List, ℕ, ap, subst, sym}
use Rattle.edi_json.specs.Texts.{ReadsAs, json_text}
use Rattle.edi_json.specs.Values.{difference_values}
use Rattle.edi_json.specs.inner.Lines.{HasLines}
use Rattle.edi_json.proofs.LineLemmas.{all_read, more_lines}
use Rattle.edi_json.proofs.differences.differences_json.Goals as goal

pub returns : goal.returns
returns c =
    let values = difference_values c.args.report.now in
    let made : HasLines c.new-text.result.items c.push_counts.new.text.items values =
    more_lines _ _ _ _ _ (more_lines _ _ _ _ _ c.in_ok-push_charsets.ensures c.in_ok-push_records.ensures) c.in_ok-push_counts.ensures in
    let text = made.text ∙ ap (λ (xs : List ℕ). xs ++ json_text values) c.new-text.ensures.items in
    record { text = text; read = subst (λ (xs : List ℕ). ReadsAs xs values) (sym text) (all_read values made.lines) }
