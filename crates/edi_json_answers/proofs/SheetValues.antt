-- The values of all that sheets break, and texts of lines of such values.
use Rattle.std.proofs.Common.{◌≡◌, ◌∙◌, ◌++◌, ◌+◌, ◌<◌, ℕ, Bool, true, false, cond, List, [], ◌∷◌, Some, None, arith, codes, ap, get_or, length, map, subst, sym, take}
use Rattle.std.specs.Prelude.{nat_lt}
use Rattle.std.proofs.lemmas.List.{map-append, take_more}
use Rattle.json.specs.Json.{Json}
use Rattle.edi_line.specs.declared.broken.BrokenRule.{BrokenRule}
use Rattle.edi_json.specs.Texts.{ReadsAs, json_text}
use Rattle.edi_json.specs.inner.Lines.{HasLines}
use Rattle.edi_json.proofs.LineLemmas.{all_read, more_lines}
use Rattle.edi_json.proofs.PlainTexts.{plain_decimal}
use Rattle.edi_json_answers.specs.BrokenSheets.{IsTextOfValues, accepted_sheet_value, broken_rule_value, rule_count_value}
use Rattle.edi_json_answers.specs.declared.broken_sheets.RuleCount.{RuleCount}
use Rattle.edi_json_answers.proofs.Values.{IsFit, broken_at_fit}

either_fit : (b : Bool) (x y : Json) → IsFit x → IsFit y → IsFit (cond b x y)
either_fit true x y h k = h
either_fit false x y h k = k

pub broken_rule_fit : (name : List ℕ) (it : BrokenRule) → IsFit (broken_rule_value name it)
broken_rule_fit name it = either_fit (nat_lt it.rule 200) _ _ (broken_at_fit (codes "broken") name it.rule (Some it.at) None) (broken_at_fit (codes "broken") name it.rule None (Some it.at))

pub accepted_sheet_fit : (name : List ℕ) → IsFit (accepted_sheet_value name)
accepted_sheet_fit name =
    record { shallow = omega arith; plain = (tt, (tt, (plain_decimal 1, (tt, (tt, (tt, (tt, (tt, tt)))))))) }

pub rule_count_fit : (it : RuleCount) → IsFit (rule_count_value it)
rule_count_fit it =
    record { shallow = omega arith; plain = (tt, (tt, (plain_decimal 1, (tt, (tt, (tt, (plain_decimal it.rule, (tt, (plain_decimal it.count, (tt, tt)))))))))) }

-- the lines of one more of a list
pub lines_next : {X : Type 0} (f : X → Json) (xs : List X) (i : ℕ) (d : X) (old mid new : List ℕ) → i < length xs
    → HasLines old mid (map f (take i xs)) → HasLines mid new (f (get_or xs i d) ∷ []) → HasLines old new (map f (take (i + 1) xs))
lines_next f xs i d old mid new less h one =
    let split = ap (map f) (take_more xs i d less) ∙ map-append f (take i xs) (get_or xs i d ∷ []) in
    subst (HasLines old new) (sym split) (more_lines old mid new (map f (take i xs)) (f (get_or xs i d) ∷ []) h one)

-- a text that has lines behind nothing
pub text_of_lines : (old new : List ℕ) (values : List Json) → old ≡ [] → HasLines old new values → IsTextOfValues new values
text_of_lines old new values empty made =
    let text = made.text ∙ ap (λ (xs : List ℕ). xs ++ json_text values) empty in
    (text, subst (λ (xs : List ℕ). ReadsAs xs values) (sym text) (all_read values made.lines))
