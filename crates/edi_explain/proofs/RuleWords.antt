-- Words that are the numbers of rules.
use Rattle.std.proofs.Common.{◌≡◌, ◌<◌, ◌∙◌, ◌&&◌, ◌⊎◌, ℕ, Bool, true, List, [], ◌∷◌, Option, Some, None, Result, Ok, sym, refl, ap, subst, nat_eq, nat_lt, arith, inl, inr}
use Rattle.std.specs.Prelude.{MatchOption, decimal}
use Rattle.std.specs.Str.Parse.{ParsesUnsigned}
use Rattle.std.proofs.lemmas.Bool.{eqb-true, false≢true, ltb-true, and_parts, or_cases}
use Rattle.std.proofs.lemmas.Fmt.{parse-decimal}
use Rattle.edi_explain.specs.Explained.{IsRuleWord, IsTextOfWord}
use Rattle.edi_explain.specs.Rules.{is_among, rules}
use Rattle.edi_explain.specs.Texts.{IsRuleText, SaysRule}
use Rattle.edi_explain.specs.declared.text.RuleText.{RuleText}

-- each number is below a bound
abbrev are_below : ℕ → List ℕ → Bool
are_below bound [] = true
are_below bound (n ∷ ns) = nat_lt n bound && are_below bound ns

step : (bound n rule : ℕ) (inside : Bool) → nat_lt n bound ≡ true → (inside ≡ true → rule < bound) → (nat_eq rule n ≡ true) ⊎ (inside ≡ true) → rule < bound
step bound n rule inside small more (inl e) = omega (arith, eqb-true rule n e, ltb-true n bound small)
step bound n rule inside small more (inr k) = more k

below : (bound : ℕ) (numbers : List ℕ) (rule : ℕ) → are_below bound numbers ≡ true → is_among numbers rule ≡ true → rule < bound
below bound [] rule all h = absurd (false≢true h)
below bound (n ∷ ns) rule all h =
    let parts = and_parts (nat_lt n bound) (are_below bound ns) all in
    step bound n rule (is_among ns rule) parts.0 (below bound ns rule parts.1) (or_cases (nat_eq rule n) (is_among ns rule) h)

rule_below : (rule : ℕ) → is_among rules rule ≡ true → rule < 65536
rule_below rule h = below 65536 rules rule refl h

-- the word of a rule is read as its number
pub read_word : {E : Type 0} (word : List ℕ) (r : Result ℕ E) (rule : ℕ) → ParsesUnsigned 16 10 word r → IsRuleWord word rule → r ≡ Ok rule
read_word word r rule parses w = let small = rule_below rule w.1 in parse-decimal 16 rule word r small (omega (arith, small)) w.0 parses

-- the text of the number that a word spells
pub texts : (word : List ℕ) (number : ℕ) (found : Option RuleText) → word ≡ decimal number → ((rule : ℕ) → IsRuleWord word rule → rule ≡ number) → IsRuleText number found
    → MatchOption found ((rule : ℕ) → ¬ (IsRuleWord word rule)) (IsTextOfWord word)
texts word number None is one h = λ rule w. absurd (false≢true (sym (sym (subst (λ n. is_among rules n ≡ true) (one rule w) w.1) ∙ h.0)))
texts word number (Some text) is one h =
    ((is ∙ ap decimal (sym h.0.1), subst (λ n. is_among rules n ≡ true) (sym h.0.1) h.0.0), subst (λ n. SaysRule n (Some text)) (sym h.0.1) h.1)
