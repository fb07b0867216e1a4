-- Which rules there are, and their texts.
use Rattle.std.specs.Prelude.{◌≡◌, ℕ, Bool, false, true, List, [], ◌∷◌, ◌++◌, nat_eq, Option, MatchOption}
use Rattle.std.specs.List.{list_any}
use Rattle.edi_explain.specs.declared.text.RuleText.{RuleText}

abbrev pub line_rules : List ℕ
line_rules = 101 ∷ 102 ∷ 103 ∷ 104 ∷ 105 ∷ 106 ∷ 107 ∷ 108 ∷ 109 ∷ 110 ∷ []

abbrev pub record_rules : List ℕ
record_rules = 201 ∷ 202 ∷ 203 ∷ 204 ∷ 205 ∷ 206 ∷ 207 ∷ 208 ∷ []

abbrev pub reference_rules : List ℕ
reference_rules = 301 ∷ 302 ∷ 303 ∷ 304 ∷ 305 ∷ 306 ∷ 307 ∷ []

abbrev pub topology_rules : List ℕ
topology_rules = 401 ∷ 402 ∷ 403 ∷ 404 ∷ 405 ∷ 406 ∷ []

abbrev pub object_rules : List ℕ
object_rules = 501 ∷ []

abbrev pub schema_rules : List ℕ
schema_rules = 601 ∷ 602 ∷ 603 ∷ 604 ∷ []

abbrev pub delivery_rules : List ℕ
delivery_rules = 701 ∷ 702 ∷ 703 ∷ 704 ∷ 705 ∷ 706 ∷ 707 ∷ 708 ∷ 709 ∷ 710 ∷ 711 ∷ []

-- the numbers of all rules
abbrev pub rules : List ℕ
rules =
    (((((line_rules ++ record_rules) ++ reference_rules) ++ topology_rules) ++ object_rules) ++ schema_rules)
    ++ delivery_rules

-- the number is one of these
abbrev pub is_among : List ℕ → ℕ → Bool
is_among numbers rule = list_any (nat_eq rule) numbers

-- the text of a rule among these, or the number is none of theirs
abbrev pub IsTextIfAny : List ℕ → ℕ → Option RuleText → Type 0
IsTextIfAny numbers rule found =
    MatchOption found (is_among numbers rule ≡ false) (λ text. (is_among numbers rule ≡ true) × (text.rule ≡ rule))
