-- The hints on a file that is refused as a sheet.
use Rattle.std.specs.Prelude.{◌≡◌, ◌↔◌, ◌⊎◌, ◌++◌, ℕ, Bool, IsTrue, List, []}
use Rattle.edi_line.specs.LineRules.{BreaksLineRule}
use Rattle.edi_line.specs.Refusal.{IsLeastBroken, IsUnbroken}
use Rattle.edi_explain.specs.Cuts.{ShowsCut, cut_hint}
use Rattle.edi_explain.specs.Hints.{AreHints}
use Rattle.edi_explain.specs.Lengths.{CountsCharacters, length_hint}
use Rattle.edi_explain.specs.declared.hints.DeliveryPart.TheVariants.{Vec}

-- the hints on the line with which the file b breaks a rule: that its length counts characters, where it breaks 103,
-- and that the file was cut in it
abbrev pub HintAtLine : List ℕ → List ℕ → ℕ → ℕ → List ℕ → Type 0
HintAtLine name b rule at lines =
    (counts cut : Bool) × (IsTrue counts ↔ ((rule ≡ 103) × CountsCharacters b at)) × (IsTrue cut ↔ ShowsCut b rule at)
    × (lines ≡ length_hint name counts ++ cut_hint name cut)

-- the hints on the first broken line of the file b, by the least rule that it breaks; none where no line is broken
abbrev pub HintAtLines : List ℕ → List ℕ → List ℕ → Type 0
HintAtLines name b lines =
    (IsUnbroken (BreaksLineRule b) × (lines ≡ []))
    ⊎ ((rule at : ℕ) × IsLeastBroken (BreaksLineRule b) rule at × HintAtLine name b rule at lines)

-- The hints on the file b, which is refused as a sheet, by its name: those on its first broken line, and then those on
-- a file in the place of a VEC file.
abbrev pub AreRefusalHints : List ℕ → List ℕ → List ℕ → Type 0
AreRefusalHints name b lines = (of_lines of_file : List ℕ) × HintAtLines name b of_lines × AreHints name b Vec of_file
    × (lines ≡ of_lines ++ of_file)
