-- Inputs that are read whole.
use Rattle.std.specs.Prelude.{◌≡◌, ◌⊎◌, ℕ, List, Option, IfSome}
use Rattle.edi_compare.specs.Runs.{MatchFault}
use Rattle.edi_compare.specs.declared.fault.RunFault.{RunFault}
use Rattle.edi_compare.specs.declared.fault.RunFault.TheVariants.{Read}
use Rattle.edi_answers.specs.Effects.{Inputs}
use Rattle.edi_answers.specs.SheetRuns.{Gives, HasFailedAt, HoldsTooMuch, IsMissing, IsThere}

-- a fact of what the input of a path holds, where it is known
abbrev pub OfWholeInput : Inputs → List ℕ → (List ℕ → Type 0) → Type 0
OfWholeInput inputs path P = (contents : Option (List ℕ)) × Gives inputs path contents × IfSome contents P

-- Why the input of a path can't be read: it is missing; or it was opened, and it failed or is too long, or memory ran
-- out.
abbrev pub WholeInputFault : Inputs → List ℕ → RunFault → Type 0
WholeInputFault inputs path e =
    (IsMissing inputs path × (e ≡ Read 1))
    ⊎ (IsThere inputs path
    × MatchFault e (λ n. (n ≡ 1) × HasFailedAt inputs path) (λ n. (n ≡ 1) × HoldsTooMuch inputs path)
    (λ _. ⊥) (λ _. ⊥) (λ _. ⊥) (λ _. ⊥))
