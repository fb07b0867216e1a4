-- What runs over sheets of one schema answer.
use Rattle.std.specs.Prelude.{◌≡◌, ◌≤◌, ℕ, IfSome}
use Rattle.edi_schema.specs.Classes.{Classes}
use Rattle.edi_compare.specs.declared.fault.RunFault.{RunFault}
use Rattle.edi_compare.specs.Refused.{IsProper, IsRefusal}
use Rattle.edi_compare.specs.Runs.{HasFailed, IsTooLong, MatchFault, Seen}

-- the fact of the input of this number, of two, where A says that the first was read
abbrev pub OfTwo : ℕ → Type 0 → Type 0 → Type 0 → Type 0
OfTwo n A P Q = (1 ≤ n) × (n ≤ 2) × (n ≡ 1 → P) × (n ≡ 2 → A × Q)

-- why a sheet has no canonical file under a schema: it can't be read, is too long, or is refused
abbrev pub UnderFault : Classes → Seen → RunFault → Type 0
UnderFault s vec e = MatchFault e
    (λ n. (n ≡ 3) × HasFailed vec)
    (λ n. (n ≡ 3) × IsTooLong vec.before)
    (λ _. ⊥)
    (λ f. IfSome vec.before (λ b. IsProper f × IsRefusal s b f))
    (λ _. ⊥) (λ _. ⊥)
