-- What runs over sheets of one schema answer.
use Rattle.std.specs.Prelude.{ℕ, List}
use Rattle.edi_schema.specs.Classes.{Classes}
use Rattle.edi_compare.specs.declared.fault.RunFault.{RunFault}
use Rattle.edi_compare.specs.Refused.{IsProper, IsRefusal}
use Rattle.edi_compare.specs.Runs.{MatchFault}

-- the refusal of a sheet that was read
abbrev pub UnderSchema : Classes → List ℕ → RunFault → Type 0
UnderSchema s b e = MatchFault e (λ _. ⊥) (λ _. ⊥) (λ _. ⊥) (λ f. IsProper f × IsRefusal s b f) (λ _. ⊥) (λ _. ⊥)
