-- What the runs over readers and a writer answer and write.
use Rattle.std.specs.Prelude.{ℕ, List}
use Rattle.edi_schema.specs.Roles.{KindCodes}
use Rattle.edi_compare.specs.Bundle.{OfParts}
use Rattle.edi_compare.specs.declared.fault.RunFault.{RunFault}
use Rattle.edi_compare.specs.Runs.{RefusesSchema, RefusesSheet, RefusesSecond, MatchFault}

-- the fault of a sheet that was read: its schema is refused, or itself
abbrev pub OneSheetFault : KindCodes → List ℕ → List ℕ → List ℕ → RunFault → Type 0
OneSheetFault kinds scd dic b e =
    MatchFault e (λ _. ⊥) (λ _. ⊥) (RefusesSchema kinds scd dic) (RefusesSheet kinds scd dic b) (λ _. ⊥) (λ _. ⊥)

-- the fault of two sheets that were read: their schema is refused, or the first, or the second
abbrev pub PairFault : KindCodes → List ℕ → List ℕ → List ℕ → List ℕ → RunFault → Type 0
PairFault kinds scd dic a b e =
    MatchFault e (λ _. ⊥) (λ _. ⊥) (RefusesSchema kinds scd dic) (RefusesSheet kinds scd dic a)
    (RefusesSecond kinds scd dic a b) (λ _. ⊥)

abbrev pub BundleFault : KindCodes → List ℕ → RunFault → Type 0
BundleFault kinds bundle e = MatchFault e (λ _. ⊥) (λ _. ⊥) (λ f. OfParts bundle (λ s d v. RefusesSchema kinds s d f))
    (λ f. OfParts bundle (λ s d v. RefusesSheet kinds s d v f)) (λ _. ⊥) (λ _. ⊥)
