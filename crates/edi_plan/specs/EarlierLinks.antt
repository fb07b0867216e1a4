-- The earlier link that rule 307 speaks of.
use Rattle.std.specs.Prelude.{◌≡◌, ◌≢◌, ⊤, ℕ, ◌-◌, ◌<◌, ◌≤◌, List, slice_get, Option, Some, None, MatchOption, Any}
use Rattle.edi_record.specs.declared.fault.RecordFault.{RecordFault}
use Rattle.edi_record.specs.declared.fault.RecordFault.TheVariants.{Memory, Broken}
use Rattle.edi_record.specs.declared.record.Kind.TheVariants.{Par}
use Rattle.edi_record.specs.declared.record.Record.{Record}
use Rattle.edi_plan.specs.ReferenceRules.{IsLinkOfRole, Names}
use Rattle.edi_schema.specs.Classes.{Classes}
use Rattle.edi_schema.specs.declared.role.Role.{Role}
use Rattle.edi_schema.specs.declared.role.Role.TheVariants.{Plain}

-- the least number of which this holds
pub record IsLeast (P : ℕ → Type 0) (n : ℕ) : Type 0 where
  pub is : P n
  pub least : (k : ℕ) → P k → n ≤ k

-- the least, or it holds of none
abbrev pub IsLeastIfAny : (ℕ → Type 0) → Option ℕ → Type 0
IsLeastIfAny P found = MatchOption found ((k : ℕ) → ¬ (P k)) (IsLeast P)

-- two records have an end each that names one arc
abbrev pub ShareArc : Classes → List Record → Record → Record → Type 0
ShareArc s list q r = (a : ℕ) × Any (λ e. Names s list e a Par) q.ends × Any (λ e. Names s list e a Par) r.ends

-- an earlier link of the kind of the one at this place, and of an arc of that one; places are from 0
abbrev pub SharesSide : Classes → List Record → ℕ → ℕ → Type 0
SharesSide s list place m =
    (q r : Record) × (role : Role) × (m < place) × (slice_get list m ≡ Some q) × (slice_get list place ≡ Some r)
    × (role ≢ Plain) × IsLinkOfRole s list q role × IsLinkOfRole s list r role × ShareArc s list q r

-- the first such link, of a fault by 307; no other fault speaks of one
abbrev pub IsEarlierLinkIfAny : Classes → List Record → RecordFault → Option ℕ → Type 0
IsEarlierLinkIfAny s list (Memory e) earlier = ⊤
IsEarlierLinkIfAny s list (Broken rule at) earlier =
    (rule ≡ 307 → IsLeastIfAny (SharesSide s list (at - 1)) earlier) × (rule ≢ 307 → earlier ≡ None)
