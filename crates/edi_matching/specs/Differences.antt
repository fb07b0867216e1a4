-- What a matching of two plans leaves out.
use Rattle.std.specs.Prelude.{◌≡◌, ◌⊎◌, ◌↔◌, ℕ, Bool, true, if◌then◌else◌, List, Option, IsPermutation, slice_index}
use Rattle.std.specs.List.{AllByRecursion}
use Rattle.edi_record.specs.declared.record.Kind.TheVariants.{Pno, Par, Lnk}
use Rattle.edi_schema.specs.Classes.{Classes}
use Rattle.edi_schema.specs.Roles.{exchanged}
use Rattle.edi_schema.specs.declared.role.Role.{Role}
use Rattle.edi_schema.specs.declared.role.Role.TheVariants.{Left, Right}
use Rattle.edi_plan.specs.Plans.{PlanData, IsPlace, record_at}
use Rattle.edi_plan.specs.Sides.{Side}
use Rattle.edi_plan.specs.declared.record.PlanRecord.{PlanRecord}
use Rattle.edi_rank.specs.Labelling.{turned_at}
use Rattle.edi_rank.specs.Same.{directed, CarriesRecord, Same}
use Rattle.edi_matching.specs.Matchings.{GoesTo, IsMatched, IsTotal, targets_of}
use Rattle.edi_matching.specs.declared.matching.Matching.{Matching}

-- the record b holds what the record a does; if a is an arc, its points may be backwards
pub record HoldsSame (a b : PlanRecord) (turned : Bool) : Type 0 where
  pub kind : b.kind ≡ a.kind
  pub class : b.class ≡ a.class
  pub attributes : IsPermutation a.attributes b.attributes
  pub extras : b.extras ≡ a.extras
  pub points : b.points ≡ directed turned a.points
  pub arc : turned ≡ true → a.kind ≡ Par

-- a node or an arc of p, at the place i, and one of q that holds the same
pub record ArePartners (p q : PlanData) (i j : ℕ) (turned : Bool) : Type 0 where
  pub here : IsPlace p i
  pub there : IsPlace q j
  pub kind : ((record_at p i).kind ≡ Pno) ⊎ ((record_at p i).kind ≡ Par)
  pub same : HoldsSame (record_at p i) (record_at q j) turned

-- each node and each arc of p that has a partner in q is matched
abbrev pub MatchesPartners : PlanData → PlanData → Matching → Type 0
MatchesPartners p q m = (i j : ℕ) (turned : Bool) → ArePartners p q i j turned → IsMatched m.to i

-- a record goes to the place j
abbrev pub IsReached : List (Option ℕ) → ℕ → Type 0
IsReached to j = (i : ℕ) × GoesTo to i j

-- The matching leaves out a record of p, at the place i, and one of q, though the ends of the one are matched and it is
-- carried onto the other.
pub record IsMissed (s : Classes) (p q : PlanData) (m : Matching) (i j : ℕ) : Type 0 where
  pub here : IsPlace p i
  pub there : IsPlace q j
  pub left : ¬ (IsMatched m.to i)
  pub free : ¬ (IsReached m.to j)
  pub ends : AllByRecursion (λ e. IsMatched m.to e.target) (record_at p i).ends
  pub carried : CarriesRecord s (slice_index (targets_of m.to)) (turned_at m.turned) i (record_at p i) (record_at q j)

-- no link is left out together with one that it is carried onto
abbrev pub MatchesLinks : Classes → PlanData → PlanData → Matching → Type 0
MatchesLinks s p q m = (i j : ℕ) → (record_at p i).kind ≡ Lnk → ¬ (IsMissed s p q m i j)

-- what a role of an arc becomes where the arc goes: the exchanged one, if it is reversed
abbrev pub role_there : Matching → ℕ → Role → Role
role_there m arc role = if turned_at m.turned arc then exchanged role else role

-- a matched arc has f by the role, and the arc that it goes to has g by what the role becomes
pub record AreBeside (p q : PlanData) (m : Matching) (role : Role) (arc f g : ℕ) : Type 0 where
  pub other : ℕ
  pub goes : GoesTo m.to arc other
  pub here : Side p arc role f
  pub there : Side q other (role_there m arc role) g

-- no two that a matched arc and the one it goes to have by the role are left out, though the one is carried onto the
-- other
abbrev pub MatchesBeside : Role → Classes → PlanData → PlanData → Matching → Type 0
MatchesBeside role s p q m = (arc f g : ℕ) → AreBeside p q m role arc f g → ¬ (IsMissed s p q m f g)

-- no face of a matched arc is left out together with that on the same side of the arc it goes to, though the one is
-- carried onto the other
pub record MatchesFaces (s : Classes) (p q : PlanData) (m : Matching) : Type 0 where
  pub on_left : MatchesBeside Left s p q m
  pub on_right : MatchesBeside Right s p q m

-- the matching leaves nothing out of plans with one character set exactly if the plans are the same
abbrev pub IsTotalIfSame : Classes → PlanData → PlanData → Matching → Type 0
IsTotalIfSame s p q m = (IsTotal p q m × (q.cse ≡ p.cse)) ↔ Same s p q
