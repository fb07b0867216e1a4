-- The earlier records that the rules of topology speak of; places are from 0.
use Rattle.std.specs.Prelude.{◌≡◌, ◌≢◌, ◌⊎◌, ℕ, ◌-◌, ◌<◌, List, reverse, Option, None}
use Rattle.edi_record.specs.declared.fault.RecordFault.{RecordFault}
use Rattle.edi_record.specs.declared.fault.RecordFault.TheVariants.{Memory, Broken}
use Rattle.edi_record.specs.declared.record.Kind.TheVariants.{Par}
use Rattle.edi_record.specs.declared.record.Point.{Point}
use Rattle.edi_plan.specs.EarlierLinks.{IsLeastIfAny}
use Rattle.edi_plan.specs.Plans.{PlanData}
use Rattle.edi_topo.specs.TopologyRules.{AreEqualNodes, HasPoints}

-- of rule 403: an earlier node equal to the one at this place
abbrev pub IsEqualNode : PlanData → ℕ → ℕ → Type 0
IsEqualNode p place m = (m < place) × AreEqualNodes p m place

-- of rule 405: an earlier arc with the points of the one at this place, in either direction
abbrev pub SharesPoints : PlanData → ℕ → ℕ → Type 0
SharesPoints p place m =
    (earlier points : List Point) × (m < place) × HasPoints p Par m earlier × HasPoints p Par place points
    × ((points ≡ earlier) ⊎ (points ≡ reverse earlier))

-- the first record that a rule speaks of at a place: 403 and 405 speak of one, the others of none
pub record IsEarlierByRule (p : PlanData) (rule place : ℕ) (earlier : Option ℕ) : Type 0 where
  pub nodes : rule ≡ 403 → IsLeastIfAny (IsEqualNode p place) earlier
  pub arcs : rule ≡ 405 → IsLeastIfAny (SharesPoints p place) earlier
  pub others : rule ≢ 403 → rule ≢ 405 → earlier ≡ None

-- the same of a fault; lack of memory speaks of none
abbrev pub IsEarlierRecordIfAny : PlanData → RecordFault → Option ℕ → Type 0
IsEarlierRecordIfAny p (Memory e) earlier = earlier ≡ None
IsEarlierRecordIfAny p (Broken rule at) earlier = IsEarlierByRule p rule (at - 1) earlier
