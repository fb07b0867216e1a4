-- What stands once some records have been read.
use Rattle.std.specs.Prelude.{ℕ, ◌≤◌, List}
use Rattle.edi_line.specs.ZoneData.{ZoneData}
use Rattle.edi_record.specs.declared.fault.RecordFault.{RecordFault}
use Rattle.edi_record.specs.declared.fault.RecordFault.TheVariants.{Memory, Broken}
use Rattle.edi_delivery.specs.Lots.{StatesLots}
use Rattle.edi_delivery.specs.DeliveryRules.{BreaksBehind, BreaksRuleAt}
use Rattle.edi_delivery.specs.declared.lot.Lot.{Lot}
use Rattle.edi_delivery.specs.declared.fault.LotFault.{LotFault}
use Rattle.edi_delivery.specs.declared.fault.LotFault.TheVariants.{Memory as LotMemory, Broken as LotBroken}

-- these records state these lots, and none of them breaks a rule
pub record AreTakenLots (before : List (List ZoneData)) (lots : List Lot) : Type 0 where
  pub states : StatesLots before lots
  pub sound : (rule place : ℕ) → ¬ (BreaksRuleAt before rule place)

-- the record behind these breaks the rule, and none that is less
pub record IsLeastHere (before : List (List ZoneData)) (group : List ZoneData) (rule : ℕ) : Type 0 where
  pub breaks : BreaksBehind before group rule
  pub least : (r : ℕ) → BreaksBehind before group r → rule ≤ r

-- the fault of the record at a place
abbrev pub lot_fault_at : ℕ → LotFault → RecordFault
lot_fault_at at (LotMemory e) = Memory e
lot_fault_at at (LotBroken rule) = Broken rule at
