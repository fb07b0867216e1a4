-- What is said of a file, and which of the broken rules a refusal names.
use Rattle.std.specs.Prelude.{ℕ, List}
use Rattle.edi_line.specs.ZoneData.{ZoneData}
use Rattle.edi_line.specs.LineRules.{BreaksLineRule, IsZonesOf}
use Rattle.edi_line.specs.Refusal.{IsLineRefusal, IsUnbroken}
use Rattle.edi_line.specs.Zones.{groups_of}
use Rattle.edi_record.specs.RecordRefusal.{IsRecordRefusal}
use Rattle.edi_delivery.specs.Lots.{StatesLots}
use Rattle.edi_delivery.specs.DeliveryRules.{BreaksDeliveryRule}
use Rattle.edi_delivery.specs.declared.fault.DeliveryFault.{DeliveryFault}
use Rattle.edi_delivery.specs.declared.fault.DeliveryFault.TheVariants.{Line, Record}
use Rattle.edi_delivery.specs.declared.lot.Lot.{Lot}

-- nothing is broken, and the lots are those of the file
pub record IsDeliveryOf (bytes : List ℕ) (lots : List Lot) : Type 0 where
  pub lines : IsUnbroken (BreaksLineRule bytes)
  pub zones : List ZoneData
  pub of_file : IsZonesOf bytes zones
  pub rules : IsUnbroken (BreaksDeliveryRule (groups_of zones))
  pub states : StatesLots (groups_of zones) lots

-- the refusal of a file: by a rule of lines, or by one of deliveries where no rule of lines is broken
abbrev pub IsDeliveryRefusal : List ℕ → DeliveryFault → Type 0
IsDeliveryRefusal bytes (Line fault) = IsLineRefusal (BreaksLineRule bytes) fault
IsDeliveryRefusal bytes (Record fault) = IsUnbroken (BreaksLineRule bytes)
    × ((zones : List ZoneData) × IsZonesOf bytes zones × IsRecordRefusal (BreaksDeliveryRule (groups_of zones)) fault)
