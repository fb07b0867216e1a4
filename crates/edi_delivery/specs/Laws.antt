-- Laws of deliveries.
use Rattle.std.specs.Prelude.{◌≡◌, ◌≢◌, ◌↔◌, ◌⊎◌, ⊤, ℕ, ◌<◌, ◌≤◌, true, List, [], length, codes, All}
use Rattle.std.specs.Prelude.{map, filter, flat_map}
use Rattle.std.specs.List.{AllByRecursion, IsDistinct}
use Rattle.std.specs.Str.{str_to_ascii_lowercase}
use Rattle.edi_line.specs.ZoneData.{ZoneData}
use Rattle.edi_line.specs.LineRules.{IsZonesOf}
use Rattle.edi_line.specs.Zones.{groups_of}
use Rattle.edi_line.specs.declared.fault.LineFault.TheVariants as line
use Rattle.edi_record.specs.Records.{values}
use Rattle.edi_record.specs.declared.fault.RecordFault.TheVariants as record_fault
use Rattle.edi_delivery.specs.NameParts.{is_name_part, is_file_name, is_same_name}
use Rattle.edi_delivery.specs.Lots.{is_lot, files_of}
use Rattle.edi_delivery.specs.DeliveryRefusal.{IsDeliveryOf, IsDeliveryRefusal}
use Rattle.edi_delivery.specs.declared.fault.DeliveryFault.{DeliveryFault}
use Rattle.edi_delivery.specs.declared.fault.DeliveryFault.TheVariants.{Line, Record}
use Rattle.edi_delivery.specs.declared.lot.Lot.{Lot}

-- ---- one answer

-- the fault is lack of memory
abbrev pub WantsMemory : DeliveryFault → Type 0
WantsMemory (Line (line.Memory e)) = ⊤
WantsMemory (Line (line.Broken rule at)) = ⊥
WantsMemory (Record (record_fault.Memory e)) = ⊤
WantsMemory (Record (record_fault.Broken rule at)) = ⊥

-- a file states one delivery at most
abbrev pub DeliveriesAreOne : Type 0
DeliveriesAreOne = (bytes : List ℕ) (lots others : List Lot)
    → IsDeliveryOf bytes lots → IsDeliveryOf bytes others → lots ≡ others

-- and none where it is refused
abbrev pub RefusedFilesStateNone : Type 0
RefusedFilesStateNone = (bytes : List ℕ) (lots : List Lot) (fault : DeliveryFault)
    → IsDeliveryOf bytes lots → IsDeliveryRefusal bytes fault → WantsMemory fault

-- a file has one refusal at most
abbrev pub DeliveryRefusalsAreOne : Type 0
DeliveryRefusalsAreOne = (bytes : List ℕ) (one other : DeliveryFault)
    → IsDeliveryRefusal bytes one → IsDeliveryRefusal bytes other
    → WantsMemory one ⊎ (WantsMemory other ⊎ (one ≡ other))

-- ---- names

-- the name of a lot, and those of its files
pub record HasSafeNames (lot : Lot) : Type 0 where
  pub name : is_name_part lot.name ≡ true
  pub files : AllByRecursion (λ file. is_file_name file ≡ true) (files_of lot)

-- What each delivery keeps: it has a lot, and each lot a VEC file; the names are safe; no two lots have the same name,
-- and no two files.
pub record IsDelivery (lots : List Lot) : Type 0 where
  pub some : lots ≢ []
  pub vecs : AllByRecursion (λ (lot : Lot). lot.vecs ≢ []) lots
  pub safe : AllByRecursion HasSafeNames lots
  pub lots_apart : IsDistinct is_same_name (map (λ (lot : Lot). lot.name) lots)
  pub files_apart : IsDistinct is_same_name (flat_map files_of lots)

abbrev pub StatedDeliveriesAreDeliveries : Type 0
StatedDeliveriesAreDeliveries = (bytes : List ℕ) (lots : List Lot) → IsDeliveryOf bytes lots → IsDelivery lots

-- a name that leads out of no folder, and does nothing to a terminal: it has no `/`, no `\`, no space and no control
-- byte, and is neither `.` nor `..`
pub record StaysInFolder (name : List ℕ) : Type 0 where
  pub some : name ≢ []
  pub short : length name ≤ 255
  pub printed : All (λ c. (32 < c) × (c < 127)) name
  pub no_slash : All (λ c. c ≢ 47) name
  pub no_backslash : All (λ c. c ≢ 92) name
  pub not_here : name ≢ codes "."
  pub not_above : name ≢ codes ".."

abbrev pub FileNamesStayInFolders : Type 0
FileNamesStayInFolders = (name : List ℕ) → is_file_name name ≡ true → StaysInFolder name

-- two names are the same exactly if they are equal in lower case
abbrev pub NamesAreSameInLowerCase : Type 0
NamesAreSameInLowerCase = (a b : List ℕ)
    → (is_same_name a b ≡ true) ↔ (str_to_ascii_lowercase a ≡ str_to_ascii_lowercase b)

-- ---- order

-- the zones of the records of lots, in the order of the file
abbrev pub lot_zones : List (List ZoneData) → List ZoneData
lot_zones groups = flat_map (λ g. g) (filter is_lot groups)

-- lots are in the order of their LON, and their VEC files in that of GDN
abbrev pub LotsAreInOrder : Type 0
LotsAreInOrder = (bytes : List ℕ) (lots : List Lot) (zones : List ZoneData)
    → IsDeliveryOf bytes lots → IsZonesOf bytes zones
    → (map (λ (lot : Lot). lot.name) lots ≡ values (codes "LON") (lot_zones (groups_of zones)))
    × (flat_map (λ (lot : Lot). lot.vecs) lots ≡ values (codes "GDN") (lot_zones (groups_of zones)))
