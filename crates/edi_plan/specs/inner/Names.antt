-- The names of the records of a sheet.
use Rattle.std.specs.Prelude.{◌≡◌, ℕ, ◌<◌, Bool, false, not, ◌&&◌, List, Option, MatchOption, slice_get, Some, None, if◌then◌else◌}
use Rattle.std.specs.List.{filter}
use Rattle.std.specs.Map.{lookup}
use Rattle.std.specs.Option.{option_or}
use Rattle.edi_record.specs.Shapes.{kind_code}
use Rattle.edi_record.specs.declared.name.Name.{Name}
use Rattle.edi_record.specs.declared.record.Kind.{Kind}
use Rattle.edi_record.specs.declared.record.Record.{Record}
use Rattle.edi_schema.specs.Classes.{is_name}
use Rattle.edi_plan.specs.PlanOf.{own_name, place_named}
use Rattle.edi_record.specs.Records.{is_link}
use Rattle.edi_plan.specs.declared.names.RecordNameRef.{RecordNameRef}
use Rattle.edi_plan.specs.declared.names.NameTable.{NameTable}

-- a name without where it lies in memory
abbrev pub name_lent : RecordNameRef → Name
name_lent n = record { rty = kind_code n.kind; rid = n.rid.now }

-- the place that a table has for a name
abbrev pub place_in : List (RecordNameRef × ℕ) → RecordNameRef → Option ℕ
place_in table name = lookup (λ n. is_name (name_lent name) (name_lent n)) table

-- the new table has this place for the name if the old has none, and what the old has for each other
abbrev pub IsPlaceAdded : List (RecordNameRef × ℕ) → RecordNameRef → ℕ → List (RecordNameRef × ℕ) → Type 0
IsPlaceAdded old name place new =
    (other : RecordNameRef) → place_in new other
    ≡ option_or (place_in old other) (if is_name (name_lent name) (name_lent other) then Some place else None)

-- each name of a record that is no link has the place of the first record of that name, and no other such name has one
abbrev pub AreFirstPlaces : List Record → NameTable → Type 0
AreFirstPlaces list names =
    (name : RecordNameRef) → is_link name.kind ≡ false
    → place_in names.places.entries name ≡ place_named list (name_lent name)

-- the names of such records go into a table: all, but for those of links where these rise
abbrev pub is_tabled : Bool → Kind → Bool
is_tabled links_rise kind = not (links_rise && is_link kind)

abbrev pub tabled : Bool → List Record → List Record
tabled links_rise list = filter (λ r. is_tabled links_rise r.kind) list

-- the record at this place has the name of an earlier one
abbrev pub RepeatsNameAt : List Record → ℕ → Type 0
RepeatsNameAt list k =
    (j : ℕ) × (q r : Record) × (j < k) × (slice_get list j ≡ Some q) × (slice_get list k ≡ Some r)
    × (own_name q ≡ own_name r)

-- and none before it does
pub record IsFirstRepeatedName (list : List Record) (k : ℕ) : Type 0 where
  pub repeats : RepeatsNameAt list k
  pub none_before : (j : ℕ) → j < k → ¬ (RepeatsNameAt list j)

-- the first repeat, or there is none
abbrev pub IsFirstRepeatedNameIfAny : List Record → Option ℕ → Type 0
IsFirstRepeatedNameIfAny list found = MatchOption found ((j : ℕ) → ¬ (RepeatsNameAt list j)) (IsFirstRepeatedName list)
