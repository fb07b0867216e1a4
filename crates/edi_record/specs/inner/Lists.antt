-- What a list of records holds while groups of zones come.
use Rattle.std.specs.Prelude.{◌≡◌, ℕ, ◌+◌, true, List, [], ◌∷◌, ◌++◌, length, Option, Some, None, ⊤}
use Rattle.std.specs.List.{AllByRecursion, AllZip, list_all}
use Rattle.edi_line.specs.ZoneData.{ZoneData}
use Rattle.edi_line.specs.inner.Refusal.{first_broken}
use Rattle.edi_record.specs.Shapes.{is_in_shape}
use Rattle.edi_record.specs.inner.Records.{ReadsAsRecord}
use Rattle.edi_line.specs.Groups.{IsOneRecord}
use Rattle.edi_record.specs.inner.RecordParts.{whole}
use Rattle.edi_record.specs.inner.RecordRules.{kind_in, record_tests}
use Rattle.edi_record.specs.inner.Stored.{StoresRecord, kept}
use Rattle.edi_record.specs.declared.draft.Draft.{Draft}
use Rattle.edi_record.specs.declared.list.Coming.{Coming}
use Rattle.edi_record.specs.declared.list.Coming.TheVariants.{Nothing, WithoutKind, Stored}
use Rattle.edi_record.specs.declared.list.RecordsUntilFault.{RecordsUntilFault}
use Rattle.edi_record.specs.declared.record_parts.RecordHead.{RecordHead}
use Rattle.edi_record.specs.declared.record_parts.RecordParts.{RecordParts}
use Rattle.edi_record.specs.declared.fault.RecordFault.{RecordFault}
use Rattle.edi_record.specs.declared.fault.RecordFault.TheVariants.{Memory, Broken}
use Rattle.edi_record.specs.declared.record.Record.{Record}

-- a group that breaks no rule
abbrev pub IsSound : List ZoneData → Type 0
IsSound group = first_broken (record_tests group) ≡ None

-- the groups state the records, and none breaks a rule
pub record IsListOfGroups (groups : List (List ZoneData)) (list : List Record) : Type 0 where
  pub states : AllZip ReadsAsRecord groups list
  pub sound : AllByRecursion IsSound groups
  pub shape : list_all is_in_shape list ≡ true

-- one of the groups breaks a rule, and none before it
pub record IsFirstBroken (groups : List (List ZoneData)) (rule place : ℕ) : Type 0 where
  pub before : List (List ZoneData)
  pub group : List ZoneData
  pub after : List (List ZoneData)
  pub cut : groups ≡ before ++ group ∷ after
  pub sound : AllByRecursion IsSound before
  pub broken : first_broken (record_tests group) ≡ Some rule
  pub place_is : place ≡ length before + 1

abbrev pub IsMadeOfGroups : List (List ZoneData) → List Record → Option RecordFault → Type 0
IsMadeOfGroups groups list None = IsListOfGroups groups list
IsMadeOfGroups groups list (Some (Memory e)) = ⊤
IsMadeOfGroups groups list (Some (Broken rule at)) = IsFirstBroken groups rule at

-- of the record that is coming so much is stored, whatever zones of it are left
pub record StoresComing (d : Draft) (parts : RecordParts) (group : List ZoneData) : Type 0 where
  pub kind : kind_in group ≡ Some d.kind
  pub stores : (left : List ZoneData) → StoresRecord (kept d parts) left (group ++ left)

abbrev pub IsComingOf : Coming → RecordParts → List ZoneData → Type 0
IsComingOf Nothing parts group = group ≡ []
IsComingOf WithoutKind parts group = kind_in group ≡ None
IsComingOf (Stored d) parts group = StoresComing d parts group

-- no rule is broken, or nothing more is stored
abbrev pub IsComingUnless : Option RecordFault → Coming → RecordParts → List ZoneData → Type 0
IsComingUnless None coming parts group = IsComingOf coming parts group
IsComingUnless (Some fault) coming parts group = coming ≡ Nothing

-- these groups and these zones of the next have come
pub record HoldsRecords (groups : List (List ZoneData)) (group : List ZoneData) (r : RecordsUntilFault) : Type 0 where
  pub made : IsMadeOfGroups groups r.list r.fault
  pub coming_is : IsComingUnless r.fault r.coming r.parts group

-- the group states the record that was made of it, and breaks no rule
pub record IsRecordOf (group : List ZoneData) (r : Record) : Type 0 where
  pub states : ReadsAsRecord group r
  pub sound : IsSound group
  pub shape : is_in_shape r ≡ true

-- a record was made of what was stored, or nothing was stored
abbrev pub IsFinished : Coming → RecordParts → Option RecordHead → RecordParts → Type 0
IsFinished coming parts None made = coming ≡ Nothing
IsFinished coming parts (Some head) made =
    (group : List ZoneData) → IsOneRecord group → IsComingOf coming parts group → IsRecordOf group (whole head made)
