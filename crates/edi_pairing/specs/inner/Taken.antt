-- The names of records as they are taken from the records' zones.
use Rattle.std.specs.Prelude.{◌≡◌, ℕ, List, [], map, codes, unwrap_or}
use Rattle.edi_line.specs.Groups.{IsOneRecord}
use Rattle.edi_line.specs.ZoneData.{ZoneData, first}
use Rattle.edi_record.specs.Records.{values}
use Rattle.edi_record.specs.declared.record.Kind.{Kind}
use Rattle.edi_record.specs.declared.record.Kind.TheVariants.{Pno}
use Rattle.edi_record.specs.Titles.{IsTitleOf, TitleData}
use Rattle.edi_record.specs.inner.RecordRules.{kind_in, kind_named}
use Rattle.edi_pairing.specs.declared.names.RecordName.{RecordName}
use Rattle.edi_pairing.specs.declared.taken.TakenNames.{TakenNames}

-- the type that the first RTY names, or that of nodes
abbrev pub taken_kind : List ZoneData → Kind
taken_kind group = unwrap_or (kind_in group) Pno

-- the value of the first RID, or nothing
abbrev pub taken_rid : List ZoneData → List ℕ
taken_rid group = unwrap_or (first (values (codes "RID") group)) []

abbrev pub taken_name : List ZoneData → RecordName
taken_name group = record { kind = taken_kind group; rid = taken_rid group }

-- the name of a record that says this of itself
abbrev pub titled_name : TitleData → RecordName
titled_name title = record { kind = unwrap_or (kind_named title.rty) Pno; rid = unwrap_or title.rid [] }

-- the names are those of these records, and of the next these zones have come
pub record HasTaken (taken : TakenNames) (groups : List (List ZoneData)) (group : List ZoneData) : Type 0 where
  pub names : taken.list.items ≡ map taken_name groups
  pub title : IsOneRecord group → IsTitleOf group taken.title
