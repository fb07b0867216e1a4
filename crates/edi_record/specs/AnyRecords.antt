-- A record as its head and its parts, whatever its head, its attributes and its ends are.
use Rattle.std.specs.Prelude.{List}
use Rattle.edi_record.specs.declared.record.Extra.{Extra}
use Rattle.edi_record.specs.declared.record.Point.{Point}
use Rattle.edi_record.specs.declared.any_record.AnyRecordRef.{AnyRecordRef}

-- the parts of a record
pub record Parts (A E : Type 0) : Type 0 where
  pub points : List Point
  pub ends : List E
  pub attributes : List A
  pub extras : List Extra

-- a record as its head and its parts
pub record AnyRecord (H A E : Type 0) : Type 0 where
  pub head : H
  pub parts : Parts A E

module _ {H A E : Type 0} where
  -- the record with this head and these parts
  abbrev pub any_record : H → List Point → List E → List A → List Extra → AnyRecord H A E
  any_record head points ends attributes extras =
      record { head = head; parts = record { points = points; ends = ends; attributes = attributes; extras = extras } }

  -- the record that is borrowed
  abbrev pub record_lent : AnyRecordRef H A E → AnyRecord H A E
  record_lent r = any_record r.head.now r.points.now r.ends.now r.attributes.now r.extras.now

-- records on their way to others: those that are made already, and those that are left
pub record PartlyMade (H A E R : Type 0) : Type 0 where
  pub made : List (AnyRecord H A E)
  pub left : List R
