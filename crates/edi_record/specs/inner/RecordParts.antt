-- The parts of the record whose zones are coming.
use Rattle.std.specs.Prelude.{◌≡◌, List, [], map}
use Rattle.edi_record.specs.AnyRecords.{AnyRecord, any_record}
use Rattle.edi_record.specs.declared.record.Attribute.{Attribute}
use Rattle.edi_record.specs.LinkEnds.{EndData}
use Rattle.edi_record.specs.declared.record.Record.{Record}
use Rattle.edi_record.specs.declared.record_parts.RecordHead.{RecordHead}
use Rattle.edi_record.specs.declared.record_parts.RecordParts.{RecordParts}

-- there are none
pub record AreEmpty (p : RecordParts) : Type 0 where
  pub points : p.points.items ≡ []
  pub ends : p.ends.items ≡ []
  pub attributes : p.attributes.items ≡ []
  pub extras : p.extras.items ≡ []

-- the record with a head and parts
abbrev pub record_with_parts : AnyRecord RecordHead Attribute EndData → Record
record_with_parts e = record {
  kind = e.head.kind;
  rid = e.head.rid;
  scp = e.head.scp.value;
  points = e.parts.points;
  ends = e.parts.ends;
  attributes = e.parts.attributes;
  extras = e.parts.extras;
}

-- these records in their order
abbrev pub records_with_parts : List (AnyRecord RecordHead Attribute EndData) → List Record
records_with_parts es = map record_with_parts es

-- the record with this head and these parts
abbrev pub whole : RecordHead → RecordParts → Record
whole h p = record_with_parts (any_record h p.points.items p.ends.items p.attributes.items p.extras.items)
