-- The records of a sheet on their way to others: those of a block, of which so many are made, and those of the blocks
-- before and ahead.
use Rattle.std.specs.Prelude.{◌≡◌, ℕ, ◌+◌, ◌≤◌, List, [], length, take}
use Rattle.std.specs.List.{AllByRecursion}
use Rattle.edi_record.specs.AnyRecords.{Parts, AnyRecord, PartlyMade}
use Rattle.edi_record.specs.declared.block.Head.{Head}
use Rattle.edi_record.specs.declared.record.Attribute.{Attribute}
use Rattle.edi_record.specs.LinkEnds.{EndData}
use Rattle.edi_record.specs.declared.record_parts.RecordHead.{RecordHead}
use Rattle.edi_record.specs.declared.blocks_ahead.BlocksAhead.{BlocksAhead}
use Rattle.edi_record.specs.inner.BlockLists.{IsFull}
use Rattle.edi_record.specs.inner.FlatRecords.{no_stops, stops_before, FillLists}
use Rattle.edi_record.specs.inner.BlocksAhead.{all_ahead, AreAhead, IsBlockBefore}

module _ {G B F : Type 0} (old_heads : List (Head G)) (old : Parts B F) where
  -- these attributes and ends, with the points and the extra zones of so many of the old records
  abbrev pub parts_of_first : {A E : Type 0} → ℕ → List A → List E → Parts A E
  parts_of_first n attributes ends = record {
    points = take (stops_before n no_stops old_heads).points old.points;
    ends = ends;
    attributes = attributes;
    extras = take (stops_before n no_stops old_heads).extras old.extras;
  }

  -- records with these heads, attributes and ends are made of the first of the old ones
  pub record AreMadeOf {H A E : Type 0} (heads : List (Head H)) (attributes : List A) (ends : List E) : Type 0 where
    pub within : length heads ≤ length old_heads
    pub old_fill : FillLists old no_stops old_heads
    pub fill : FillLists (parts_of_first (length heads) attributes ends) no_stops heads

-- the records of a block, those that are made and those that are left
abbrev pub BlockUnderWay : (H A E : Type 0) → Type 0
BlockUnderWay H A E = PartlyMade H A E (AnyRecord RecordHead Attribute EndData)

-- the blocks that are made are full, and so few that their records can be counted; the open one has as many records as
-- a block that the others follow
pub record AreUnderWay {H A E : Type 0} (closed : List (List (AnyRecord H A E))) (opened : BlockUnderWay H A E)
    (ahead : BlocksAhead) : Type 0 where
  pub full : AllByRecursion IsFull closed
  pub few : length closed ≤ 4294967295
  pub block : IsBlockBefore (length opened.made + length opened.left) ahead
  pub blocks : AreAhead ahead

-- and it has records left unless none are left at all
pub record AreReady {H A E : Type 0} (closed : List (List (AnyRecord H A E))) (opened : BlockUnderWay H A E)
    (ahead : BlocksAhead) : Type 0 where
  pub under_way : AreUnderWay closed opened ahead
  pub none : opened.left ≡ [] → all_ahead ahead ≡ []
