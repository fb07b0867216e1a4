-- The blocks of a sheet that are ahead, while its records are gone through.
use Rattle.std.specs.Prelude.{◌≡◌, ℕ, ◌<◌, ◌≤◌, List, [], length}
use Rattle.std.specs.List.{AllByRecursion}
use Rattle.std.specs.Vec.Iter.{into_iter_items}
use Rattle.edi_record.specs.AnyRecords.{AnyRecord}
use Rattle.edi_record.specs.declared.record.Attribute.{Attribute}
use Rattle.edi_record.specs.LinkEnds.{EndData}
use Rattle.edi_record.specs.declared.record_parts.RecordHead.{RecordHead}
use Rattle.edi_record.specs.declared.blocks_ahead.BlocksAhead.{BlocksAhead}
use Rattle.edi_record.specs.inner.BlockLists.{blocks_joined, IsFull}

-- the records of the blocks ahead, in their order
abbrev pub all_ahead : BlocksAhead → List (AnyRecord RecordHead Attribute EndData)
all_ahead ahead = blocks_joined (into_iter_items ahead.closed) ahead.last

-- all blocks ahead but the last are full, and the last has no more records than they
pub record AreAhead (ahead : BlocksAhead) : Type 0 where
  pub full : AllByRecursion IsFull (into_iter_items ahead.closed)
  pub short : length ahead.last ≤ 256

-- a block of so many records comes before them: a full one, or the last of all
pub record IsBlockBefore (n : ℕ) (ahead : BlocksAhead) : Type 0 where
  pub short : n ≤ 256
  pub last : n < 256 → all_ahead ahead ≡ []
