-- The parts of records in flat lists, in which they lie one behind the other.
use Rattle.std.specs.Prelude.{◌≡◌, ℕ, ◌+◌, ◌<◌, ◌≤◌, [], length}
use Rattle.std.specs.Vec.{vec_len, vec_capacity}
use Rattle.edi_record.specs.AnyRecords.{Parts}
use Rattle.edi_record.specs.declared.part_lists.PartLists.{PartLists}
use Rattle.edi_record.specs.declared.part_lists.Stops.{Stops}

-- all that the lists hold
abbrev pub held : {A E : Type 0} → PartLists A E → Parts A E
held lists = record {
  points = lists.points.items;
  ends = lists.ends.items;
  attributes = lists.attributes.items;
  extras = lists.extras.items;
}

-- they hold nothing
abbrev pub empty_parts : {A E : Type 0} → Parts A E
empty_parts = record { points = []; ends = []; attributes = []; extras = [] }

-- there is room for so many more ends, attributes and extra zones, in each list that isn't empty
pub record HaveRoom {A E : Type 0} (lists : PartLists A E) (e a x : ℕ) : Type 0 where
  pub ends : 0 < vec_len lists.ends → vec_len lists.ends + e ≤ vec_capacity lists.ends
  pub attributes : 0 < vec_len lists.attributes → vec_len lists.attributes + a ≤ vec_capacity lists.attributes
  pub extras : 0 < vec_len lists.extras → vec_len lists.extras + x ≤ vec_capacity lists.extras

-- so many more points, ends, attributes and extra zones will end here
pub record AreStopsAfter {A E : Type 0} (parts : Parts A E) (p e a x : ℕ) (to : Stops) : Type 0 where
  pub points : to.points ≡ length parts.points + p
  pub ends : to.ends ≡ length parts.ends + e
  pub attributes : to.attributes ≡ length parts.attributes + a
  pub extras : to.extras ≡ length parts.extras + x
