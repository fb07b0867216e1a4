-- Records in flat lists.
use Rattle.std.specs.Prelude.{◌≡◌, ℕ, zero, suc, ◌≤◌, List, [], ◌∷◌, length, slice_range}
use Rattle.edi_record.specs.declared.block.Head.{Head}
use Rattle.edi_record.specs.declared.part_lists.Stops.{Stops}
use Rattle.edi_record.specs.AnyRecords.{Parts, AnyRecord}

-- where the parts of the first record begin
abbrev pub no_stops : Stops
no_stops = record { points = 0; ends = 0; attributes = 0; extras = 0 }

-- where the parts of the record at a place begin
abbrev pub stops_before : {H : Type 0} → ℕ → Stops → List (Head H) → Stops
stops_before zero from hs = from
stops_before (suc k) from [] = from
stops_before (suc k) from (h ∷ hs) = stops_before k h.stops hs

module _ {A E : Type 0} where
  -- the parts of the lists from here to there
  abbrev pub parts_between : Parts A E → Stops → Stops → Parts A E
  parts_between all from to = record {
    points = slice_range all.points from.points to.points;
    ends = slice_range all.ends from.ends to.ends;
    attributes = slice_range all.attributes from.attributes to.attributes;
    extras = slice_range all.extras from.extras to.extras;
  }

  -- the records of these heads, each with its parts of the lists
  abbrev pub records_from : {H : Type 0} → Parts A E → Stops → List (Head H) → List (AnyRecord H A E)
  records_from all from [] = []
  records_from all from (h ∷ hs) =
      record { head = h.head; parts = parts_between all from h.stops } ∷ records_from all h.stops hs

-- a part ends where it begins or later, and within a list of this length
pub record IsPartWithin (n from to : ℕ) : Type 0 where
  pub rises : from ≤ to
  pub ends : to ≤ n

-- the parts of a record are parts of the lists
pub record ArePartsTo {A E : Type 0} (all : Parts A E) (from to : Stops) : Type 0 where
  pub points : IsPartWithin (length all.points) from.points to.points
  pub ends : IsPartWithin (length all.ends) from.ends to.ends
  pub attributes : IsPartWithin (length all.attributes) from.attributes to.attributes
  pub extras : IsPartWithin (length all.extras) from.extras to.extras

-- the lists end here
pub record AreEnds {A E : Type 0} (all : Parts A E) (from : Stops) : Type 0 where
  pub points : from.points ≡ length all.points
  pub ends : from.ends ≡ length all.ends
  pub attributes : from.attributes ≡ length all.attributes
  pub extras : from.extras ≡ length all.extras

-- the parts of the records fill the lists from here on
abbrev pub FillLists : {H A E : Type 0} → Parts A E → Stops → List (Head H) → Type 0
FillLists all from [] = AreEnds all from
FillLists all from (h ∷ hs) = ArePartsTo all from h.stops × FillLists all h.stops hs
