-- The zone with which a record breaks rule 303, 304 or 305: a pointer that names what it may not.
use Rattle.std.specs.Prelude.{◌≡◌, ◌≢◌, ◌⊎◌, ℕ, suc, true, List, Option, Some, None, Any, codes, option_and_then, slice_get, unwrap_or}
use Rattle.edi_line.specs.ZoneData.{ZoneData, has_code}
use Rattle.edi_line.specs.Zones.{groups_of}
use Rattle.edi_record.specs.Records.{first, values}
use Rattle.edi_record.specs.Texts.{IsPointer, PointerText}
use Rattle.edi_schema.specs.Classes.{Classes, place_of}
use Rattle.edi_explain.specs.BreakingZones.{IsBreakingZone, IsBreakingZoneOf, is_typed}
use Rattle.edi_plan.specs.EarlierLinks.{IsLeast}

-- a pointer names no class of an attribute: its type isn't ATT, or its name is none of the schema's
abbrev pub NamesNoAttribute : Classes → List ℕ → Type 0
NamesNoAttribute s text = (p : PointerText) → IsPointer text p
    → (p.rty ≢ codes "ATT") ⊎ (place_of s (record { rty = p.rty; rid = p.rid }) ≡ None)

-- two pointers are of different lots or subsets
abbrev pub AreApart : List ℕ → List ℕ → Type 0
AreApart text other = (p q : PointerText) × IsPointer text p × IsPointer other q × ((p.lot ≢ q.lot)
    ⊎ (p.subset ≢ q.subset))

-- a zone that breaks 303, or 304 with this end
abbrev pub IsAstray : Classes → Option (List ℕ) → ℕ → ZoneData → Type 0
IsAstray s end rule z = ((rule ≡ 303) × (has_code (codes "ATP") z ≡ true) × NamesNoAttribute s z.value)
    ⊎ ((rule ≡ 304) × (has_code (codes "FTP") z ≡ true) × ((text : List ℕ) × (end ≡ Some text)
    × AreApart z.value text))

-- the zone at a place of a record does; places are from 0
abbrev pub IsAstrayAt : Classes → Option (List ℕ) → ℕ → List ZoneData → ℕ → Type 0
IsAstrayAt s end rule group place = (z : ZoneData) × (slice_get group place ≡ Some z) × IsAstray s end rule z

-- the first zone of a record that does
abbrev pub IsFirstAstray : Classes → Option (List ℕ) → ℕ → List ZoneData → ZoneData → Type 0
IsFirstAstray s end rule group z = (place : ℕ) × IsLeast (IsAstrayAt s end rule group) place
    × (slice_get group place ≡ Some z)

-- the first end of the record at a place, if it has one
abbrev pub first_end_at : List ZoneData → ℕ → Option (List ℕ)
first_end_at zones place =
    option_and_then (λ group. first (values (codes "FTP") group)) (slice_get (groups_of zones) place)

-- The zone with which the record with this number, from 1, breaks 303 or 304. The first end of all links is that of
-- the earlier record of 304, or else its own.
abbrev pub IsAstrayZone : Classes → List ZoneData → Option ℕ → ℕ → ℕ → ZoneData → Type 0
IsAstrayZone s zones earlier rule number z = (place : ℕ) × (group : List ZoneData) × (number ≡ suc place)
    × (slice_get (groups_of zones) place ≡ Some group)
    × IsFirstAstray s (first_end_at zones (unwrap_or earlier place)) rule group z

-- a record is the one that a pointer names, by its type and its identifier
abbrev pub IsNamedBy : PointerText → List ZoneData → Type 0
IsNamedBy p group = (is_typed p.rty group ≡ true) × (first (values (codes "RID") group) ≡ Some p.rid)

-- a pointer names no node, arc, face or object of these records: it is of the type of links, or names none of them
abbrev pub NamesNoElement : List (List ZoneData) → List ℕ → Type 0
NamesNoElement groups text =
    (p : PointerText) × IsPointer text p × ((p.rty ≡ codes "LNK") ⊎ ¬ (Any (IsNamedBy p) groups))

-- the zone at a place of a record is such an end; places are from 0
abbrev pub IsLostEndAt : List (List ZoneData) → List ZoneData → ℕ → Type 0
IsLostEndAt groups group place = (z : ZoneData) × (slice_get group place ≡ Some z) × (has_code (codes "FTP") z ≡ true)
    × NamesNoElement groups z.value

-- the first such end of a record
abbrev pub IsFirstLostEnd : List (List ZoneData) → List ZoneData → ZoneData → Type 0
IsFirstLostEnd groups group z = (place : ℕ) × IsLeast (IsLostEndAt groups group) place × (slice_get group place ≡ Some z)

-- the zone with which the record with this number, from 1, breaks 305
abbrev pub IsLostEnd : List ZoneData → ℕ → ℕ → ZoneData → Type 0
IsLostEnd zones rule number z = (rule ≡ 305) × (place : ℕ) × (group : List ZoneData) × (number ≡ suc place)
    × (slice_get (groups_of zones) place ≡ Some group) × IsFirstLostEnd (groups_of zones) group z

-- the zone with which a record of a sheet breaks a rule but 305, with this first end of all links, and how many zones
-- it should count
abbrev pub IsZoneOfRecord : Classes → List ZoneData → Option (List ℕ) → ℕ → ZoneData → Option ℕ → Type 0
IsZoneOfRecord s group end rule z count =
    IsBreakingZoneOf group rule z count ⊎ (IsFirstAstray s end rule group z × (count ≡ None))

-- the zone with which a record of a sheet breaks a rule, and how many zones it should count
abbrev pub IsZoneOfSheet : Classes → List ZoneData → Option ℕ → ℕ → ℕ → ZoneData → Option ℕ → Type 0
IsZoneOfSheet s zones earlier rule number z count =
    IsBreakingZone zones rule number z count ⊎ ((IsAstrayZone s zones earlier rule number z × (count ≡ None))
    ⊎ (IsLostEnd zones rule number z × (count ≡ None)))
