-- The zone with which a record breaks a rule.
use Rattle.std.specs.Prelude.{◌≡◌, ◌≢◌, ◌⊎◌, ◌==◌, ◌&&◌, ℕ, suc, Bool, false, true, List, [], ◌∷◌, count_by, take, drop}
use Rattle.std.specs.Prelude.{Option, Some, None, bytes_eq, codes, if◌then◌else◌, option_map, slice_get}
use Rattle.std.specs.List.{list_any}
use Rattle.edi_line.specs.ZoneData.{ZoneData, has_code}
use Rattle.edi_line.specs.Zones.{groups_of}
use Rattle.edi_record.specs.RecordRules.{IsNoPointer, is_identifier}
use Rattle.edi_record.specs.Bytes.{letter_p}
use Rattle.edi_record.specs.Records.{IsExtraAt}
use Rattle.edi_record.specs.Shapes.{kind_code}
use Rattle.edi_record.specs.Texts.{IsCount, IsPointer, IsPosition, PointerText}
use Rattle.edi_record.specs.declared.record.Kind.{Kind}
use Rattle.edi_record.specs.declared.record.Point.{Point}
use Rattle.edi_plan.specs.EarlierLinks.{IsLeast}
use Rattle.edi_explain.specs.declared.breaking.ZoneTest.{ZoneTest}
use Rattle.edi_explain.specs.declared.breaking.ZoneTest.TheVariants.{OfCode, LastOf, BadIdentifier, NoPointer, BadClass, BadCount, BadPosition, UnknownPointer, EndOf}

-- what a rule looks for among the zones of the record that breaks it; some rules are of no single zone
abbrev pub test_of : ℕ → Option ZoneTest
test_of rule =
    if rule == 202 then Some BadIdentifier
    else if rule == 203 then Some BadClass
    else if rule == 204 then Some (NoPointer (codes "ATP"))
    else if rule == 205 then Some BadCount
    else if rule == 206 then Some BadPosition
    else if rule == 207 then Some (NoPointer (codes "FTP"))
    else if rule == 208 then Some UnknownPointer
    else if rule == 301 then Some (OfCode (codes "RID"))
    else if rule == 302 then Some (OfCode (codes "SCP"))
    else if rule == 306 then Some (OfCode (codes "SCP"))
    else if rule == 307 then Some (EndOf (codes "PAR"))
    else if rule == 401 then Some (OfCode (codes "COR"))
    else if rule == 402 then Some (LastOf (codes "COR"))
    else if rule == 403 then Some (OfCode (codes "COR"))
    else if rule == 601 then Some BadIdentifier
    else if rule == 602 then Some (OfCode (codes "RID"))
    else if rule == 603 then Some (OfCode (codes "DIP"))
    else None

-- the first zone of a record states this type
abbrev pub is_typed : List ℕ → List ZoneData → Bool
is_typed rty [] = false
is_typed rty (z ∷ zs) = bytes_eq z.value rty

-- the code of the zones that a zone with this code counts: attributes; points of an arc; ends of a link
abbrev pub counted_by : List ZoneData → List ℕ → Option (List ℕ)
counted_by group code =
    if bytes_eq code (codes "ATC") then Some (codes "ATP")
    else if bytes_eq code (codes "PTC") && is_typed (codes "PAR") group then Some (codes "COR")
    else if bytes_eq code (codes "FTC") && is_typed (codes "LNK") group then Some (codes "FTP")
    else None

-- a zone has a code, and one of those before it has that code
abbrev pub IsSecond : List ℕ → List ZoneData → ZoneData → Type 0
IsSecond code front z = (has_code code z ≡ true) × (list_any (has_code code) front ≡ true)

-- a pointer names a record of this type
abbrev pub NamesType : List ℕ → List ℕ → Type 0
NamesType rty text = (p : PointerText) × IsPointer text p × (p.rty ≡ rty)

-- a zone of format `P` that isn't empty, and whose code isn't known in records of the type
abbrev pub IsUnknownPointer : List ZoneData → List ZoneData → ZoneData → Type 0
IsUnknownPointer group front z = ((kind : Kind) × (is_typed (kind_code kind) group ≡ true) × IsExtraAt kind front z)
    × (z.format ≡ letter_p) × (z.value ≢ [])

-- A zone of a record, with those before it and those behind it, passes a test: it has a code; it is the last with a
-- code; it is an RID and no identifier, or a second RID; it has a code and is no pointer; it is an SCP and no
-- pointer, or a second SCP; it counts zones and isn't their count, or is a second one with its code; it is a COR
-- and no position, or a second COR of a node; it is a pointer that isn't empty and is unknown in records of the
-- type; it is an end that names a record of a type.
abbrev pub Passes : List ZoneData → List ZoneData → ZoneData → List ZoneData → ZoneTest → Type 0
Passes group front z behind (OfCode code) = has_code code z ≡ true
Passes group front z behind (LastOf code) = (has_code code z ≡ true) × (list_any (has_code code) behind ≡ false)
Passes group front z behind BadIdentifier =
    ((has_code (codes "RID") z ≡ true) × (is_identifier z.value ≡ false)) ⊎ IsSecond (codes "RID") front z
Passes group front z behind (NoPointer code) = (has_code code z ≡ true) × IsNoPointer z.value
Passes group front z behind BadClass = ((has_code (codes "SCP") z ≡ true) × IsNoPointer z.value)
    ⊎ IsSecond (codes "SCP") front z
Passes group front z behind BadCount = (counted : List ℕ) × (counted_by group z.code ≡ Some counted)
    × (¬ (IsCount z.value (count_by (has_code counted) group)) ⊎ (list_any (has_code z.code) front ≡ true))
Passes group front z behind BadPosition = ((has_code (codes "COR") z ≡ true) × ((p : Point)
    → ¬ (IsPosition z.value p)))
    ⊎ ((is_typed (codes "PNO") group ≡ true) × IsSecond (codes "COR") front z)
Passes group front z behind UnknownPointer = IsUnknownPointer group front z
Passes group front z behind (EndOf rty) = (has_code (codes "FTP") z ≡ true) × NamesType rty z.value

-- the zone at a place of a record passes the test; places are from 0
abbrev pub PassesAt : ZoneTest → List ZoneData → ℕ → Type 0
PassesAt test group place = (z : ZoneData) × (slice_get group place ≡ Some z)
    × Passes group (take place group) z (drop (suc place) group) test

-- the first zone of a record that passes the test
abbrev pub IsFirstPassing : ZoneTest → List ZoneData → ZoneData → Type 0
IsFirstPassing test group z = (place : ℕ) × IsLeast (PassesAt test group) place × (slice_get group place ≡ Some z)

-- how many zones there are that a zone with this code counts, if it counts any
abbrev pub count_beside : List ZoneData → List ℕ → Option ℕ
count_beside group code = option_map (λ counted. count_by (has_code counted) group) (counted_by group code)

-- the zone with which a record breaks a rule: the first that passes the test of the rule; and how many zones it should
-- count
abbrev pub IsBreakingZoneOf : List ZoneData → ℕ → ZoneData → Option ℕ → Type 0
IsBreakingZoneOf group rule z count = (test : ZoneTest) × (test_of rule ≡ Some test) × IsFirstPassing test group z
    × (count ≡ count_beside group z.code)

-- the same of the record with this number, from 1
abbrev pub IsBreakingZone : List ZoneData → ℕ → ℕ → ZoneData → Option ℕ → Type 0
IsBreakingZone zones rule number z count = (place : ℕ) × (group : List ZoneData) × (number ≡ suc place)
    × (slice_get (groups_of zones) place ≡ Some group) × IsBreakingZoneOf group rule z count
