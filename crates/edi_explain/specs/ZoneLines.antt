-- The line on the zone with which a record breaks a rule.
use Rattle.std.specs.Prelude.{◌≡◌, ◌⊎◌, ◌++◌, ◌-◌, ◌==◌, ℕ, true, List, [], Option, Some, None, codes, decimal, if◌then◌else◌}
use Rattle.edi_line.specs.ZoneData.{ZoneData}
use Rattle.edi_line.specs.LineRules.{IsZonesOf}
use Rattle.edi_record.specs.RecordRules.{is_identifier}
use Rattle.edi_record.specs.Texts.{IsCount, IsPointer, IsPosition, PointerText}
use Rattle.edi_record.specs.declared.record.Point.{Point}
use Rattle.edi_schema.specs.Classes.{Classes}
use Rattle.edi_explain.specs.AstrayZones.{IsZoneOfSheet}
use Rattle.edi_explain.specs.BreakingZones.{IsBreakingZone}
use Rattle.edi_explain.specs.Lines.{position_text, rule_mark}
use Rattle.edi_explain.specs.Refusals.{IsEarlierIfAny}
use Rattle.edi_shown.specs.Shown.{shown_bytes}

-- The text of a zone is what its rule wants: an identifier, a pointer, the number of the zones that it counts, a
-- position. So what is wrong with the zone is that there is one before it.
abbrev pub IsRightText : ℕ → Option ℕ → List ℕ → Type 0
IsRightText rule count text =
    (((rule ≡ 202) ⊎ (rule ≡ 601)) × (is_identifier text ≡ true))
    ⊎ ((rule ≡ 203) × ((p : PointerText) × IsPointer text p))
    ⊎ ((rule ≡ 205) × ((n : ℕ) × (count ≡ Some n) × IsCount text n))
    ⊎ ((rule ≡ 206) × ((p : Point) × IsPosition text p))

-- what is said of a zone whose text is right, but which is a second one
abbrev pub second_sentence : ℕ → List ℕ
second_sentence rule =
    if rule == 203 then codes "a second class"
    else if rule == 205 then codes "a second count"
    else if rule == 206 then codes "a second position of the node"
    else codes "a second identifier"

-- what is said of any other zone with which a record breaks a rule
abbrev pub zone_sentence : ℕ → List ℕ
zone_sentence rule =
    if rule == 202 then codes "no identifier"
    else if rule == 203 then codes "no pointer"
    else if rule == 204 then codes "no pointer"
    else if rule == 205 then codes "not the count"
    else if rule == 206 then codes "no position"
    else if rule == 207 then codes "no pointer"
    else if rule == 208 then codes "a pointer that isn't known"
    else if rule == 301 then codes "the identifier"
    else if rule == 302 then codes "the class"
    else if rule == 303 then codes "no class of an attribute"
    else if rule == 304 then codes "another lot or subset"
    else if rule == 305 then codes "no node, arc, face or object"
    else if rule == 306 then codes "the class, which is of a kind"
    else if rule == 307 then codes "the arc"
    else if rule == 401 then codes "the first point"
    else if rule == 402 then codes "the last point"
    else if rule == 403 then codes "the position"
    else if rule == 601 then codes "no identifier"
    else if rule == 602 then codes "the identifier"
    else if rule == 603 then codes "the word of the class"
    else []

-- how many there are of what the zone counts
abbrev pub count_text : Option ℕ → List ℕ
count_text (Some n) = codes "; there are " ++ decimal n
count_text None = []

-- what is said of the zone with which a record breaks a rule, which should count so many
abbrev pub IsSaidOfZone : ℕ → ZoneData → Option ℕ → List ℕ → Type 0
IsSaidOfZone rule z count said = (IsRightText rule count z.value × (said ≡ second_sentence rule))
    ⊎ (¬ (IsRightText rule count z.value) × (said ≡ zone_sentence rule ++ count_text count))

-- FILE:LINE: CODE VALUE: what is said of it [RULE]
abbrev pub zone_line : List ℕ → ZoneData → List ℕ → ℕ → List ℕ
zone_line name z said rule =
    position_text name z.line ++ z.code ++ codes " " ++ shown_bytes z.value ++ codes ": " ++ said ++ rule_mark rule

-- the line on a zone of which, with the number of those that it should count, this holds; or no line where it holds
-- of none
abbrev pub IsZoneLine : (ZoneData → Option ℕ → Type 0) → List ℕ → ℕ → List ℕ → Type 0
IsZoneLine P name rule lines = ((z : ZoneData) × (count : Option ℕ) × (said : List ℕ) × P z count
    × IsSaidOfZone rule z count said × (lines ≡ zone_line name z said rule))
    ⊎ (((z : ZoneData) (count : Option ℕ) → ¬ (P z count)) × (lines ≡ []))

-- the line on the zone with which the record with a number breaks a rule, in a file of a schema with this name
abbrev pub ExplainsZone : List ℕ → List ℕ → ℕ → ℕ → List ℕ → Type 0
ExplainsZone b name rule number lines = (zones : List ZoneData) × IsZonesOf b zones
    × IsZoneLine (IsBreakingZone zones rule number) name rule lines

-- the same in a sheet
abbrev pub ExplainsZoneOfSheet : Classes → List ℕ → List ℕ → ℕ → ℕ → List ℕ → Type 0
ExplainsZoneOfSheet s b name rule number lines = (zones : List ZoneData) × (earlier : Option ℕ) × IsZonesOf b zones
    × IsEarlierIfAny s b rule (number - 1) earlier
    × IsZoneLine (IsZoneOfSheet s zones earlier rule number) name rule lines
