-- How zones are handed on while the lines of a file come.
use Rattle.std.specs.Prelude.{◌≡◌, ℕ, ◌≤◌, List, [], ◌++◌, length, Option, option_map}
use Rattle.edi_line.specs.Bytes.{most_records}
use Rattle.edi_line.specs.ZoneData.{ZoneData}
use Rattle.edi_line.specs.Feeding.{seen_in, Zoned}
use Rattle.edi_line.specs.LineRules.{BreaksAt, IsZonesOf}
use Rattle.edi_line.specs.Spelling.{Reading}
use Rattle.edi_line.specs.Zones.{HasShape, charset_of, groups_of}
use Rattle.edi_line.specs.inner.Groups.{IsStateOf, KeepsHanded, handed_at_first, with_zones}
use Rattle.edi_line.specs.inner.Held.{no_zones, zoned_after, zoned}
use Rattle.edi_line.specs.inner.Zones.{parts_after}
use Rattle.edi_line.specs.declared.groups.Handing.{Handing}
use Rattle.edi_line.specs.declared.reading.Reader.{Reader}

abbrev pub behind : List ZoneData → Zoned → Zoned
behind given z = record { done = given ++ z.done; open_zone = z.open_zone }

-- the lines in front of those left have come; of their zones these were handed on, and the reader holds the others
pub record IsAtLines (lines left : List Reading) (given : List ZoneData) (r : Reader) (h : Handing) : Type 0 where
  pub done : List Reading
  pub cut : lines ≡ done ++ left
  pub counted : r.line ≡ length done
  pub order : r.order ≡ seen_in done
  pub zones : behind given (zoned r) ≡ zoned_after no_zones (parts_after 0 done)
  pub sound : (rule place : ℕ) → ¬ (BreaksAt done rule place)
  pub state : IsStateOf (with_zones handed_at_first given) h

-- more lines have come, and more zones were handed on
pub record WentOn (lines left : List Reading) (given : List ZoneData) (r : Reader) (h : Handing)
    (Before After : List (List ZoneData) → List ZoneData → Type 0) : Type 0 where
  pub given_now : List ZoneData
  pub at : IsAtLines lines left given_now r h
  pub handed : (groups : List (List ZoneData)) → KeepsHanded Before groups (with_zones handed_at_first given)
      → KeepsHanded After groups (with_zones handed_at_first given_now)

-- all zones were handed on, these before the others
pub record IsHandedOutBehind (given : List ZoneData) (bytes : List ℕ) (charset : Option (List ℕ))
    (Before After : List (List ZoneData) → List ZoneData → Type 0) : Type 0 where
  pub zones : List ZoneData
  pub of_file : IsZonesOf bytes zones
  pub shape : HasShape zones
  pub few : length (groups_of zones) ≤ most_records
  pub charset_is : charset ≡ option_map (λ z. z.value) (charset_of zones)
  pub handed : (groups : List (List ZoneData)) → KeepsHanded Before groups (with_zones handed_at_first given)
      → After (groups ++ groups_of zones) []
