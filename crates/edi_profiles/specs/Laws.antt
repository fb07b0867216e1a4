-- What holds between the rules of earlier times and those of today.
use Rattle.std.specs.Prelude.{◌≡◌, ◌↔◌, ℕ, List, ◌∷◌, [], ◌++◌, None, codes, true}
use Rattle.std.specs.List.{AllByRecursion}
use Rattle.std.specs.Ordering.{ordering_then, int_cmp}
use Rattle.edi_line.specs.Bytes.{semicolon}
use Rattle.edi_line.specs.ZoneData.{ZoneData}
use Rattle.edi_line.specs.LineRules.{IsZonesOf}
use Rattle.edi_line.specs.Number.{signed_text}
use Rattle.edi_line.specs.Zones.{groups_of}
use Rattle.edi_record.specs.Orders.{point_cmp}
use Rattle.edi_record.specs.RecordRules.{IsOfKind}
use Rattle.edi_record.specs.Records.{has_points, values}
use Rattle.edi_record.specs.Texts.{point_text}
use Rattle.edi_record.specs.declared.record.Kind.{Kind}
use Rattle.edi_record.specs.declared.record.Point.{Point}
use Rattle.edi_schema.specs.Classes.{Classes}
use Rattle.edi_compare.specs.Canonical.{IsCanonical}
use Rattle.edi_compare.specs.Headline.{IsFormOf}
use Rattle.edi_compare.specs.Rules.{Breaks, IsAccepted}
use Rattle.edi_profiles.specs.Profiles.{BreaksBy, IsAcceptedBy, IsCanonicalBy, IsFlatPosition, IsFormBy, three_coordinates, today, two_coordinates}

-- at the profile of today, the definitions by a profile are those that `accept` and `canon` cite
pub record TodayIsToday : Type 0 where
  pub breaks : (s : Classes) (b : List ℕ) (rule at : ℕ) → BreaksBy today s b rule at ↔ Breaks s b rule at
  pub canonical : (s : Classes) (c : List ℕ) → IsCanonicalBy today s c ↔ IsCanonical s c

-- each COR of a node or an arc is a position of two coordinates
abbrev pub IsFlatGroup : List ZoneData → Type 0
IsFlatGroup group =
    (kind : Kind) → IsOfKind group kind → has_points kind ≡ true
    → AllByRecursion (λ text. (p : Point) × IsFlatPosition text p) (values (codes "COR") group)

abbrev pub IsFlatFile : List ℕ → Type 0
IsFlatFile b = (zones : List ZoneData) → IsZonesOf b zones → AllByRecursion IsFlatGroup (groups_of zones)

-- for such a file the rules before and after the third coordinate break the same rules at the same places, and the one
-- calls it canonical if the other does
pub record FlatSheetsAgree : Type 0 where
  pub breaks : (s : Classes) (b : List ℕ) (rule at : ℕ) → IsFlatFile b
      → BreaksBy two_coordinates s b rule at ↔ BreaksBy three_coordinates s b rule at
  pub canonical : (s : Classes) (c : List ℕ) → IsFlatFile c
      → IsCanonicalBy two_coordinates s c ↔ IsCanonicalBy three_coordinates s c

-- points of two coordinates go by these, and are written with these
pub record PointsOfTwoCoordinates : Type 0 where
  pub order : (a b : Point) → a.z ≡ None → b.z ≡ None
      → point_cmp a b ≡ ordering_then (int_cmp a.x b.x) (int_cmp a.y b.y)
  pub text : (a : Point) → a.z ≡ None
      → point_text a ≡ signed_text a.x ++ semicolon ∷ (signed_text a.y ++ semicolon ∷ [])

-- what was accepted or canonical by the rules of two coordinates is so by those of three, and what was so by these is
-- so today
pub record LaterRulesAcceptMore : Type 0 where
  pub second : (s : Classes) (b : List ℕ) → IsAcceptedBy two_coordinates s b → IsAcceptedBy three_coordinates s b
  pub third : (s : Classes) (b : List ℕ) → IsAcceptedBy three_coordinates s b → IsAccepted s b
  pub second_canonical : (s : Classes) (c : List ℕ) → IsCanonicalBy two_coordinates s c
      → IsCanonicalBy three_coordinates s c
  pub third_canonical : (s : Classes) (c : List ℕ) → IsCanonicalBy three_coordinates s c → IsCanonical s c

-- the canonical file that a sheet had by either of the earlier rules is the one that `canon` gives today
pub record StoredFilesStay : Type 0 where
  pub of_two : (s : Classes) (b c d : List ℕ) → IsFormBy two_coordinates s b c → IsFormOf s b d → c ≡ d
  pub of_three : (s : Classes) (b c d : List ℕ) → IsFormBy three_coordinates s b c → IsFormOf s b d → c ≡ d
