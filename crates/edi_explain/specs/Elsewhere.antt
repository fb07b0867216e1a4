-- Records of the other VEC files of a lot, at which links of a sheet point.
use Rattle.std.specs.Prelude.{◌≡◌, ◌++◌, ℕ, List, [], ◌∷◌, Some, All, Any, codes, flat_map, if◌then◌else◌}
use Rattle.edi_line.specs.ZoneData.{ZoneData, first}
use Rattle.edi_line.specs.LineRules.{BreaksLineRule, IsZonesOf}
use Rattle.edi_line.specs.Refusal.{IsUnbroken}
use Rattle.edi_line.specs.Zones.{groups_of}
use Rattle.edi_record.specs.Records.{values}
use Rattle.edi_record.specs.Texts.{IsPointer, PointerText}
use Rattle.edi_explain.specs.AstrayZones.{AreApart, IsNamedBy}
use Rattle.edi_explain.specs.BreakingZones.{is_typed}
use Rattle.edi_explain.specs.Hints.{hint_line}
use Rattle.edi_shown.specs.Shown.{shown_bytes}

-- the ends of a record, if it is a link
abbrev pub ends_of_record : List ZoneData → List (List ℕ)
ends_of_record group = if is_typed (codes "LNK") group then values (codes "FTP") group else []

-- the ends of all links of these records, in their order
abbrev pub link_ends : List (List ZoneData) → List (List ℕ)
link_ends groups = flat_map ends_of_record groups

-- Of these ends the first, by whose lot and subset all others are judged, and the first that is of another lot or
-- subset.
pub record AreStrayEnds (ends : List (List ℕ)) (home stray : List ℕ) : Type 0 where
  pub leads : first ends ≡ Some home
  pub front : List (List ℕ)
  pub behind : List (List ℕ)
  pub cut : ends ≡ front ++ stray ∷ behind
  pub together : All (λ e. ¬ (AreApart e home)) front
  pub apart : AreApart stray home

-- the same of the links of a sheet
pub record HasStrayEnds (b home stray : List ℕ) : Type 0 where
  pub unbroken : IsUnbroken (BreaksLineRule b)
  pub zones : List ZoneData
  pub read : IsZonesOf b zones
  pub ends : AreStrayEnds (link_ends (groups_of zones)) home stray

-- two pointers are of one lot and subset
abbrev pub AreTogether : PointerText → List ℕ → Type 0
AreTogether p text = (q : PointerText) × IsPointer text q × (p.lot ≡ q.lot) × (p.subset ≡ q.subset)

-- these records have the one that a pointer names: the first end of their links is of that lot and subset, and one of
-- them has that type and identifier
pub record HasNamedAmong (groups : List (List ZoneData)) (p : PointerText) : Type 0 where
  pub home : List ℕ
  pub leads : first (link_ends groups) ≡ Some home
  pub together : AreTogether p home
  pub there : Any (IsNamedBy p) groups

-- the same of the records of a sheet
pub record HasNamed (b : List ℕ) (p : PointerText) : Type 0 where
  pub unbroken : IsUnbroken (BreaksLineRule b)
  pub zones : List ZoneData
  pub read : IsZonesOf b zones
  pub among : HasNamedAmong (groups_of zones) p

-- that the sheet by the one name points at a record of the sheet by the other
abbrev pub elsewhere_line : List ℕ → PointerText → List ℕ → List ℕ
elsewhere_line name p other =
    hint_line name (codes " points at " ++ shown_bytes p.rty ++ codes " " ++ shown_bytes p.rid
    ++ codes ", which is in " ++ shown_bytes other)
