-- The ends of links, and a record that is sought, while records come.
use Rattle.std.specs.Prelude.{◌≡◌, ◌↔◌, ℕ, List, [], ◌∷◌, ◌++◌, Option, Some, None, All, Any, IsTrue, codes}
use Rattle.std.specs.Global.{Vec}
use Rattle.edi_line.specs.ZoneData.{ZoneData, first}
use Rattle.edi_line.specs.Groups.{IsOneRecord}
use Rattle.edi_record.specs.Texts.{PointerText, shown}
use Rattle.edi_record.specs.Titles.{IsTitleOf}
use Rattle.edi_explain.specs.AstrayZones.{AreApart, IsNamedBy}
use Rattle.edi_explain.specs.BreakingZones.{is_typed}
use Rattle.edi_explain.specs.Elsewhere.{AreStrayEnds, ends_of_record, link_ends}
use Rattle.edi_explain.specs.declared.elsewhere.LinkEnds.{LinkEnds}
use Rattle.edi_explain.specs.declared.elsewhere.SoughtName.{SoughtName}

-- of these ends, behind which more may come, the first, and the first of another lot or subset, as far as there are any
abbrev pub EndsAre : List (List ℕ) → Option (Vec ℕ) → Option (Vec ℕ) → Type 0
EndsAre ends None stray = (ends ≡ []) × (stray ≡ None)
EndsAre ends (Some home) None = (first ends ≡ Some home.items) × All (λ e. ¬ (AreApart e home.items)) ends
EndsAre ends (Some home) (Some stray) = AreStrayEnds ends home.items stray.items

abbrev pub AreEndsWithStray : List (List ℕ) → LinkEnds → Type 0
AreEndsWithStray ends s = EndsAre ends s.home s.stray

-- the ends are those of these records and of the zones of the next that have come; it is known whether that is a link
pub record HoldsLinkEnds (groups : List (List ZoneData)) (group : List ZoneData) (s : LinkEnds) : Type 0 where
  pub ends : AreEndsWithStray (link_ends groups ++ ends_of_record group) s
  pub is_link : IsOneRecord group → s.is_link ≡ is_typed (codes "LNK") group

-- the parts of a pointer, as a group of four zones
abbrev pub sign_zone : List ℕ → ZoneData
sign_zone value = record { line = 0; code = []; nature = 0; format = 0; value = value }

abbrev pub name_signature : PointerText → List ZoneData
name_signature p = sign_zone p.lot ∷ sign_zone p.subset ∷ sign_zone p.rty ∷ sign_zone p.rid ∷ []

-- A record is sought; these groups and these zones of the next have come. Handing on says of what takes groups no more
-- than what holds after those that came; so the pointer stands in front of them, as a group of its own.
abbrev pub IsSoughtName : SoughtName → List (List ZoneData) → List ZoneData → Type 0
IsSoughtName s [] group = ⊥
IsSoughtName s (sign ∷ come) group = (sign ≡ name_signature (shown s.pointer)) × HoldsLinkEnds come group s.ends
    × (IsTrue s.is_there ↔ Any (IsNamedBy (shown s.pointer)) come) × (IsOneRecord group → IsTitleOf group s.title)
