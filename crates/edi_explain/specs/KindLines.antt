-- What is said of the classes of the four kinds of links.
use Rattle.std.specs.Prelude.{◌↔◌, Bool, true, false, IsTrue, ◌≡◌, ◌++◌, ℕ, List, [], ◌∷◌, Option, Some, None, codes}
use Rattle.edi_line.specs.Bytes.{line_feed}
use Rattle.edi_line.specs.ZoneData.{ZoneData}
use Rattle.edi_line.specs.LineRules.{IsZonesOf}
use Rattle.edi_line.specs.Zones.{groups_of}
use Rattle.edi_schema.specs.Roles.{KindCodes, exchanged}
use Rattle.edi_schema.specs.declared.by_role.ByRole.{ByRole}
use Rattle.edi_schema.specs.declared.role.Role.{Role}
use Rattle.edi_schema.specs.declared.role.Role.TheVariants.{Initial, Final, Left, Right, Plain}
use Rattle.edi_explain.specs.KindClasses.{IsClassBehind, IsClassOf, IsKindsCause}
use Rattle.edi_explain.specs.Lines.{identifier_text, lines_of_sites, position_text}
use Rattle.edi_plan.specs.EarlierLinks.{IsLeastIfAny}
use Rattle.edi_explain.specs.Refusals.{AreSites}
use Rattle.edi_explain.specs.Sites.{IsSiteIfAny}
use Rattle.edi_explain.specs.declared.kind_causes.KindsCase.{KindsCase}
use Rattle.edi_explain.specs.declared.kind_causes.KindsCase.TheVariants.{Two, Alone, Barred}
use Rattle.edi_explain.specs.declared.kind_causes.KindsCause.{KindsCause}
use Rattle.edi_explain.specs.declared.refused.RefusalSites.{RefusalSites}
use Rattle.edi_explain.specs.declared.site.RecordSite.{RecordSite}
use Rattle.edi_shown.specs.Shown.{shown_bytes}

-- the words for a kind
abbrev pub kind_words : Role → List ℕ
kind_words Initial = codes "initial node"
kind_words Final = codes "final node"
kind_words Left = codes "left face"
kind_words Right = codes "right face"
kind_words Plain = codes "none of the four kinds"

-- what is said of a class by which a kind breaks rule 604
abbrev pub wrong_words : KindsCase → Role → List ℕ
wrong_words Two role = codes "a second class for " ++ kind_words role
wrong_words Alone role =
    codes "a class for " ++ kind_words role ++ codes ", and there is none for " ++ kind_words (exchanged role)
wrong_words Barred role =
    codes "a class for " ++ kind_words role ++ codes " that no pointer can name, since its type holds ;"

-- The lines that explain the refusal of a file of classes with this name by rule 604: that of the class which breaks it
-- first, with what is wrong, and that of the earlier class of its kind where there are two.
abbrev pub ExplainsKinds : KindCodes → List ℕ → List ℕ → List ℕ → Type 0
ExplainsKinds kinds scd name lines =
    (zones : List ZoneData) × (cause : KindsCause) × (sites : RefusalSites) × IsZonesOf scd zones
    × IsKindsCause (groups_of zones) kinds cause × AreSites zones cause.number cause.earlier sites
    × (lines ≡ lines_of_sites name sites (wrong_words cause.case cause.role) 604)

-- where the record with a number stands, if there is a number
abbrev pub IsNumberedSite : List ZoneData → Option ℕ → Option RecordSite → Type 0
IsNumberedSite zones (Some number) site = IsSiteIfAny zones number site
IsNumberedSite zones None site = site ≡ None

-- where the first class of a kind stands, if the kind has one
abbrev pub IsClassSite : List ZoneData → KindCodes → Role → Option RecordSite → Type 0
IsClassSite zones kinds role site =
    (number : Option ℕ) × IsLeastIfAny (IsClassBehind (groups_of zones) kinds role 0) number
    × IsNumberedSite zones number site

-- FILE:LINE: TYPE IDENTIFIER of a class, or that there is none
abbrev pub class_place : List ℕ → Option RecordSite → List ℕ
class_place name (Some site) = position_text name site.line ++ shown_bytes site.rty ++ identifier_text site.rid
class_place name None = codes "no class"

-- that behind the words for the kind, as a line
abbrev pub class_line : List ℕ → Role → Option RecordSite → List ℕ
class_line name role site = kind_words role ++ codes ": " ++ class_place name site ++ line_feed ∷ []

-- The lines on the four kinds: the class of each in a file with this name, or that it has none.
abbrev pub DescribesKinds : KindCodes → List ℕ → List ℕ → List ℕ → Type 0
DescribesKinds kinds scd name lines =
    (zones : List ZoneData) × (initial final left right : Option RecordSite) × IsZonesOf scd zones
    × IsClassSite zones kinds Initial initial × IsClassSite zones kinds Final final × IsClassSite zones kinds Left left
    × IsClassSite zones kinds Right right
    × (lines ≡ class_line name Initial initial ++ class_line name Final final ++ class_line name Left left
    ++ class_line name Right right)

-- which of the four kinds have no class among the records of the file
pub record AreLacking (groups : List (List ZoneData)) (kinds : KindCodes) (lacking : ByRole Bool) : Type 0 where
  pub initial : IsTrue lacking.initial ↔ ((n : ℕ) → ¬ (IsClassOf groups kinds Initial n))
  pub final_node : IsTrue lacking.final_node ↔ ((n : ℕ) → ¬ (IsClassOf groups kinds Final n))
  pub left : IsTrue lacking.left ↔ ((n : ℕ) → ¬ (IsClassOf groups kinds Left n))
  pub right : IsTrue lacking.right ↔ ((n : ℕ) → ¬ (IsClassOf groups kinds Right n))

-- a comma and a space behind words, where there are any
abbrev pub parted : List ℕ → List ℕ
parted [] = []
parted (x ∷ xs) = (x ∷ xs) ++ codes ", "

-- words, and behind them those for a kind that has no class
abbrev pub with_lacking : List ℕ → Bool → Role → List ℕ
with_lacking words true role = parted words ++ kind_words role
with_lacking words false role = words

abbrev pub lacking_words : ByRole Bool → List ℕ
lacking_words lacking =
    with_lacking (with_lacking (with_lacking
    (with_lacking [] lacking.initial Initial) lacking.final_node Final) lacking.left Left) lacking.right Right

-- The words for the kinds that have no class in a file, with commas between them.
abbrev pub NameLacking : KindCodes → List ℕ → List ℕ → Type 0
NameLacking kinds scd words =
    (zones : List ZoneData) × (lacking : ByRole Bool) × IsZonesOf scd zones × AreLacking (groups_of zones) kinds lacking
    × (words ≡ lacking_words lacking)
