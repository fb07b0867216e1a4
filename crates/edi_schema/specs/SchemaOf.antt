-- The schema that a file of classes, a file of entries and four codes make.
use Rattle.std.specs.Prelude.{◌≡◌, ℕ, Bool, false, ◌&&◌, ◌||◌, nat_le, if◌then◌else◌, List, [], ◌∷◌, Option, Some, None, codes, IsPermutation}
use Rattle.std.specs.List.{AllZip}
use Rattle.std.specs.Map.{lookup, keys_of}
use Rattle.std.specs.Str.{bytes_eq}
use Rattle.edi_line.specs.ZoneData.{ZoneData}
use Rattle.edi_line.specs.LineRules.{IsZonesOf}
use Rattle.edi_line.specs.Zones.{IsFileOf}
use Rattle.edi_record.specs.declared.name.Name.{Name}
use Rattle.edi_record.specs.Records.{values, first}
use Rattle.edi_record.specs.Texts.{PointsTo}
use Rattle.edi_schema.specs.Roles.{KindCodes, role_by}
use Rattle.edi_schema.specs.Classes.{Classes, is_name, name_cmp}
use Rattle.edi_schema.specs.Sorted.{AlwaysRises}
use Rattle.edi_schema.specs.declared.class.Class.{Class}

-- the groups of a file's records
abbrev pub IsGroupsOf : List ℕ → List (List ZoneData) → Type 0
IsGroupsOf b groups = (zones : List ZoneData) × (cse : Option ZoneData) × IsZonesOf b zones × IsFileOf zones cse groups

-- the name of a record of either file
pub record IsNamed (group : List ZoneData) (name : Name) : Type 0 where
  pub rty : first (values (codes "RTY") group) ≡ Some name.rty
  pub rid : first (values (codes "RID") group) ≡ Some name.rid

-- an entry of the dictionary: a name, and the first TYP, if any
abbrev pub Words : Type 0
Words = List (Name × Option (List ℕ))

abbrev pub StatesWord : List ZoneData → Name × Option (List ℕ) → Type 0
StatesWord group word = IsNamed group word.0 × (word.1 ≡ first (values (codes "TYP") group))

-- the TYP that the first DIP leads to
pub data HasType (words : Words) (group : List ZoneData) : Option (List ℕ) → Type 0 where
  none : values (codes "DIP") group ≡ [] → HasType words group None
  some : {text : List ℕ} {name : Name} {typ : Option (List ℕ)} → first (values (codes "DIP") group) ≡ Some text
      → PointsTo text name
      → lookup (is_name name) words ≡ Some typ → HasType words group typ

-- the letter of a TYP: its one letter, and else `A`
abbrev pub letter_read : Option (List ℕ) → ℕ
letter_read None = 65
letter_read (Some []) = 65
letter_read (Some (c ∷ [])) = if nat_le 65 c && nat_le c 90 then c else 65
letter_read (Some (c ∷ d ∷ cs)) = 65

abbrev pub is_number_type : Option (List ℕ) → Bool
is_number_type None = false
is_number_type (Some typ) = bytes_eq typ (codes "N") || bytes_eq typ (codes "R")

-- a class of the schema: its role by its codes, its letter by its word
pub record StatesClass (kinds : KindCodes) (words : Words) (group : List ZoneData) (entry : Name × Class) : Type 0 where
  pub typ : Option (List ℕ)
  pub named : IsNamed group entry.0
  pub has_type : HasType words group typ
  pub role : entry.1.role ≡ role_by kinds (first (values (codes "KND") group)) entry.0.rid
  pub letter : entry.1.letter ≡ letter_read typ
  pub number : entry.1.is_number ≡ is_number_type typ

-- The schema of the records of two files and four codes: the class of each record of the first, in the order of their
-- names.
pub record IsSchemaOf (classes entries : List (List ZoneData)) (kinds : KindCodes) (s : Classes) : Type 0 where
  pub words : Words
  pub stated : Classes
  pub each_word : AllZip StatesWord entries words
  pub each_class : AllZip (StatesClass kinds words) classes stated
  pub same : IsPermutation stated s
  pub in_order : AlwaysRises name_cmp (keys_of s)
