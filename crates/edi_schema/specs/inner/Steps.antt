-- The steps of a schema's rules, one at a time.
use Rattle.std.specs.Prelude.{◌≡◌, ◌⊎◌, ℕ, ◌+◌, ◌≤◌, true, false, List, Option, Some, None, slice_get, take, map, position, count_by, IsPermutation}
use Rattle.std.specs.List.{list_any, IsDistinct}
use Rattle.std.specs.Map.{keys_of}
use Rattle.edi_record.specs.declared.name.Name.{Name}
use Rattle.edi_schema.specs.Roles.{KindCodes, is_plain, exchanged}
use Rattle.edi_schema.specs.Classes.{Classes, is_name, name_cmp, has_role}
use Rattle.edi_schema.specs.inner.Places.{AreUnpaired, ArePointable, AreUnpointable}
use Rattle.edi_schema.specs.Sorted.{AlwaysRises}
use Rattle.edi_schema.specs.inner.Drafts.{Said, class_in}
use Rattle.edi_schema.specs.declared.role.Role.{Role}
use Rattle.edi_schema.specs.declared.fault.Source.{Source}
use Rattle.edi_schema.specs.declared.fault.Source.TheVariants.{Scd, Dic}
use Rattle.edi_schema.specs.declared.fault.SchemaFault.{SchemaFault}
use Rattle.edi_schema.specs.declared.fault.SchemaFault.TheVariants.{Memory, Line, Entry, Kinds}

-- the fault is one of memory, or one at a record of which this holds
abbrev pub IfEntry : (Source → ℕ → ℕ → Type 0) → SchemaFault → Type 0
IfEntry P (Memory e) = Unit {0}
IfEntry P (Line file rule at) = ⊥
IfEntry P (Entry file rule at) = P file rule at
IfEntry P Kinds = ⊥

-- the fault is one of memory, or one at a line of which this holds
abbrev pub IfLine : (Source → ℕ → ℕ → Type 0) → SchemaFault → Type 0
IfLine P (Memory e) = Unit {0}
IfLine P (Line file rule at) = P file rule at
IfLine P (Entry file rule at) = ⊥
IfLine P Kinds = ⊥

-- the fault is one of memory, or that of the kinds, and this holds
abbrev pub IfKinds : Type 0 → SchemaFault → Type 0
IfKinds P (Memory e) = Unit {0}
IfKinds P (Line file rule at) = ⊥
IfKinds P (Entry file rule at) = ⊥
IfKinds P Kinds = P

-- a kind has one class at most, and one if the kind that it is exchanged with has; a pointer can name both or none
pub record AreMatched (s : Classes) : Type 0 where
  pub one : (role : Role) → is_plain role ≡ false → count_by (has_role role) s ≤ 1
  pub both : (role : Role) → is_plain role ≡ false → count_by (has_role role) s ≡ count_by (has_role (exchanged role)) s
  pub pointable : ArePointable s

-- a kind has two classes, or one alone, or one that a pointer can name where none can name its partner
abbrev pub AreUnmatched : Classes → Type 0
AreUnmatched s = AreUnpaired s ⊎ AreUnpointable s

-- the first record without exactly one identifier in form
pub record IsFirstUnidentified (records : List Said) (at : ℕ) : Type 0 where
  pub place : ℕ
  pub at_is : at ≡ place + 1
  pub here : position (λ s. s.lacks_identifier) records ≡ Some place

abbrev pub AreIdentified : List Said → Type 0
AreIdentified records = position (λ s. s.lacks_identifier) records ≡ None

abbrev pub names_said : List Said → List Name
names_said records = map (λ s. s.name) records

-- the first name that an earlier one has; places count from 1
pub record IsFirstRepeat (names : List Name) (at : ℕ) : Type 0 where
  pub place : ℕ
  pub name : Name
  pub at_is : at ≡ place + 1
  pub here : slice_get names place ≡ Some name
  pub repeats : list_any (is_name name) (take place names) ≡ true
  pub distinct : IsDistinct is_name (take place names)

-- the first of these at which the other gives nothing; places count from 1
pub record IsFirstLacking {X Y : Type 0} (gives : X → Option Y) (xs : List X) (at : ℕ) : Type 0 where
  pub place : ℕ
  pub item : X
  pub found : List Y
  pub at_is : at ≡ place + 1
  pub here : slice_get xs place ≡ Some item
  pub lacks : gives item ≡ None
  pub front : map gives (take place xs) ≡ map Some found

-- the records of the two files and the codes
module _ (classes words : List Said) (kinds : KindCodes) where
  -- no record breaks 601 or 602
  pub record AreNamed : Type 0 where
    pub classes_identified : AreIdentified classes
    pub words_identified : AreIdentified words
    pub classes_distinct : IsDistinct is_name (names_said classes)
    pub words_distinct : IsDistinct is_name (names_said words)

  -- the first record at which the steps stop
  pub data StopsAt (file : Source) (rule at : ℕ) : Type 0 where
    class_unidentified : file ≡ Scd → rule ≡ 601 → IsFirstUnidentified classes at → StopsAt file rule at
    word_unidentified : file ≡ Dic → rule ≡ 601 → AreIdentified classes → IsFirstUnidentified words at
        → StopsAt file rule at
    class_repeats : file ≡ Scd → rule ≡ 602 → AreIdentified classes → AreIdentified words
        → IsFirstRepeat (names_said classes) at → StopsAt file rule at
    word_repeats : file ≡ Dic → rule ≡ 602 → AreIdentified classes → AreIdentified words
        → IsDistinct is_name (names_said classes)
        → IsFirstRepeat (names_said words) at → StopsAt file rule at
    lacks_word : file ≡ Scd → rule ≡ 603 → AreNamed → IsFirstLacking (class_in kinds words) classes at
        → StopsAt file rule at

  -- the classes that the records state, in the order of their names
  pub record AreStated (s : Classes) : Type 0 where
    pub named : AreNamed
    pub stated : Classes
    pub each : map (class_in kinds words) classes ≡ map Some stated
    pub same : IsPermutation stated s
    pub in_order : AlwaysRises name_cmp (keys_of s)
