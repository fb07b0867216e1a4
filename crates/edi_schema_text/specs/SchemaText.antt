-- The text of a schema: what it says of the classes that a sheet can name, as far as sheets depend on it.
--
-- A record and an attribute name their class by a pointer, and no part of a pointer has a semicolon. So no sheet
-- names a class whose type has one. An attribute's class is of type ATT (rule 303), so that the letter of a class and
-- whether its values are numbers count for that type alone. The class of a link may be of any type, so that the kind
-- counts for each.
use Rattle.std.specs.Prelude.{◌≡◌, ℕ, Bool, not, List, [], ◌∷◌, ◌++◌, filter, flat_map, codes, bytes_eq, if◌then◌else◌}
use Rattle.std.specs.List.{list_any}
use Rattle.edi_line.specs.Bytes.{line_feed, semicolon}
use Rattle.edi_record.specs.Texts.{HasNoSemicolon, is_semicolon}
use Rattle.edi_record.specs.declared.name.Name.{Name}
use Rattle.edi_schema.specs.Classes.{Classes, is_number_named, letter_named, role_named}
use Rattle.edi_schema.specs.declared.class.Class.{Class}
use Rattle.edi_schema.specs.declared.role.Role.{Role}
use Rattle.edi_schema.specs.declared.role.Role.TheVariants.{Initial, Final, Left, Right, Plain}

-- ---- what sheets depend on

-- a pointer can name the class: its type has no semicolon
abbrev pub is_nameable : Name × Class → Bool
is_nameable entry = not (list_any is_semicolon entry.0.rty)

-- a class that attributes may have
abbrev pub is_attribute_class : Name × Class → Bool
is_attribute_class entry = bytes_eq entry.0.rty (codes "ATT")

-- both schemas have a class of this name, of one kind, or neither has; and for attributes of one letter, and of
-- numbers in both or in neither
pub record AgreeOn (s t : Classes) (name : Name) : Type 0 where
  pub kind : role_named s name ≡ role_named t name
  pub letter : name.rty ≡ codes "ATT" → letter_named s name ≡ letter_named t name
  pub numbers : name.rty ≡ codes "ATT" → is_number_named s name ≡ is_number_named t name

-- two schemas mean the same: they agree on each name that a pointer can have
abbrev pub MeanSame : Classes → Classes → Type 0
MeanSame s t = (name : Name) → HasNoSemicolon name.rty → AgreeOn s t name

-- ---- the text

-- the form's name and version
abbrev pub schema_head : List ℕ
schema_head = codes "edicad schema 1" ++ line_feed ∷ []

-- the words for a kind of link, and `-` for none
abbrev pub kind_text : Role → List ℕ
kind_text Initial = codes "initial node"
kind_text Final = codes "final node"
kind_text Left = codes "left face"
kind_text Right = codes "right face"
kind_text Plain = codes "-"

-- what the values of a class are that read as numbers
abbrev pub values_word : Bool → List ℕ
values_word is_number = if is_number then codes "number" else codes "bytes"

-- the letter of a class and what its values are; `-` for both where no attribute has the class
abbrev pub values_text : Name × Class → List ℕ
values_text entry =
    if is_attribute_class entry then entry.1.letter ∷ semicolon ∷ values_word entry.1.is_number else codes "-;-"

-- `TYPE;IDENTIFIER;LETTER;VALUES;KIND`
unfoldable pub line_of_class : Name × Class → List ℕ
line_of_class entry =
    entry.0.rty ++ semicolon
    ∷ (entry.0.rid ++ semicolon ∷ (values_text entry ++ semicolon ∷ (kind_text entry.1.role ++ line_feed ∷ [])))

-- the lines of these classes, but for those that no pointer can name
abbrev pub class_lines : Classes → List ℕ
class_lines s = flat_map line_of_class (filter is_nameable s)

-- the head, and the lines of the classes in the order of their names
abbrev pub text_of_schema : Classes → List ℕ
text_of_schema s = schema_head ++ class_lines s
