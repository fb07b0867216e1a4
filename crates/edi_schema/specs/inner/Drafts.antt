-- What single records of a schema's files say.
use Rattle.std.specs.Prelude.{ℕ, Bool, List, [], ◌∷◌, Option, Some, None, codes, option_map, option_and_then, unwrap_or, find}
use Rattle.edi_line.specs.ZoneData.{ZoneData}
use Rattle.edi_record.specs.declared.name.Name.{Name}
use Rattle.edi_record.specs.Records.{values, first}
use Rattle.edi_record.specs.RecordRules.{has_no_identifier}
use Rattle.edi_record.specs.inner.Texts.{class_of}
use Rattle.edi_schema.specs.Roles.{KindCodes, role_by}
use Rattle.edi_schema.specs.Classes.{is_name}
use Rattle.edi_schema.specs.SchemaOf.{letter_read, is_number_type}
use Rattle.edi_schema.specs.declared.class.Class.{Class}
use Rattle.edi_schema.specs.declared.title.Title.{Title}
use Rattle.edi_schema.specs.declared.definition.Definition.{Definition}
use Rattle.edi_schema.specs.declared.draft.ClassDraft.{ClassDraft}

-- the two parts of a name
abbrev pub name_parts : Name → List (List ℕ)
name_parts name = name.rty ∷ name.rid ∷ []

-- the value of the first zone with a code, or nothing
abbrev pub text_of_code : List ℕ → List ZoneData → List ℕ
text_of_code code group = unwrap_or (first (values code group)) []

-- the name of a record; what is missing is empty
abbrev pub draft_name : List ZoneData → Name
draft_name group = record { rty = text_of_code (codes "RTY") group; rid = text_of_code (codes "RID") group }

-- the name that is borrowed from a title
abbrev pub title_name : Title → Name
title_name t = record { rty = t.rty.now; rid = t.rid.now }

-- what is read of a record
pub record Said : Type 0 where
  pub name : Name
  pub lacks_identifier : Bool
  pub word : Option (List ℕ)
  pub kind : Option (List ℕ)
  pub word_type : Option (List ℕ)

abbrev pub said_in : List ZoneData → Said
said_in group = record {
  name = draft_name group;
  lacks_identifier = has_no_identifier group;
  word = first (values (codes "DIP") group);
  kind = first (values (codes "KND") group);
  word_type = first (values (codes "TYP") group);
}

-- what is borrowed from a definition
abbrev pub definition_said : Definition → Said
definition_said d = record {
  name = title_name d.title;
  lacks_identifier = d.lacks_identifier;
  word = option_map (λ t. t.now) d.word;
  kind = option_map (λ t. t.now) d.kind;
  word_type = option_map (λ t. t.now) d.word_type;
}

-- the record of the dictionary that a pointer names
abbrev pub word_in : List Said → List ℕ → Option Said
word_in words text = option_and_then (λ name. find (λ word. is_name name word.name) words) (class_of text)

-- the TYP of the record that the DIP names: none where there is no DIP, and nothing where it names no record
abbrev pub type_by : List Said → Option (List ℕ) → Option (Option (List ℕ))
type_by words None = Some None
type_by words (Some text) = option_map (λ word. word.word_type) (word_in words text)

-- what a record says of its class, where its DIP leads to this type
abbrev pub class_by : KindCodes → Said → Option (List ℕ) → Class
class_by kinds s word_type = record {
  role = role_by kinds s.kind s.name.rid;
  letter = letter_read word_type;
  is_number = is_number_type word_type;
}

-- the class that a record states, with its name
abbrev pub class_in : KindCodes → List Said → Said → Option (Name × Class)
class_in kinds words s = option_map (λ word_type. (s.name, class_by kinds s word_type)) (type_by words s.word)

-- the name and the class that are borrowed from a draft
abbrev pub drafted : ClassDraft → Name × Class
drafted d = (title_name d.title, d.class)
