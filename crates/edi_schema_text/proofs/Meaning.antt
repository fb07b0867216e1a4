-- A schema as sheets see it.
use Rattle.std.proofs.Common.{ℕ, false, List, map, filter, if◌then◌else◌, codes, bytes_eq}
use Rattle.edi_record.specs.declared.name.Name.{Name}
use Rattle.edi_schema.specs.Classes.{Classes}
use Rattle.edi_schema.specs.declared.class.Class.{Class}
use Rattle.edi_schema_text.specs.SchemaText.{is_nameable}

-- a class of this type, where its letter and its values are plain unless attributes may have it
abbrev pub settled : List ℕ → Class → Class
settled rty c = if bytes_eq rty (codes "ATT") then c else record { role = c.role; letter = 65; is_number = false }

abbrev pub meaning_of : Name × Class → Name × Class
meaning_of e = (e.0, settled e.0.rty e.1)

-- the classes that a pointer can name
abbrev pub meaning : Classes → Classes
meaning s = map meaning_of (filter is_nameable s)
