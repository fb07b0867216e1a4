-- Titles of records, which browsers show, and bytes in XML.
use Rattle.std.specs.Prelude.{ℕ, ◌==◌, ◌&&◌, nat_le, List, [], ◌∷◌, ◌++◌, if◌then◌else◌, codes, decimal}
use Rattle.std.specs.List.{flat_map}
use Rattle.edi_line.specs.Bytes.{space, tilde}
use Rattle.edi_record.specs.Shapes.{kind_code}
use Rattle.edi_record.specs.declared.name.Name.{Name}
use Rattle.edi_schema.specs.Classes.{Classes}
use Rattle.edi_plan.specs.Plans.{record_at}
use Rattle.edi_picture.specs.Marks.{mark_words}
use Rattle.edi_picture.specs.Sheets.{DrawnSheet, class_name, identifier_at, mark_at}

-- the marks of XML, `&`, `<` and `>`
abbrev pub ampersand : ℕ
ampersand = 38

abbrev pub less_than : ℕ
less_than = 60

abbrev pub greater_than : ℕ
greater_than = 62

-- the first of the characters that Latin-1 has and ASCII has not
abbrev pub no_break_space : ℕ
no_break_space = 160

-- A byte in XML: as it is if it is printable ASCII and no mark of XML; from the no-break space on the character of
-- Latin-1 with its number; any other as a question mark.
abbrev pub escaped : ℕ → List ℕ
escaped c =
    if c == ampersand then codes "&amp;"
    else if c == less_than then codes "&lt;"
    else if c == greater_than then codes "&gt;"
    else if nat_le space c && nat_le c tilde then c ∷ []
    else if nat_le no_break_space c then codes "&#" ++ decimal c ++ codes ";"
    else codes "?"

abbrev pub escaped_text : List ℕ → List ℕ
escaped_text text = flat_map escaped text

-- TYPE;IDENTIFIER of a class
abbrev pub class_title : Name → List ℕ
class_title class = escaped_text class.rty ++ codes ";" ++ escaped_text class.rid

-- TYPE IDENTIFIER CLASS
abbrev pub record_title : Classes → DrawnSheet → ℕ → List ℕ
record_title s sheet k = kind_code (record_at sheet.plan k).kind ++ codes " "
    ++ escaped_text (identifier_at sheet k) ++ codes " " ++ class_title (class_name s (record_at sheet.plan k).class)

-- that, what its mark says, and these words
abbrev pub title_text : Classes → DrawnSheet → ℕ → List ℕ → List ℕ
title_text s sheet k words =
    codes "<title>" ++ record_title s sheet k ++ mark_words (mark_at sheet k) ++ words ++ codes "</title>"

-- ---- names of files

-- a byte of the name of a file: as it is if it is ASCII, and else a question mark
abbrev pub name_character : ℕ → List ℕ
name_character c = if nat_le c tilde then escaped c else codes "?"

abbrev pub file_name_text : List ℕ → List ℕ
file_name_text name = flat_map name_character name
