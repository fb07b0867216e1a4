-- Known schemas and their texts.
use Rattle.std.specs.Prelude.{ℕ, Bool, true, false, List, [], ◌∷◌, ◌++◌, codes, flat_map}
use Rattle.edi_line.specs.Bytes.{line_feed}
use Rattle.edi_record.specs.declared.name.Name.{Name}
use Rattle.edi_schema.specs.Classes.{Classes}
use Rattle.edi_schema.specs.declared.class.Class.{Class}
use Rattle.edi_schema.specs.declared.role.Role.{Role}
use Rattle.edi_schema.specs.declared.role.Role.TheVariants.{Left, Right, Plain}

abbrev pub said : List ℕ → List ℕ → Role → ℕ → Bool → Name × Class
said rty rid role letter is_number =
    (record { rty = rty; rid = rid }, record { role = role; letter = letter; is_number = is_number })

-- attributes, an object, and the links to the faces of an arc, which are of these kinds
abbrev pub sided_classes : Role → Role → Classes
sided_classes first second =
    said (codes "ATT") (codes "NOM_id") Plain 84 false
    ∷ said (codes "ATT") (codes "SUP_id") Plain 78 true
    ∷ said (codes "OBJ") (codes "PARCELLE_id") Plain 65 false
    ∷ said (codes "REL") (codes "DRT_id") first 65 false
    ∷ said (codes "REL") (codes "GCH_id") second 65 false
    ∷ []

-- the same, with a letter and numbers for the object's class, and with a class whose type has a semicolon
abbrev pub more_classes : Classes
more_classes =
    said (codes "ATT") (codes "NOM_id") Plain 84 false
    ∷ said (codes "ATT") (codes "SUP_id") Plain 78 true
    ∷ said (codes "ATT;") (codes "SUP_id") Plain 78 true
    ∷ said (codes "OBJ") (codes "PARCELLE_id") Plain 78 true
    ∷ said (codes "REL") (codes "DRT_id") Right 65 false
    ∷ said (codes "REL") (codes "GCH_id") Left 65 false
    ∷ []

abbrev pub text_of_lines : List (List ℕ) → List ℕ
text_of_lines lines = flat_map (λ line. line ++ line_feed ∷ []) lines

-- the text, by the words for the two kinds
abbrev pub sided_text : List ℕ → List ℕ → List ℕ
sided_text first second = text_of_lines (codes "edicad schema 1"
    ∷ codes "ATT;NOM_id;T;bytes;-" ∷ codes "ATT;SUP_id;N;number;-" ∷ codes "OBJ;PARCELLE_id;-;-;-"
    ∷ (codes "REL;DRT_id;-;-;" ++ first) ∷ (codes "REL;GCH_id;-;-;" ++ second) ∷ [])
