-- Why a file doesn't pair, in words.
use Rattle.std.specs.Prelude.{◌++◌, List, ℕ, codes, decimal}
use Rattle.edi_record.specs.Shapes.{kind_code}
use Rattle.edi_compare.specs.declared.uncarried.RecordPart.{RecordPart}
use Rattle.edi_compare.specs.declared.uncarried.RecordPart.TheVariants.{Reversal, Kind, Class, Points, Extras, Attributes, Ends}
use Rattle.edi_shown.specs.Shown.{shown_bytes}
use Rattle.edi_pairing.specs.declared.names.RecordName.{RecordName}
use Rattle.edi_pairing.specs.declared.verified.NamedPair.{NamedPair}
use Rattle.edi_pairing.specs.declared.verified.Unpaired.{Unpaired}
use Rattle.edi_pairing.specs.declared.verified.Unpaired.TheVariants.{CharacterSets, Shared, Unlike, Unmet}

-- TYPE IDENTIFIER
abbrev pub name_text : RecordName → List ℕ
name_text name = kind_code name.kind ++ codes " " ++ shown_bytes name.rid

-- FILE:LINE: TYPE IDENTIFIER: of a line of the pairing's file
abbrev pub pair_text : List ℕ → NamedPair → List ℕ
pair_text file pair =
    shown_bytes file ++ codes ":" ++ decimal pair.at ++ codes ": " ++ name_text pair.name ++ codes ": "

-- what differs between a record and the one that it goes to
abbrev pub part_words : RecordPart → List ℕ
part_words Reversal = codes "it is reversed, and no arc"
part_words Kind = codes "another type"
part_words Class = codes "another class"
part_words Points = codes "other points"
part_words Extras = codes "other extras"
part_words Attributes = codes "other attributes"
part_words Ends = codes "other ends"

-- why a file of this name doesn't pair
abbrev pub unpaired_text : List ℕ → Unpaired → List ℕ
unpaired_text file CharacterSets = codes "A and B have different character sets"
unpaired_text file (Shared pair earlier) =
    pair_text file pair ++ codes "goes to " ++ name_text pair.partner ++ codes " of B, as " ++ name_text earlier.name
    ++ codes " does in line " ++ decimal earlier.at
unpaired_text file (Unlike pair part) =
    pair_text file pair ++ codes "is not " ++ name_text pair.partner ++ codes " of B: " ++ part_words part
unpaired_text file (Unmet name) = name_text name ++ codes " of B: no record of A goes to it"
