-- Known words.
use Rattle.std.specs.Prelude.{◌==◌, ℕ, Bool, List, [], ◌∷◌, Option, length, map, option_map, codes}
use Rattle.std.specs.List.{slice_split}
use Rattle.clap.specs.Words.{Text, fault_of, first_of, one_of, subcommand_of}
use Rattle.edi_words.specs.Requests.{edicad, values_at}

-- the byte that parts words
abbrev pub word_break : ℕ
word_break = 32

-- the words of a line, parted by spaces
abbrev pub words_in : Text → List Text
words_in line = slice_split (λ x. x == word_break) line

-- nothing is wrong with the words of a line
abbrev pub is_sound : Text → Bool
is_sound line = length (fault_of edicad (words_in line)) == 0

-- the subcommand of a line, with the values of the option and of the files
abbrev pub values_of : Text → Option (Text × List (Option Text))
values_of line = option_map (λ met. (
  met.0,
  map (λ id. first_of id met.1)
      (codes "kinds" ∷ codes "SCD" ∷ codes "DIC" ∷ codes "VEC" ∷ codes "OUT" ∷ codes "A" ∷ codes "B" ∷ []),
)) (subcommand_of edicad (words_in line))

-- the values of a line's option for a pairing's file, and of its argument FILE
abbrev pub pairing_files_of : Text → Option (List (Option Text))
pairing_files_of line =
    option_map (λ met. first_of (codes "pairing") met.1 ∷ first_of (codes "FILE") met.1 ∷ [])
    (subcommand_of edicad (words_in line))

-- the value of a line's option for a picture's file
abbrev pub picture_of : Text → Option (Option Text)
picture_of line = option_map (λ met. first_of (codes "picture") met.1) (subcommand_of edicad (words_in line))

-- the value of a line's flag for the short text
abbrev pub brief_of : Text → Option (Option Text)
brief_of line = option_map (λ met. one_of (codes "brief") met.1) (subcommand_of edicad (words_in line))

-- and that for the text record by record
abbrev pub records_of : Text → Option (Option Text)
records_of line = option_map (λ met. one_of (codes "records") met.1) (subcommand_of edicad (words_in line))

-- and that for lines of JSON
abbrev pub json_of : Text → Option (Option Text)
json_of line = option_map (λ met. one_of (codes "json") met.1) (subcommand_of edicad (words_in line))

-- the value of a line's option for the identifiers of the attributes that name objects
abbrev pub named_by_of : Text → Option (Option Text)
named_by_of line = option_map (λ met. first_of (codes "name-by") met.1) (subcommand_of edicad (words_in line))

-- and that for the digest of the schema
abbrev pub with_schema_of : Text → Option (Option Text)
with_schema_of line = option_map (λ met. one_of (codes "schema") met.1) (subcommand_of edicad (words_in line))

-- and that for all that is broken
abbrev pub all_of_line : Text → Option (Option Text)
all_of_line line = option_map (λ met. one_of (codes "all") met.1) (subcommand_of edicad (words_in line))

-- the subcommand of a line, with the values of its last argument PATH
abbrev pub paths_asked : Text → Option (Text × List Text)
paths_asked line = option_map (λ met. (met.0, values_at (codes "PATH") met.1)) (subcommand_of edicad (words_in line))

-- the values of a line's options for a manifest's file, and for a manifest to be checked
abbrev pub manifests_asked : Text → Option (List (Option Text))
manifests_asked line = option_map (λ met. first_of (codes "manifest") met.1 ∷ first_of (codes "check") met.1 ∷ [])
    (subcommand_of edicad (words_in line))

-- the subcommand of a line, with the values of its last argument VEC
abbrev pub sheets_of : Text → Option (Text × List Text)
sheets_of line = option_map (λ met. (met.0, values_at (codes "VEC") met.1)) (subcommand_of edicad (words_in line))

-- the subcommand of a line, with the value of its option for a list
abbrev pub list_asked : Text → Option (Text × Option Text)
list_asked line =
    option_map (λ met. (met.0, first_of (codes "check") met.1)) (subcommand_of edicad (words_in line))

-- the subcommand of a line, with the values of BEFORE and AFTER
abbrev pub lists_asked : Text → Option (Text × List (Option Text))
lists_asked line =
    option_map (λ met. (met.0, first_of (codes "BEFORE") met.1 ∷ first_of (codes "AFTER") met.1 ∷ []))
    (subcommand_of edicad (words_in line))
