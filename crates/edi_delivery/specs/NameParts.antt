-- The names of lots and of files.
use Rattle.std.specs.Prelude.{ℕ, Bool, false, ◌&&◌, ◌||◌, ◌==◌, nat_le, List, [], ◌∷◌, ◌++◌, length, codes}
use Rattle.std.specs.Char.{is_ascii_alphanumeric}
use Rattle.std.specs.List.{list_all}
use Rattle.std.specs.Str.{bytes_eq, str_to_ascii_lowercase}
use Rattle.edi_line.specs.Bytes.{minus, point}
use Rattle.edi_delivery.specs.declared.file_name.Extension.{Extension}
use Rattle.edi_delivery.specs.declared.file_name.Extension.TheVariants.{Scd, Dic, Gen, Geo, Qal, Vec}

-- `_`
abbrev pub underscore : ℕ
underscore = 95

-- how many bytes a part of a name has at most, and a file's name
abbrev pub most_of_part : ℕ
most_of_part = 125

abbrev pub most_of_file : ℕ
most_of_file = 255

-- a letter of ASCII, a digit or `_`
abbrev pub is_word_byte : ℕ → Bool
is_word_byte c = is_ascii_alphanumeric c || (c == underscore)

-- one of these, or `-`
abbrev pub is_part_byte : ℕ → Bool
is_part_byte c = is_word_byte c || (c == minus)

-- one of these, or a point
abbrev pub is_file_byte : ℕ → Bool
is_file_byte c = is_part_byte c || (c == point)

-- the name of a lot, or a file's own name
abbrev pub is_name_part : List ℕ → Bool
is_name_part [] = false
is_name_part (c ∷ cs) = is_word_byte c && (list_all is_part_byte cs && nat_le (length (c ∷ cs)) most_of_part)

-- the name of a file
abbrev pub is_file_name : List ℕ → Bool
is_file_name [] = false
is_file_name (c ∷ cs) = is_word_byte c && (list_all is_file_byte cs && nat_le (length (c ∷ cs)) most_of_file)

-- an extension, with its point
abbrev pub extension_text : Extension → List ℕ
extension_text Scd = codes ".SCD"
extension_text Dic = codes ".DIC"
extension_text Gen = codes ".GEN"
extension_text Geo = codes ".GEO"
extension_text Qal = codes ".QAL"
extension_text Vec = codes ".VEC"

-- the name of a lot's file: the name of the lot, the file's own, and the extension
abbrev pub file_name : List ℕ → Extension → List ℕ → List ℕ
file_name lot extension own = lot ++ own ++ extension_text extension

-- the same name, `A` to `Z` and `a` to `z` taken as one
abbrev pub is_same_name : List ℕ → List ℕ → Bool
is_same_name a b = bytes_eq (str_to_ascii_lowercase a) (str_to_ascii_lowercase b)
