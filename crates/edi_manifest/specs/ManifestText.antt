-- The text of a manifest.
use Rattle.std.specs.Prelude.{◌≡◌, ℕ, true, List, [], ◌∷◌, ◌++◌, length, map, codes}
use Rattle.std.specs.List.{AllByRecursion, concat}
use Rattle.hex.specs.Hex.{encode_lower, IsBytes}
use Rattle.sha2.specs.Sha256.{sha256}
use Rattle.edi_line.specs.Bytes.{line_feed, space}
use Rattle.edi_record.specs.Orders.{bytes_cmp}
use Rattle.edi_schema.specs.Sorted.{sort_by}
use Rattle.edi_delivery.specs.NameParts.{is_file_name}
use Rattle.edi_manifest.specs.declared.line.Digested.{Digested}
use Rattle.edi_manifest.specs.declared.line.Digested.TheVariants.{Schema, Sheet, Coordinates}
use Rattle.edi_manifest.specs.declared.line.ManifestLine.{ManifestLine}

-- what each line of the program keeps: its name is that of a file, and its digest is 32 bytes
pub record IsManifestLine (line : ManifestLine) : Type 0 where
  pub name : is_file_name line.name ≡ true
  pub long : length line.digest ≡ 32
  pub digest : IsBytes line.digest

-- what the digest is of, and a space
abbrev pub digested_text : Digested → List ℕ
digested_text Schema = codes "schema "
digested_text Sheet = codes "sheet "
digested_text Coordinates = codes "coordinates "

-- the name, what the digest is of, and its digits
abbrev pub manifest_line : ManifestLine → List ℕ
manifest_line line =
    line.name ++ space ∷ (digested_text line.digested ++ (encode_lower line.digest ++ line_feed ∷ []))

-- the form's name and its version
abbrev pub manifest_head : List ℕ
manifest_head = codes "edicad manifest 1\n"

-- the lines in the order of their bytes, and so in that of the names
abbrev pub manifest_lines : List ManifestLine → List (List ℕ)
manifest_lines lines = sort_by bytes_cmp (map manifest_line lines)

-- the head and the lines
abbrev pub manifest_body : List ManifestLine → List ℕ
manifest_body lines = manifest_head ++ concat (manifest_lines lines)

-- the last line: the digest of all before it
abbrev pub last_line : List ℕ → List ℕ
last_line body = codes "digest " ++ (encode_lower (sha256 body) ++ line_feed ∷ [])

abbrev pub manifest_text : List ManifestLine → List ℕ
manifest_text lines = manifest_body lines ++ last_line (manifest_body lines)

-- no lines have this text
abbrev pub IsNoManifest : List ℕ → Type 0
IsNoManifest text = (lines : List ManifestLine) → AllByRecursion IsManifestLine lines
    → ¬ (manifest_text lines ≡ text)
