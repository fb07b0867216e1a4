-- The values of JSON of digests, and of sheets that have none (docs/JSON.md, "Digests").
use Rattle.std.specs.Prelude.{ℕ, List, [], ◌∷◌, Some, None, codes}
use Rattle.hex.specs.Hex.{encode_lower}
use Rattle.json.specs.Json.{Json, member, no_members, string}
use Rattle.edi_compare.specs.declared.fault.Fault.TheVariants as sheet
use Rattle.edi_compare.specs.declared.fault.RunFault.{RunFault}
use Rattle.edi_compare.specs.declared.fault.RunFault.TheVariants.{Memory, Read, TooLong, Schema, First, Second, Write}
use Rattle.edi_json.specs.Values.{line_value, text_value}
use Rattle.edi_json_answers.specs.Answers.{broken_at_value}

-- a digest: what it is of, the name of the file, and the digits of the digest
abbrev pub digest_value : List ℕ → List ℕ → List ℕ → Json
digest_value of name digits = line_value (codes "digest") (member (codes "of") (string of)
    (member (codes "name") (text_value name) (member (codes "digest") (string digits) no_members)))

-- the digest of a schema, by the name of its file of classes
abbrev pub schema_digest_value : List ℕ → List ℕ → Json
schema_digest_value name digest = digest_value (codes "schema") name (encode_lower digest)

-- the digest of a sheet, by the name of its file
abbrev pub sheet_digest_value : List ℕ → List ℕ → Json
sheet_digest_value name digest = digest_value (codes "sheet") name (encode_lower digest)

-- the value of a fault of the sheet in the file of a name: that of its refusal, and none of what isn't refused
abbrev pub refused_sheet_values : List ℕ → RunFault → List Json
refused_sheet_values name (Memory e) = []
refused_sheet_values name (Read input) = []
refused_sheet_values name (TooLong input) = []
refused_sheet_values name (Schema f) = []
refused_sheet_values name (First (sheet.Memory e)) = []
refused_sheet_values name (First (sheet.Line rule at)) = broken_at_value (codes "refusal") name rule (Some at) None ∷ []
refused_sheet_values name (First (sheet.Entry rule at)) = broken_at_value (codes "refusal") name rule None (Some at) ∷ []
refused_sheet_values name (Second f) = []
refused_sheet_values name (Write w) = []
