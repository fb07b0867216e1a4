-- What the digests of a manifest tell.
use Rattle.std.specs.Prelude.{◌≡◌, ◌≢◌, ◌⊎◌, ℕ, List, ⊤}
use Rattle.sha2.specs.Sha256.{sha256}
use Rattle.edi_schema.specs.Classes.{Classes, IsSchema}
use Rattle.edi_schema_text.specs.SchemaText.{text_of_schema}
use Rattle.edi_schema_meaning.specs.Answers.{AnswerAlike}
use Rattle.edi_schema_meaning.specs.Laws.{HasByteNames}
use Rattle.edi_compare.specs.Headline.{IsFormOf}
use Rattle.edi_compare.specs.PlanOfFile.{StateSame}

-- what a line of a manifest is of: a schema, a sheet under a schema, or the bytes of a file
pub data Archived : Type 0 where
  of_schema : Classes → Archived
  of_sheet : Classes → List ℕ → Archived
  of_bytes : List ℕ → Archived

-- the text of which the line has the SHA-256: what the schema means, the canonical file, the bytes
abbrev pub IsTextOf : Archived → List ℕ → Type 0
IsTextOf (of_schema s) c = c ≡ text_of_schema s
IsTextOf (of_sheet s b) c = IsFormOf s b c
IsTextOf (of_bytes b) c = c ≡ b

-- this is its digest
abbrev pub HasDigest : Archived → List ℕ → Type 0
HasDigest p x = (c : List ℕ) × IsTextOf p c × (x ≡ sha256 c)

-- two mean the same: the schemas answer each file alike, the sheets state one plan, the bytes are equal
abbrev pub PartsMeanSame : Archived → Archived → Type 0
PartsMeanSame (of_schema s) (of_schema t) = AnswerAlike s t
PartsMeanSame (of_sheet s a) (of_sheet t b) = StateSame s a b
PartsMeanSame (of_bytes a) (of_bytes b) = a ≡ b
PartsMeanSame p q = ⊥

-- two can be compared: they are of one kind, and the schemas of sheets answer each file alike
abbrev pub AreOfOneKind : Archived → Archived → Type 0
AreOfOneKind (of_schema s) (of_schema t) = IsSchema s × IsSchema t × HasByteNames s
AreOfOneKind (of_sheet s a) (of_sheet t b) = IsSchema s × AnswerAlike s t
AreOfOneKind (of_bytes a) (of_bytes b) = ⊤
AreOfOneKind p q = ⊥

-- their texts are two, and share their SHA-256
abbrev pub ShareDigest : Archived → Archived → Type 0
ShareDigest p q = (c d : List ℕ) × IsTextOf p c × IsTextOf q d × (c ≢ d) × (sha256 c ≡ sha256 d)

-- parts that mean the same have one digest
abbrev pub SamePartsOneDigest : Type 0
SamePartsOneDigest = (p q : Archived) (x y : List ℕ) → AreOfOneKind p q → HasDigest p x → HasDigest q y
    → PartsMeanSame p q → x ≡ y

-- parts with one digest mean the same, or their texts are two that share it
abbrev pub OneDigestSameParts : Type 0
OneDigestSameParts = (p q : Archived) (x y : List ℕ) → AreOfOneKind p q → HasDigest p x → HasDigest q y → x ≡ y
    → PartsMeanSame p q ⊎ ShareDigest p q
