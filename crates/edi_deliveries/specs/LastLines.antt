-- What the last line of a manifest says of a delivery.
use Rattle.std.specs.Prelude.{◌≡◌, ◌≢◌, ◌⊎◌, ℕ, List, IsPermutation, ⊤}
use Rattle.std.specs.List.{AllByRecursion, AllZip}
use Rattle.sha2.specs.Sha256.{sha256}
use Rattle.edi_schema.specs.Classes.{IsSchema}
use Rattle.edi_schema_meaning.specs.Answers.{AnswerAlike}
use Rattle.edi_schema_meaning.specs.Laws.{HasByteNames}
use Rattle.edi_compare.specs.Headline.{IsFormOf}
use Rattle.edi_manifest.specs.ManifestText.{IsManifestLine, last_line, manifest_body}
use Rattle.edi_manifest.specs.declared.line.Digested.{Digested}
use Rattle.edi_manifest.specs.declared.line.Digested.TheVariants.{Schema, Sheet, Coordinates}
use Rattle.edi_manifest.specs.declared.line.ManifestLine.{ManifestLine}
use Rattle.edi_deliveries.specs.Digests.{Archived, HasDigest, of_bytes, of_schema, of_sheet}

-- a part of a delivery, by the name of its file
pub record NamedPart : Type 0 where
  pub name : List ℕ
  pub part : Archived

-- what the digest of a part is of
abbrev pub digested_part : Archived → Digested
digested_part (of_schema s) = Schema
digested_part (of_sheet s b) = Sheet
digested_part (of_bytes b) = Coordinates

-- a line is that of a part: by its name, with its digest
pub record IsLineOfPart (line : ManifestLine) (p : NamedPart) : Type 0 where
  pub name : line.name ≡ p.name
  pub digested : line.digested ≡ digested_part p.part
  pub digest : HasDigest p.part line.digest

-- its schema, if it is one, is one that files of bytes state
abbrev pub IsOfFiles : Archived → Type 0
IsOfFiles (of_schema s) = IsSchema s × HasByteNames s
IsOfFiles (of_sheet s b) = ⊤
IsOfFiles (of_bytes b) = ⊤

-- two say the same: the schemas answer each sheet alike, the sheets have one canonical file, the bytes are equal
abbrev pub SayTheSame : Archived → Archived → Type 0
SayTheSame (of_schema s) (of_schema t) = AnswerAlike s t
SayTheSame (of_sheet s a) (of_sheet t b) = (c : List ℕ) × IsFormOf s a c × IsFormOf t b c
SayTheSame (of_bytes a) (of_bytes b) = a ≡ b
SayTheSame p q = ⊥

-- two parts are partners: they have one name, and say the same
abbrev pub ArePartnerParts : NamedPart → NamedPart → Type 0
ArePartnerParts p q = (p.name ≡ q.name) × SayTheSame p.part q.part

-- two deliveries say the same: each part of the one has its partner in the other, and there is none beside these
abbrev pub AreSameDeliveries : List NamedPart → List NamedPart → Type 0
AreSameDeliveries ps qs = (partners : List NamedPart) × IsPermutation qs partners × AllZip ArePartnerParts ps partners

-- there are two texts with one SHA-256
abbrev pub TwoTextsOneDigest : Type 0
TwoTextsOneDigest = (c d : List ℕ) × (c ≢ d) × (sha256 c ≡ sha256 d)

-- the lines of a manifest are those of these parts of a delivery
pub record AreLinesOfParts (lines : List ManifestLine) (ps : List NamedPart) : Type 0 where
  pub are : AllByRecursion IsManifestLine lines
  pub lines_of : AllZip IsLineOfPart lines ps
  pub of_files : AllByRecursion (λ (p : NamedPart). IsOfFiles p.part) ps

-- the manifests of two deliveries have one last line
abbrev pub HaveOneLastLine : List ManifestLine → List ManifestLine → Type 0
HaveOneLastLine lines others = last_line (manifest_body lines) ≡ last_line (manifest_body others)

-- deliveries that say the same have one last line
abbrev pub SameDeliveriesOneLastLine : Type 0
SameDeliveriesOneLastLine = (lines others : List ManifestLine) (ps qs : List NamedPart) → AreLinesOfParts lines ps
    → AreLinesOfParts others qs → AreSameDeliveries ps qs → HaveOneLastLine lines others

-- deliveries with one last line say the same, unless two texts have one SHA-256
abbrev pub OneLastLineSameDeliveries : Type 0
OneLastLineSameDeliveries = (lines others : List ManifestLine) (ps qs : List NamedPart) → AreLinesOfParts lines ps
    → AreLinesOfParts others qs → HaveOneLastLine lines others → AreSameDeliveries ps qs ⊎ TwoTextsOneDigest
