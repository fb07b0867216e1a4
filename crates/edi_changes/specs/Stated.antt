-- The digests that a text states.
use Rattle.std.specs.Prelude.{◌≡◌, ◌⊎◌, ◌++◌, ℕ, Bool, true, false, List, map}
use Rattle.std.specs.List.{AllByRecursion}
use Rattle.edi_manifest.specs.ManifestText.{IsManifestLine, IsNoManifest, digested_text, manifest_text}
use Rattle.edi_manifest.specs.declared.line.Digested.{Digested}
use Rattle.edi_manifest.specs.declared.line.Digested.TheVariants.{Schema, Sheet}
use Rattle.edi_manifest.specs.declared.line.ManifestLine.{ManifestLine}
use Rattle.edi_changes.specs.ListText.{IsListLine, IsNoList, list_text}
use Rattle.edi_changes.specs.declared.entry.Entry.{Entry}
use Rattle.edi_changes.specs.declared.list.ListLine.{ListLine}

-- a digest of a manifest, by what it is of: a word, a space and the name of the file
abbrev pub manifest_entry : ManifestLine → Entry
manifest_entry line = record { subject = digested_text line.digested ++ line.name; digest = line.digest }

-- what a line of a list has the digest of
abbrev pub digested_by : Bool → Digested
digested_by true = Schema
digested_by false = Sheet

-- a digest of a list, in the same way
abbrev pub list_entry : ListLine → Entry
list_entry line = record { subject = digested_text (digested_by line.is_schema) ++ line.name; digest = line.digest }

-- the text is that of a manifest, or of a list, with these digests
abbrev pub StatesDigests : List ℕ → List Entry → Type 0
StatesDigests text entries =
    ((lines : List ManifestLine) × AllByRecursion IsManifestLine lines × (manifest_text lines ≡ text)
    × (entries ≡ map manifest_entry lines))
    ⊎ ((lines : List ListLine) × AllByRecursion IsListLine lines × (list_text lines ≡ text)
    × (entries ≡ map list_entry lines))

-- it is neither
abbrev pub StatesNoDigests : List ℕ → Type 0
StatesNoDigests text = IsNoManifest text × IsNoList text
