-- Laws of manifests.
use Rattle.std.specs.Prelude.{◌≡◌, ◌≢◌, ◌⊎◌, ◌↔◌, List, IsPermutation}
use Rattle.std.specs.List.{AllByRecursion}
use Rattle.sha2.specs.Sha256.{sha256}
use Rattle.edi_manifest.specs.ManifestText.{IsManifestLine, last_line, manifest_body, manifest_text}
use Rattle.edi_manifest.specs.declared.line.ManifestLine.{ManifestLine}

-- two manifests have one text exactly if the one has the lines of the other, in any order
abbrev pub ManifestsAreOne : Type 0
ManifestsAreOne = (lines others : List ManifestLine)
    → AllByRecursion IsManifestLine lines → AllByRecursion IsManifestLine others
    → (manifest_text lines ≡ manifest_text others) ↔ IsPermutation lines others

-- two manifests with one last line have the same lines, or what stands before it are two texts that share their SHA-256
abbrev pub LastLinesTellManifests : Type 0
LastLinesTellManifests = (lines others : List ManifestLine)
    → AllByRecursion IsManifestLine lines → AllByRecursion IsManifestLine others
    → last_line (manifest_body lines) ≡ last_line (manifest_body others)
    → IsPermutation lines others
    ⊎ ((manifest_body lines ≢ manifest_body others) × (sha256 (manifest_body lines) ≡ sha256 (manifest_body others)))

-- two manifests with the same lines, in any order, have one last line
abbrev pub ManifestsTellLastLines : Type 0
ManifestsTellLastLines = (lines others : List ManifestLine)
    → IsPermutation lines others → last_line (manifest_body lines) ≡ last_line (manifest_body others)
