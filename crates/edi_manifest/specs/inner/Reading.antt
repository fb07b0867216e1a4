-- The steps of reading a manifest.
use Rattle.std.specs.Prelude.{◌≡◌, ◌≢◌, ℕ, List, ◌∷◌, [], ◌++◌, map, Option, Some, MatchOption}
use Rattle.std.proofs.Common.{Bor}
use Rattle.std.specs.List.{AllByRecursion, concat}
use Rattle.edi_manifest.specs.ManifestText.{IsManifestLine, digested_text, manifest_line, manifest_lines, manifest_text}
use Rattle.edi_manifest.specs.declared.line.Digested.{Digested}
use Rattle.edi_manifest.specs.declared.line.ManifestLine.{ManifestLine}

-- bytes other than this one
abbrev pub HasNoByte : ℕ → List ℕ → Type 0
HasNoByte byte bytes = AllByRecursion (λ c. c ≢ byte) bytes

-- where a word comes first, this is what it says and what stands behind it
abbrev pub FindsDigested : List ℕ → Option (Digested × Bor (List ℕ)) → Type 0
FindsDigested text found = (d : Digested) (behind : List ℕ) → text ≡ digested_text d ++ behind
    → MatchOption found ⊥ (λ f. (f.0 ≡ d) × (f.1.now ≡ behind))

-- where the content is that of a line, this is the line
abbrev pub FindsManifestLine : List ℕ → Option ManifestLine → Type 0
FindsManifestLine content found = (line : ManifestLine) → IsManifestLine line
    → content ++ 10 ∷ [] ≡ manifest_line line → found ≡ Some line

-- where the text is that of lines, these are the bytes of the lines between the first and the last
abbrev pub FindsBody : List ℕ → Option (Bor (List ℕ)) → Type 0
FindsBody text found = (lines : List ManifestLine) → AllByRecursion IsManifestLine lines
    → manifest_text lines ≡ text
    → MatchOption found ⊥ (λ f. f.now ≡ concat (manifest_lines lines))

-- where the bytes are those of lines, these are the lines in their order
abbrev pub FindsManifestLines : List ℕ → Option (List ManifestLine) → Type 0
FindsManifestLines body found = (lines : List ManifestLine) → AllByRecursion IsManifestLine lines
    → concat (manifest_lines lines) ≡ body
    → MatchOption found ⊥ (λ f. map manifest_line f ≡ manifest_lines lines)
