-- Laws of the files of deliveries, and of their manifests.
use Rattle.std.specs.Prelude.{◌≡◌, ◌↔◌, ◌++◌, ℕ, true, List, Some, map}
use Rattle.std.specs.List.{AllByRecursion, list_any}
use Rattle.std.specs.Str.{bytes_eq}
use Rattle.edi_delivery.specs.Laws.{StaysInFolder}
use Rattle.edi_delivery.specs.NameParts.{is_file_name, is_same_name}
use Rattle.edi_manifest.specs.ManifestText.{IsManifestLine, manifest_text}
use Rattle.edi_manifest.specs.declared.line.ManifestLine.{ManifestLine}
use Rattle.edi_changes.specs.Changes.{AreListChanges}
use Rattle.edi_changes.specs.Told.{status_of_changes}
use Rattle.edi_changes.specs.declared.changes.Change.{Change}
use Rattle.edi_deliveries.specs.Checks.{named_entry}
use Rattle.edi_deliveries.specs.Deliveries.{found_path}

-- The path of a file that is found is what stands before the names, and then one of these: it is the same as that of
-- the file in upper and lower case, and leads out of no folder.
pub record IsPathInFolder (before : List ℕ) (names : List (List ℕ)) (file path : List ℕ) : Type 0 where
  pub name : List ℕ
  pub is : path ≡ before ++ name
  pub among : list_any (bytes_eq name) names ≡ true
  pub same : is_same_name file name ≡ true
  pub stays : StaysInFolder name

abbrev pub FoundFilesStayInFolders : Type 0
FoundFilesStayInFolders = (before : List ℕ) (names : List (List ℕ)) (file path : List ℕ) → is_file_name file ≡ true
    → found_path before names file ≡ Some path → IsPathInFolder before names file path

-- a delivery has the digests of a manifest, each, exactly if the two manifests have one text
abbrev pub HeldManifestsAreOne : Type 0
HeldManifestsAreOne = (known lines : List ManifestLine) (changes : List Change) → AllByRecursion IsManifestLine known
    → AllByRecursion IsManifestLine lines
    → AreListChanges (map named_entry known) (map named_entry lines) changes
    → (status_of_changes changes ≡ 0) ↔ (manifest_text known ≡ manifest_text lines)
