-- The steps of holding a delivery against a manifest.
use Rattle.std.specs.Prelude.{◌≡◌, ◌⊎◌, ℕ, max, List, map}
use Rattle.edi_schema.specs.Roles.{KindCodes}
use Rattle.edi_manifest.specs.declared.line.ManifestLine.{ManifestLine}
use Rattle.edi_files.specs.Reasons.{Why}
use Rattle.edi_answers.specs.Effects.{Inputs, Stream}
use Rattle.edi_answers.specs.Notes.{InTurn}
use Rattle.edi_changes.specs.Changes.{AreListChanges}
use Rattle.edi_changes.specs.Told.{status_of_changes}
use Rattle.edi_changes.specs.declared.changes.Change.{Change}
use Rattle.edi_deliveries.specs.Checks.{AreHeld, held_text, named_entry}
use Rattle.edi_deliveries.specs.Deliveries.{Opened}
use Rattle.edi_deliveries.specs.Found.{AreLotsFound}

-- the lines of a delivery were found, and then held against these
abbrev pub FindsThenHolds : Inputs → Why → KindCodes → Opened → List ManifestLine → Stream → Stream → ℕ → Type 0
FindsThenHolds inputs why kinds d known out err s = (lines : List ManifestLine) × (found : ℕ) × (held : ℕ)
    × InTurn err (λ e. AreLotsFound inputs why kinds d lines e found) (λ e. AreHeld known lines out e held)
    × (s ≡ max found held)

-- this is said of the changes between two lists of lines, with this status, which is 0 or 1
abbrev pub AreChangesSaid : List ManifestLine → List ManifestLine → List ℕ → ℕ → Type 0
AreChangesSaid known lines text status = (changes : List Change)
    × AreListChanges (map named_entry known) (map named_entry lines) changes
    × (text ≡ held_text changes) × (status ≡ status_of_changes changes) × ((status ≡ 0) ⊎ (status ≡ 1))
