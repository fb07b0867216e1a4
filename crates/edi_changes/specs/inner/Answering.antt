-- Steps of the answer of `changed`.
use Rattle.std.specs.Prelude.{◌≡◌, ◌⊎◌, ℕ, List}
use Rattle.edi_changes.specs.Changes.{AreListChanges}
use Rattle.edi_changes.specs.Told.{changes_text, status_of_changes}
use Rattle.edi_changes.specs.declared.changes.Change.{Change}
use Rattle.edi_changes.specs.declared.entry.Entry.{Entry}

-- this is said of the changes between two lists, with this status, which is 0 or 1
abbrev pub IsToldOf : List Entry → List Entry → List ℕ → ℕ → Type 0
IsToldOf old new text status = (changes : List Change) × AreListChanges old new changes × (text ≡ changes_text changes)
    × (status ≡ status_of_changes changes) × ((status ≡ 0) ⊎ (status ≡ 1))
