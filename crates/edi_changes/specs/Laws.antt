-- Laws of changes.
use Rattle.std.specs.Prelude.{◌≡◌, ◌↔◌, ℕ, List, IsPermutation}
use Rattle.edi_changes.specs.Changes.{AreListChanges}
use Rattle.edi_changes.specs.Stated.{StatesDigests}
use Rattle.edi_changes.specs.Told.{status_of_changes}
use Rattle.edi_changes.specs.declared.changes.Change.{Change}
use Rattle.edi_changes.specs.declared.entry.Entry.{Entry}

-- the status of changes is 0 exactly if the one list has the entries of the other, each as often, in any order
abbrev pub SameListsAreUnchanged : Type 0
SameListsAreUnchanged = (before after : List Entry) (changes : List Change) → AreListChanges before after changes
    → (status_of_changes changes ≡ 0) ↔ IsPermutation before after

-- a text states one list of digests, whose order is no part of it
abbrev pub StatedListsAreOne : Type 0
StatedListsAreOne = (text : List ℕ) (entries others : List Entry)
    → StatesDigests text entries → StatesDigests text others → IsPermutation entries others
