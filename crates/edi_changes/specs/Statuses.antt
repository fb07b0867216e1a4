-- What `changed` answers.
use Rattle.std.specs.Prelude.{◌≡◌, ◌⊎◌, ℕ, List, [], codes}
use Rattle.edi_answers.specs.Effects.{Effects, Stream}
use Rattle.edi_answers.specs.Statuses.{Answers, IsUnsaid, OnlyLacksMemory, Prints, PrintsFirst}
use Rattle.edi_answers.specs.WholeInputs.{OfWholeInput}
use Rattle.edi_changes.specs.Changes.{AreListChanges}
use Rattle.edi_changes.specs.Lacking.{Lacks}
use Rattle.edi_changes.specs.Stated.{StatesDigests, StatesNoDigests}
use Rattle.edi_changes.specs.Told.{changes_text, status_of_changes}
use Rattle.edi_changes.specs.declared.changes.Change.{Change}
use Rattle.edi_changes.specs.declared.entry.Entry.{Entry}

-- why an input states no digests
abbrev pub LacksDigests : Effects → Stream → List ℕ → ℕ → Type 0
LacksDigests = Lacks StatesNoDigests (codes "neither a manifest nor a list of digests")

-- The output got the text of the changes between two lists, and the status is theirs; or the output failed in the text.
abbrev pub TellsChangesOf : Stream → Stream → List Entry → List Entry → ℕ → Type 0
TellsChangesOf out err old new s = (changes : List Change) × AreListChanges old new changes
    × ((Answers out err (changes_text changes) × (s ≡ status_of_changes changes))
    ⊎ (((count : ℕ) × PrintsFirst out count (changes_text changes)) × IsUnsaid out err × (s ≡ 4)))

-- The changes since a list to that of an input were told; or this has none; or memory ran out.
abbrev pub ChangesSince : Effects → Stream → Stream → List Entry → List ℕ → ℕ → Type 0
ChangesSince run out err old after s =
    ((new : List Entry) × OfWholeInput run.inputs after (λ a. StatesDigests a new) × TellsChangesOf out err old new s)
    ⊎ ((LacksDigests run err after s × Prints out []) ⊎ (OnlyLacksMemory out err × (s ≡ 5)))

-- The status of a run that says what has changed from the digests of one input to those of another; or why one of them
-- has none, of which the first is read first.
abbrev pub IsChangedStatus : Effects → Stream → Stream → List ℕ → List ℕ → ℕ → Type 0
IsChangedStatus run out err before after s =
    ((old : List Entry) × OfWholeInput run.inputs before (λ b. StatesDigests b old)
    × ChangesSince run out err old after s)
    ⊎ (LacksDigests run err before s × Prints out [])
