-- What `delivery --check` answers: which digests of a manifest are those that are found of a delivery.
use Rattle.std.specs.Prelude.{◌≡◌, ◌⊎◌, ◌++◌, ◌==◌, ℕ, true, false, max, List, [], ◌∷◌, codes, flat_map, if◌then◌else◌, map}
use Rattle.std.specs.List.{AllByRecursion}
use Rattle.edi_line.specs.Bytes.{space}
use Rattle.edi_schema.specs.Roles.{KindCodes}
use Rattle.edi_manifest.specs.ManifestText.{IsManifestLine, IsNoManifest, digested_text, manifest_text}
use Rattle.edi_manifest.specs.declared.line.ManifestLine.{ManifestLine}
use Rattle.edi_answers.specs.Effects.{Effects, Stream}
use Rattle.edi_answers.specs.Hashes.{named_line}
use Rattle.edi_answers.specs.Notes.{InTurn}
use Rattle.edi_answers.specs.Statuses.{Answers, IsUnsaid, OnlyLacksMemory, Prints, PrintsFirst}
use Rattle.edi_answers.specs.WholeInputs.{OfWholeInput}
use Rattle.edi_changes.specs.Changes.{AreListChanges}
use Rattle.edi_changes.specs.Checks.{verdict_word}
use Rattle.edi_changes.specs.Lacking.{Lacks}
use Rattle.edi_changes.specs.Told.{status_of_changes}
use Rattle.edi_changes.specs.declared.changes.Change.{Change}
use Rattle.edi_changes.specs.declared.changes.Fate.{Fate}
use Rattle.edi_changes.specs.declared.changes.Fate.TheVariants.{New, Gone, Changed, Same}
use Rattle.edi_changes.specs.declared.entry.Entry.{Entry}
use Rattle.edi_deliveries.specs.Deliveries.{Listings, Opened, Opens, OpensNone}
use Rattle.edi_deliveries.specs.Found.{AreLotsFound}

-- the digest of a line, by its name and what the digest is of, in the order of a manifest
abbrev pub named_entry : ManifestLine → Entry
named_entry line = record { subject = line.name ++ space ∷ digested_text line.digested; digest = line.digest }

-- what stands before the first space
abbrev pub name_part_of : List ℕ → List ℕ
name_part_of [] = []
name_part_of (c ∷ cs) = if c == space then [] else c ∷ name_part_of cs

-- the word for what has become of a digest of a manifest, as `hash --check` has it, and that for one that the
-- manifest lacks
abbrev pub held_word : Fate → List ℕ
held_word New = codes "NEW"
held_word Gone = verdict_word false
held_word Changed = verdict_word false
held_word Same = verdict_word true

-- the line on a change: the name and the word
abbrev pub held_line : Change → List ℕ
held_line c = named_line (name_part_of c.subject) (held_word c.fate)

-- a line for each name of a manifest or of the delivery
abbrev pub held_text : List Change → List ℕ
held_text changes = flat_map held_line changes

-- The output got the lines on those that were found, held against those of a manifest, and the status is 0 where each
-- is the same, and else 1; or the output failed in them; or memory ran out.
abbrev pub AreHeld : List ManifestLine → List ManifestLine → Stream → Stream → ℕ → Type 0
AreHeld known lines out err s =
    ((changes : List Change) × AreListChanges (map named_entry known) (map named_entry lines) changes
    × ((Answers out err (held_text changes) × (s ≡ status_of_changes changes))
    ⊎ (((count : ℕ) × PrintsFirst out count (held_text changes)) × IsUnsaid out err × (s ≡ 4))))
    ⊎ (OnlyLacksMemory out err × (s ≡ 5))

-- the text is that of a manifest with these lines
abbrev pub StatesManifest : List ManifestLine → List ℕ → Type 0
StatesManifest known text = AllByRecursion IsManifestLine known × (manifest_text known ≡ text)

-- why an input is no manifest
abbrev pub LacksManifest : Effects → Stream → List ℕ → ℕ → Type 0
LacksManifest = Lacks IsNoManifest (codes "no manifest")

module _ (run : Effects) (listings : Listings) (kinds : KindCodes) where
  -- The lines of the delivery that a path leads to were found, and then held against these; the status is the greater.
  -- Or the path leads to none.
  abbrev pub IsHeldAgainst : List ManifestLine → List ℕ → Stream → Stream → ℕ → Type 0
  IsHeldAgainst known path out err s =
      ((d : Opened) × Opens run.inputs listings path d × ((lines : List ManifestLine) × (found : ℕ) × (held : ℕ)
      × InTurn err (λ e. AreLotsFound run.inputs run.why kinds d lines e found) (λ e. AreHeld known lines out e held)
      × (s ≡ max found held)))
      ⊎ (OpensNone run listings path err s × Prints out [])

  -- The status of a run that holds the delivery of a path against the manifest of another, which is read first.
  abbrev pub IsCheckStatus : List ℕ → List ℕ → Stream → Stream → ℕ → Type 0
  IsCheckStatus manifest path out err s =
      ((known : List ManifestLine) × OfWholeInput run.inputs manifest (StatesManifest known)
      × IsHeldAgainst known path out err s)
      ⊎ (LacksManifest run err manifest s × Prints out [])
