-- What becomes of the manifest of a delivery.
use Rattle.std.specs.Prelude.{◌≡◌, ◌≢◌, ◌⊎◌, ◌++◌, ℕ, Bool, List, [], ◌∷◌, Any, map}
use Rattle.std.specs.Bool.{MatchBool}
use Rattle.std.specs.List.{AllByRecursion}
use Rattle.edi_schema.specs.Roles.{KindCodes}
use Rattle.edi_manifest.specs.ManifestText.{manifest_text}
use Rattle.edi_manifest.specs.declared.line.ManifestLine.{ManifestLine}
use Rattle.edi_compare.specs.Runs.{BeforeWriting, MatchFault}
use Rattle.edi_compare.specs.declared.fault.RunFault.{RunFault}
use Rattle.edi_compare.specs.declared.fault.RunFault.TheVariants.{Write}
use Rattle.edi_files.specs.Reasons.{Why}
use Rattle.edi_words.specs.Requests.{is_standard_path}
use Rattle.edi_answers.specs.Effects.{Effects, Inputs, Stream}
use Rattle.edi_answers.specs.Notes.{InTurn}
use Rattle.edi_answers.specs.SheetRuns.{IsApart, Meets}
use Rattle.edi_answers.specs.Statuses.{Answers, IsUnsaid, IsWarned, LacksMemory, OnlyLacksMemory, Prints, PrintsFirst}
use Rattle.edi_deliveries.specs.Deliveries.{Listings, Opened, Opens, OpensNone, found_names}
use Rattle.edi_deliveries.specs.Found.{AreLotsFound}

-- the paths of the files of a delivery: of its THF file, and of those that its lots name
abbrev pub paths_in : Opened → List (List ℕ)
paths_in d = d.thf ∷ map (λ name. d.before ++ name) (found_names d.names d.lots)

-- FILE is one of them, and none of them
abbrev pub IsFileIn : (List ℕ → List ℕ → Bool → Type 0) → Opened → List ℕ → Type 0
IsFileIn is_one d file = Any (Meets is_one file) (paths_in d)

abbrev pub IsNoFileIn : (List ℕ → List ℕ → Bool → Type 0) → Opened → List ℕ → Type 0
IsNoFileIn is_one d file = AllByRecursion (IsApart is_one file) (paths_in d)

-- Each part of a delivery was found, and this became of the lines; or not, and the status says that, and something
-- else holds.
abbrev pub IfAllFound : Inputs → Why → KindCodes → Opened → (List ManifestLine → Stream → ℕ → Type 0) → Type 0 → Stream
    → ℕ → Type 0
IfAllFound inputs why kinds d Then Else err s =
    (lines : List ManifestLine) × (found : ℕ) × InTurn err (λ e. AreLotsFound inputs why kinds d lines e found)
    (λ e. ((found ≡ 0) × Then lines e s) ⊎ ((found ≢ 0) × Else × (e.after ≡ e.before) × (s ≡ found)))

-- why bytes are not at FILE; nothing in the folder has changed, unless that came while writing
abbrev pub IsUnput : Effects → List ℕ → List ℕ → RunFault → Type 0
IsUnput run file bytes e = MatchFault e (λ _. ⊥) (λ _. ⊥) (λ _. ⊥) (λ _. ⊥) (λ _. ⊥)
    (λ count. run.Stops file count bytes) × BeforeWriting e run.untouched

-- the manifest of lines is at FILE; or it isn't, and the errors say why
abbrev pub IsStored : Effects → List ℕ → List ℕ → List ManifestLine → Stream → ℕ → Type 0
IsStored run path file lines err s =
    (run.Puts file (manifest_text lines) × (err.after ≡ err.before) × (s ≡ 0))
    ⊎ ((e : RunFault) × IsUnput run file (manifest_text lines) e × IsWarned run.why err e (path ∷ file ∷ []) s)

-- the output got it; or failed in it, which the errors say; or memory ran out
abbrev pub IsPrinted : Stream → List ManifestLine → Stream → ℕ → Type 0
IsPrinted out lines err s =
    (Answers out err (manifest_text lines) × (s ≡ 0))
    ⊎ (((count : ℕ) × PrintsFirst out count (manifest_text lines) × IsUnsaid out err × (s ≡ 4))
    ⊎ (OnlyLacksMemory out err × (s ≡ 5)))

module _ (run : Effects) (listings : Listings) (kinds : KindCodes) (path : List ℕ) where
  -- the bytes are the manifest of the delivery that the path leads to, of which each part is found
  abbrev pub IsManifestOf : List ℕ → Type 0
  IsManifestOf bytes = (d : Opened) × Opens run.inputs listings path d × ((lines : List ManifestLine) × (err : Stream)
      × AreLotsFound run.inputs run.why kinds d lines err 0 × (bytes ≡ manifest_text lines))

  -- at each moment FILE has what it had, or that manifest, whole
  abbrev pub IsManifestReplaced : List ℕ → Type 0
  IsManifestReplaced file = run.Replaces file IsManifestOf

  module _ (file : List ℕ) where
    -- The manifest of a delivery was put at FILE; or FILE is one of its files, and is not written to; or a part wasn't
    -- found, or memory ran out. In all but the first case nothing in the folder has changed, unless that came while
    -- writing.
    abbrev pub IsManifestPut : Opened → Stream → ℕ → Type 0
    IsManifestPut d err s =
        (IsFileIn run.is_one d file × run.untouched × IsWarned run.why err (Write (record { count = 0 }))
        (path ∷ file ∷ []) s)
        ⊎ ((IsNoFileIn run.is_one d file
        × IfAllFound run.inputs run.why kinds d (IsStored run path file) run.untouched err s)
        ⊎ (run.untouched × (s ≡ 5) × LacksMemory err))

    -- the manifest of a delivery was sent to the output, or put at FILE
    abbrev pub IsManifestMade : Opened → Stream → Stream → ℕ → Type 0
    IsManifestMade d out err s = MatchBool (is_standard_path file)
        (run.untouched × IfAllFound run.inputs run.why kinds d (IsPrinted out) (Prints out []) err s)
        (Prints out [] × IsManifestPut d err s)

    -- the manifest of the delivery is at FILE, or went to the output where FILE is `-`
    abbrev pub IsManifestThere : Stream → Type 0
    IsManifestThere out =
        (bytes : List ℕ) × IsManifestOf bytes
        × MatchBool (is_standard_path file) (Prints out bytes) (run.Puts file bytes)

    -- The status of a run that makes the manifest of the delivery that a path leads to: 0 only where it is at FILE, or
    -- went to the output where FILE is `-`. Where the path leads to none, or memory ran out, the errors say so, and
    -- nothing in the folder has changed.
    pub record IsManifestStatus (out err : Stream) (s : ℕ) : Type 0 where
      pub answer : ((d : Opened) × Opens run.inputs listings path d × IsManifestMade d out err s)
          ⊎ (OpensNone run listings path err s × run.untouched × Prints out [])
      pub replaced : IsManifestReplaced file
