-- The note on the kinds of links that no class has.
use Rattle.std.specs.Prelude.{◌≡◌, ◌⊎◌, ◌<◌, ◌++◌, ℕ, Bool, List, [], ◌∷◌, Option, Result, IfSome, IsTrue, MatchResult, codes}
use Rattle.edi_line.specs.LineRules.{BreaksLineRule}
use Rattle.edi_line.specs.Refusal.{IsUnbroken}
use Rattle.edi_pairing.specs.UnderFiles.{MatchRun}
use Rattle.edi_pairing.specs.declared.fault.VerifyRunFault.{VerifyRunFault}
use Rattle.edi_schema.specs.Roles.{KindCodes}
use Rattle.edi_schema.specs.declared.by_role.ByRole.{ByRole}
use Rattle.edi_compare.specs.declared.fault.RunFault.{RunFault}
use Rattle.edi_explain.specs.KindLines.{NameLacking, lacking_words}
use Rattle.edi_files.specs.Reasons.{ended}
use Rattle.edi_outcome.specs.Status.{status_of_fault}
use Rattle.edi_shown.specs.Shown.{shown_bytes}
use Rattle.edi_words.specs.declared.words.Request.{Request}
use Rattle.edi_words.specs.declared.words.Request.TheVariants.{Bundle, Sheet, Pair, Many, Delivery, Manifest, CheckManifest, Explain, Rule, Rules, Changed, Misused, Answered}
use Rattle.edi_answers.specs.Effects.{Inputs, Stream}
use Rattle.edi_answers.specs.Paths.{input_name}
use Rattle.edi_answers.specs.SheetRuns.{Gives}
use Rattle.edi_answers.specs.Statuses.{Prints, Warns}

-- the line on a file of classes by this name, where kinds in these words have no class
abbrev pub lacking_line : List ℕ → List ℕ → List ℕ
lacking_line name words = ended (codes "edicad: " ++ name ++ codes ": no class for " ++ words ++ codes ": see --kinds")

-- that line; and nothing where each kind has a class
abbrev pub note_line : List ℕ → List ℕ → List ℕ
note_line name [] = []
note_line name (x ∷ xs) = lacking_line name (x ∷ xs)

-- the note on a file of classes under these codes
abbrev pub IsNote : KindCodes → List ℕ → List ℕ → List ℕ → Type 0
IsNote kinds scd name note = (words : List ℕ) × NameLacking kinds scd words × (note ≡ note_line name words)

-- the note on a file of classes that may break a rule of lines: then there is none
abbrev pub IsNoteOn : KindCodes → List ℕ → List ℕ → List ℕ → Type 0
IsNoteOn kinds scd name note =
    (IsUnbroken (BreaksLineRule scd) × IsNote kinds scd name note) ⊎ (¬ (IsUnbroken (BreaksLineRule scd)) × (note ≡ []))

-- a note on a file of classes by this name, whatever it holds: the line on some of the four kinds, or nothing
abbrev pub NamesSomeKinds : List ℕ → List ℕ → Type 0
NamesSomeKinds name note = (some : ByRole Bool) × (note ≡ note_line name (lacking_words some))

-- The note on the file of classes of a path, by its name: that on its contents, where they are known; and where they
-- are not, one that names some of the four kinds, or none.
abbrev pub GivesNote : Inputs → KindCodes → List ℕ → List ℕ → Type 0
GivesNote inputs kinds path note = (contents : Option (List ℕ)) × Gives inputs path contents
    × NamesSomeKinds (shown_bytes (input_name path)) note
    × IfSome contents (λ scd. IsNoteOn kinds scd (shown_bytes (input_name path)) note)

-- a place for the note has that of the file of classes of a path, or what it had where the status says that there is no
-- answer
abbrev pub HasNoteOf : Inputs → KindCodes → List ℕ → ℕ → List ℕ → List ℕ → Type 0
HasNoteOf inputs kinds path status old new = GivesNote inputs kinds path new ⊎ ((2 < status) × (new ≡ old))

-- a run that ends so leaves that note in the place: where it has a fault, with the status of that
abbrev pub LeavesNote : {T : Type 0} → Inputs → KindCodes → List ℕ → List ℕ → List ℕ → Result T RunFault → Type 0
LeavesNote inputs kinds path old new run = MatchResult run
    (λ _. GivesNote inputs kinds path new)
    (λ e. HasNoteOf inputs kinds path (status_of_fault e) old new)

-- The same of a run over five files, where a fault in the last one's lines comes once the rest is loaded.
abbrev pub LeavesNoteOfFive : {T : Type 0} → Inputs → KindCodes → List ℕ → List ℕ → List ℕ → Result T VerifyRunFault
    → Type 0
LeavesNoteOfFive inputs kinds path old new run = MatchResult run
    (λ _. GivesNote inputs kinds path new)
    (λ e. MatchRun e (λ f. HasNoteOf inputs kinds path (status_of_fault f) old new)
    (λ _ _. GivesNote inputs kinds path new))

-- that note, or none where the status says that something could not be read or written, or that memory ran out
abbrev pub IsNotedAs : Inputs → KindCodes → List ℕ → ℕ → List ℕ → Type 0
IsNotedAs inputs kinds path status note = GivesNote inputs kinds path note ⊎ ((2 < status) × (note ≡ []))

-- The note behind the answer to a request that ends with this status: on the file of classes of one or two sheets.
-- `hash`, `delivery` and `explain --all` say theirs first, and `explain` says the class of each kind.
abbrev pub IsNoteOf : Inputs → Request → ℕ → List ℕ → Type 0
IsNoteOf inputs Bundle status note = note ≡ []
IsNoteOf inputs (Sheet kinds files what) status note = IsNotedAs inputs kinds files.scd.now status note
IsNoteOf inputs (Pair kinds files what) status note = IsNotedAs inputs kinds files.scd.now status note
IsNoteOf inputs (Many kinds files what) status note = note ≡ []
IsNoteOf inputs (Delivery kinds paths) status note = note ≡ []
IsNoteOf inputs (Manifest kinds path file) status note = note ≡ []
IsNoteOf inputs (CheckManifest kinds path manifest) status note = note ≡ []
IsNoteOf inputs (Explain kinds files json) status note = note ≡ []
IsNoteOf inputs (Rule word json) status note = note ≡ []
IsNoteOf inputs (Rules json) status note = note ≡ []
IsNoteOf inputs (Changed before after) status note = note ≡ []
IsNoteOf inputs (Misused misuse) status note = note ≡ []
IsNoteOf inputs (Answered given) status note = note ≡ []

-- a stream got this note, or it has failed; and it got nothing where there is none
abbrev pub WritesNoteIfAny : Stream → List ℕ → Type 0
WritesNoteIfAny stream [] = Prints stream []
WritesNoteIfAny stream (x ∷ xs) = Warns stream (x ∷ xs)

-- what a stream got at first, and what it got from there on
abbrev pub InTurn : Stream → (Stream → Type 0) → (Stream → Type 0) → Type 0
InTurn stream First Rest = (contents : Option (List ℕ)) × (failed : Bool) × (IsTrue failed → IsTrue stream.failed)
    × First (record { before = stream.before; after = contents; failed = failed })
    × Rest (record { before = contents; after = stream.after; failed = stream.failed })
