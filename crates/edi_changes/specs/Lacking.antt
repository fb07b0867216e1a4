-- Why there isn't at a path what a command reads there.
use Rattle.std.specs.Prelude.{◌≡◌, ◌⊎◌, ℕ, List}
use Rattle.edi_compare.specs.declared.fault.RunFault.{RunFault}
use Rattle.edi_files.specs.Reasons.{Why}
use Rattle.edi_answers.specs.Effects.{Effects, Inputs, Stream}
use Rattle.edi_answers.specs.Hashes.{TellsFault, named_line}
use Rattle.edi_answers.specs.Statuses.{LacksMemory, Warns}
use Rattle.edi_answers.specs.WholeInputs.{WholeInputFault, OfWholeInput}
use Rattle.edi_changes.specs.declared.lacking.Lack.{Lack}
use Rattle.edi_changes.specs.declared.lacking.Lack.TheVariants.{Unread, Other}

-- the errors got the line of a path with these words, and the status is 2; or there was no memory for it
abbrev pub SaysOther : List ℕ → Stream → List ℕ → ℕ → Type 0
SaysOther words err path status = ((status ≡ 2) × Warns err (named_line path words)) ⊎ ((status ≡ 5) × LacksMemory err)

-- Why the text of an input isn't what is read there, as the errors say, and the status: the input can't be read; or its
-- text is none, which the words say.
abbrev pub Lacks : (List ℕ → Type 0) → List ℕ → Effects → Stream → List ℕ → ℕ → Type 0
Lacks IsNone words run err path status =
    ((e : RunFault) × WholeInputFault run.inputs path e × TellsFault run.why err e path status)
    ⊎ (OfWholeInput run.inputs path IsNone × SaysOther words err path status)

-- this is why
abbrev pub MatchLack : (List ℕ → Type 0) → Inputs → List ℕ → Lack → Type 0
MatchLack IsNone inputs path (Unread e) = WholeInputFault inputs path e
MatchLack IsNone inputs path Other = OfWholeInput inputs path IsNone

-- the errors were told so, and this is the status
abbrev pub TellsLack : List ℕ → Why → Stream → List ℕ → Lack → ℕ → Type 0
TellsLack words why err path (Unread e) status = TellsFault why err e path status
TellsLack words why err path Other status = SaysOther words err path status
