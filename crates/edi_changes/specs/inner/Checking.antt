-- Steps of the answer of `hash --check`.
use Rattle.std.specs.Prelude.{◌≡◌, ℕ, List, max}
use Rattle.std.proofs.Common.{Err}
use Rattle.edi_schema.specs.Classes.{Classes}
use Rattle.edi_files.specs.Reasons.{Why}
use Rattle.edi_answers.specs.Effects.{Inputs, Stream}
use Rattle.edi_answers.specs.Hashes.{IsAnswerOf, TellsFault}
use Rattle.edi_answers.specs.Replies.{Reply}
use Rattle.edi_answers.specs.Statuses.{Warns}
use Rattle.edi_changes.specs.Checks.{IsFilePath, IsNoFilePath}
use Rattle.edi_changes.specs.declared.checks.NoDigest.{NoDigest}
use Rattle.edi_changes.specs.declared.checks.NoDigest.TheVariants.{NoFile, Fault}
use Rattle.edi_changes.specs.declared.verdict.LineOutcome.{LineOutcome}
use Rattle.edi_changes.specs.declared.verdict.LineOutcome.TheVariants.{Whole, CutOff}

-- why the sheet of a name in a list has no digest
abbrev pub MatchNoDigest : Inputs → Classes → List ℕ → NoDigest → Type 0
MatchNoDigest inputs s name (NoFile line) = IsNoFilePath name line.now
MatchNoDigest inputs s name (Fault path e) = (path.now ≡ name) × IsFilePath name × IsAnswerOf inputs s name (Err e)

-- what the errors were told of that, and the status
abbrev pub TellsNoDigest : Why → Stream → NoDigest → ℕ → Type 0
TellsNoDigest why err (NoFile line) status = Warns err line.now × (status ≡ 4)
TellsNoDigest why err (Fault path e) status = TellsFault why err e path.now status

-- what was said of a line: this where it is whole, and that where the output failed in it
abbrev pub IsSaidAs : Reply → Reply → Stream → Stream → LineOutcome → Type 0
IsSaidAs Gives Fails out err (Whole status) = Gives out err status
IsSaidAs Gives Fails out err (CutOff status) = Fails out err status

abbrev pub status_of_said : LineOutcome → ℕ
status_of_said (Whole status) = status
status_of_said (CutOff status) = status

-- the same with a status that is no less
abbrev pub at_least : ℕ → LineOutcome → LineOutcome
at_least least (Whole status) = Whole (max least status)
at_least least (CutOff status) = CutOff (max least status)
