-- What a run over the two sheets of four files comes to.
use Rattle.std.specs.Prelude.{ℕ, List, Result, MatchResult}
use Rattle.edi_schema.specs.Roles.{KindCodes}
use Rattle.edi_compare.specs.declared.fault.RunFault.{RunFault}
use Rattle.edi_words.specs.declared.words.PairFiles.{PairFiles}
use Rattle.edi_answers.specs.Effects.{Inputs}
use Rattle.edi_answers.specs.Notes.{LeavesNote}
use Rattle.edi_answers.specs.SheetRuns.{OfPair, PairFileFault}

-- This holds of its answer and of what the files hold, where that is known; or such a fault says why it has none. It
-- leaves the note on the file of classes.
abbrev pub IsPairRun : {T : Type 0} → Inputs → KindCodes → PairFiles → List ℕ → List ℕ
    → (T → List ℕ → List ℕ → List ℕ → List ℕ → Type 0) → Result T RunFault → Type 0
IsPairRun inputs kinds files old new P run =
    MatchResult run (λ answer. OfPair inputs files (P answer)) (PairFileFault inputs kinds files (λ _. ⊥))
    × LeavesNote inputs kinds files.scd.now old new run
