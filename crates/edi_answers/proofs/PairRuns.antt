-- Runs over the two sheets of four files.
use Rattle.std.proofs.Common.{◌≡◌, ℕ, List, Result, Ok, Err, IfErr, inl, inr, sym, subst, arith}
use Rattle.std.specs.Prelude.{IfOk}
use Rattle.std.specs.Result.{IsErrAnd}
use Rattle.edi_line.specs.FileBytes.{file_bytes}
use Rattle.edi_line.specs.declared.file.FileBytes.{FileBytes}
use Rattle.edi_schema.specs.Classes.{Classes}
use Rattle.edi_schema.specs.Roles.{KindCodes}
use Rattle.edi_compare.specs.Faults.{of_pair}
use Rattle.edi_compare.specs.Refused.{IsPairRefusal}
use Rattle.edi_compare.specs.declared.fault.CompareFault.{CompareFault}
use Rattle.edi_compare.specs.declared.fault.RunFault.{RunFault}
use Rattle.edi_compare.specs.declared.fault.RunFault.TheVariants.{Memory, Read, TooLong, Schema, First, Second, Write}
use Rattle.edi_outcome.specs.Status.{status_of_fault}
use Rattle.edi_outcome.specs.Words.{FaultHasNames}
use Rattle.edi_words.specs.declared.words.PairFiles.{PairFiles}
use Rattle.edi_answers.specs.Effects.{Inputs}
use Rattle.edi_answers.specs.Notes.{GivesNote, HasNoteOf}
use Rattle.edi_answers.specs.PairInputs.{IsLoadedPair}
use Rattle.edi_answers.specs.PairRuns.{IsPairRun}
use Rattle.edi_answers.specs.SheetRuns.{OfPair, PairFileFault}
use Rattle.edi_answers.proofs.LoadedPairs.{refused_pair}
use Rattle.edi_answers.proofs.Noted.{note_failed}

-- five names are enough for its fault
pub pair_fault_names : (inputs : Inputs) (kinds : KindCodes) (files : PairFiles) (e : RunFault) → PairFileFault inputs kinds files (λ _. ⊥) e → FaultHasNames e 5
pair_fault_names inputs kinds files e (inl missing) =
    subst (λ (f : RunFault). FaultHasNames f 5) (sym missing.2) (omega (arith, missing.1.0), omega (arith, missing.1.1))
pair_fault_names inputs kinds files (Memory e) (inr h) = tt
pair_fault_names inputs kinds files (Read n) (inr h) = (omega (arith, h.1.0), omega (arith, h.1.1))
pair_fault_names inputs kinds files (TooLong n) (inr h) = (omega (arith, h.1.0), omega (arith, h.1.1))
pair_fault_names inputs kinds files (Schema f) (inr h) = tt
pair_fault_names inputs kinds files (First f) (inr h) = tt
pair_fault_names inputs kinds files (Second f) (inr h) = tt
pair_fault_names inputs kinds files (Write w) (inr h) = absurd h.1

module _ {T : Type 0} (inputs : Inputs) (kinds : KindCodes) (files : PairFiles) (old new : List ℕ) (P : T → List ℕ → List ℕ → List ℕ → List ℕ → Type 0) where
  -- whose fault is handed on
  pub run_failed : (r : Result T RunFault) (fault : RunFault) → IsErrAnd r (λ e. e ≡ fault) → PairFileFault inputs kinds files (λ _. ⊥) fault
      → HasNoteOf inputs kinds files.scd.now (status_of_fault fault) old new → IsPairRun inputs kinds files old new P r
  run_failed (Ok x) fault same h note = absurd same
  run_failed (Err e) fault same h note =
      (subst (PairFileFault inputs kinds files (λ _. ⊥)) (sym same) h, note_failed inputs kinds files.scd.now old new {T = T} (Err e) fault same note)

  -- that comes to this, once the note was given
  pub run_noted : (r : Result T RunFault) → IfOk r (λ answer. OfPair inputs files (P answer)) → IfErr r (PairFileFault inputs kinds files (λ _. ⊥))
      → GivesNote inputs kinds files.scd.now new → IsPairRun inputs kinds files old new P r
  run_noted (Ok x) h none given = (h, given)
  run_noted (Err e) none h given = (h, inl given)

  -- in which a sheet is refused
  pub run_refused : (pair : Classes × FileBytes × FileBytes) → OfPair inputs files (IsLoadedPair kinds pair) → GivesNote inputs kinds files.scd.now new
      → (f : CompareFault) → IsPairRefusal pair.0 (file_bytes pair.1) (file_bytes pair.2) f
      → (r : Result T RunFault) → IsErrAnd r (λ e. e ≡ of_pair f) → IsPairRun inputs kinds files old new P r
  run_refused pair loaded given f h r same = run_failed r (of_pair f) same (refused_pair inputs kinds files pair loaded f h) (inl given)
