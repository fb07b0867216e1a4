-- The note that a command hands on, with its status.
use Rattle.std.proofs.Common.{◌≡◌, ℕ, false, List, Option, Some, None, Result, Ok, Err, inl, inr, sym, subst, ◌∙◌, ap, arith}
use Rattle.std.specs.Result.{IsErrAnd}
use Rattle.edi_line.specs.LineRules.{BreaksLineRule}
use Rattle.edi_line.specs.Refusal.{IsUnbroken}
use Rattle.edi_schema.specs.Roles.{KindCodes}
use Rattle.edi_compare.specs.declared.fault.RunFault.{RunFault}
use Rattle.edi_compare.specs.declared.pairing.Verdict.{Verdict}
use Rattle.edi_compare.specs.declared.pairing.Verdict.TheVariants as verdict
use Rattle.edi_files.specs.Reasons.{Why}
use Rattle.edi_pairing.specs.declared.verified.Verified.{Verified}
use Rattle.edi_pairing.specs.declared.verified.Verified.TheVariants.{Carries, Fails}
use Rattle.edi_pairing.specs.declared.fault.VerifyRunFault.{VerifyRunFault}
use Rattle.edi_pairing.specs.declared.fault.VerifyRunFault.TheVariants.{Run, Pairing as OfPairingFile}
use Rattle.edi_answers.specs.Effects.{Inputs, Stream}
use Rattle.edi_answers.specs.Notes.{GivesNote, HasNoteOf, IsNote, IsNoteOn, LeavesNote, LeavesNoteOfFive, NamesSomeKinds, note_line}
use Rattle.edi_outcome.specs.Status.{status_for, status_of_fault}
use Rattle.edi_answers.specs.Statuses.{IsAnsweredAs, IsWarned}
use Rattle.edi_answers.specs.inner.Outcome.{outcome_for, paired_outcome, verified_outcome}

-- the note on a file whose lines are sound
pub note_of_sound : (kinds : KindCodes) (scd name note : List ℕ) → IsUnbroken (BreaksLineRule scd) → IsNoteOn kinds scd name note → IsNote kinds scd name note
note_of_sound kinds scd name note sound (inl h) = h.1
note_of_sound kinds scd name note sound (inr h) = absurd (h.0 sound)

-- it names the kinds that have no class in the file
pub note_names_kinds : (kinds : KindCodes) (scd name note : List ℕ) → IsNote kinds scd name note → NamesSomeKinds name note
note_names_kinds kinds scd name note h = (h.1.1, h.2 ∙ ap (λ (words : List ℕ). note_line name words) h.1.4)

-- and where a rule of lines is broken, none
pub names_some_kinds : (kinds : KindCodes) (scd name note : List ℕ) → IsNoteOn kinds scd name note → NamesSomeKinds name note
names_some_kinds kinds scd name note (inl h) = note_names_kinds kinds scd name note h.1
names_some_kinds kinds scd name note (inr h) = (record { initial = false; final_node = false; left = false; right = false }, h.1)

module _ (inputs : Inputs) (kinds : KindCodes) (path old new : List ℕ) where
  -- where the status was answered, or said on the stream of errors
  pub note_answered : (status s : ℕ) → IsAnsweredAs status s → HasNoteOf inputs kinds path status old new → HasNoteOf inputs kinds path s old new
  note_answered status s answered (inl given) = inl given
  note_answered status s (inl same) (inr h) = inr (omega (arith, same, h.0), h.1)
  note_answered status s (inr (inl five)) (inr h) = inr (omega (arith, five), h.1)
  note_answered status s (inr (inr small)) (inr h) = absurd (omega (arith, small.0, h.0))

  pub note_warned : (why : Why) (err : Stream) (e : RunFault) (paths : List (List ℕ)) (s : ℕ) → IsWarned why err e paths s
      → HasNoteOf inputs kinds path (status_of_fault e) old new → HasNoteOf inputs kinds path s old new
  note_warned why err e paths s said (inl given) = inl given
  note_warned why err e paths s (inl said) (inr h) = inr (omega (arith, said.0, h.0), h.1)
  note_warned why err e paths s (inr said) (inr h) = inr (omega (arith, said.0), h.1)

  -- where a run over two sheets came to an outcome
  pub note_compared : (r : Result Verdict RunFault) → LeavesNote inputs kinds path old new r → HasNoteOf inputs kinds path (status_for (outcome_for r)) old new
  note_compared (Ok (verdict.Same pairing)) h = inl h
  note_compared (Ok (verdict.Different line)) h = inl h
  note_compared (Err e) h = h

  pub note_paired : (r : Result (Option ℕ) RunFault) → LeavesNote inputs kinds path old new r → HasNoteOf inputs kinds path (status_for (paired_outcome r)) old new
  note_paired (Ok None) h = inl h
  note_paired (Ok (Some line)) h = inl h
  note_paired (Err e) h = h

  pub note_verified : (r : Result Verified VerifyRunFault) → LeavesNoteOfFive inputs kinds path old new r → HasNoteOf inputs kinds path (status_for (verified_outcome r)) old new
  note_verified (Ok Carries) h = inl h
  note_verified (Ok (Fails why)) h = inl h
  note_verified (Err (Run f)) h = h
  note_verified (Err (OfPairingFile at why)) h = inl h

  -- the fault that is handed on
  pub note_failed : {T : Type 0} (r : Result T RunFault) (fault : RunFault) → IsErrAnd r (λ e. e ≡ fault) → HasNoteOf inputs kinds path (status_of_fault fault) old new
      → LeavesNote inputs kinds path old new r
  note_failed (Ok x) fault same h = absurd same
  note_failed (Err e) fault same h = subst (λ (f : RunFault). HasNoteOf inputs kinds path (status_of_fault f) old new) (sym same) h

  -- whatever a run comes to, once the note was given
  pub note_anyway : {T : Type 0} (r : Result T RunFault) → GivesNote inputs kinds path new → LeavesNote inputs kinds path old new r
  note_anyway (Ok x) given = given
  note_anyway (Err e) given = inl given
