-- The status of a run that puts a pairing, and of one that checks it.
use Rattle.std.proofs.Common.{◌≡◌, ◌⊎◌, ◌<◌, ℕ, List, Option, Some, None, inl, inr, refl, ap, arith, Result, Ok, Err, IfOk, IfErr}
use Rattle.std.specs.Prelude.{MatchOption, ⊤}
use Rattle.edi_schema.specs.Roles.{KindCodes}
use Rattle.edi_compare.specs.declared.fault.RunFault.{RunFault}
use Rattle.edi_compare.specs.declared.fault.RunFault.TheVariants.{Memory, Read, TooLong, Schema, First, Second, Write}
use Rattle.edi_compare.specs.declared.pairing.Verdict.TheVariants.{Different}
use Rattle.edi_compare.specs.Runs.{IsVerdictOf}
use Rattle.edi_pairing.specs.UnderFiles.{IsPairingFileOf, IsVerifiedUnder, MatchRun, RefusesFile}
use Rattle.edi_pairing.specs.declared.verified.Verified.{Verified}
use Rattle.edi_pairing.specs.declared.verified.Verified.TheVariants.{Carries, Fails}
use Rattle.edi_pairing.specs.declared.fault.VerifyRunFault.{VerifyRunFault}
use Rattle.edi_pairing.specs.declared.fault.VerifyRunFault.TheVariants.{Run, Pairing as OfPairingFile}
use Rattle.edi_words.specs.declared.words.PairFiles.{PairFiles}
use Rattle.edi_files.specs.Reasons.{ended}
use Rattle.edi_outcome.specs.Status.{status_of_fault}
use Rattle.edi_outcome.specs.Words.{FaultHasNames, HasNames, words_of_fault}
use Rattle.edi_answers.specs.Paths.{names_of_paths}
use Rattle.edi_answers.specs.inner.Outcome.{paired_outcome, verified_outcome}
use Rattle.edi_answers.specs.declared.form.AnswerForm.{AnswerForm}
use Rattle.edi_answers.specs.Effects.{Effects, Inputs, Stream}
use Rattle.edi_answers.specs.SheetRuns.{AreFiveThere, FirstOfFiveMissing, IsNoPairInput, IsPairInput, IsPairPut, IsPairReplaced, OfFive, OfPair, PairFileFault, PutPairFault, VerifyFileFault}
use Rattle.edi_answers.specs.Statuses.{AnswersIn, AreFourTried, IsAnsweredAs, IsPairingStatus, IsSaid, IsVerifyStatus, SaysPairFault, SaysPairRefusal, SaysVerifyRefusal, pair_paths_of, verify_paths_of}
use Rattle.edi_answers.proofs.Made.{were_four}
use Rattle.edi_outcome.specs.declared.outcome.Outcome.{Outcome}
use Rattle.edi_outcome.specs.declared.outcome.Outcome.TheVariants as outcome
use Rattle.edi_answers.proofs.Refusals.{fault_status, known_fault, match_faulted, means_answer, means_fault, not_one, not_one_of_zero, not_zero_of_one, pair_faulted, pair_refused, pair_tried, unwritten}

-- ---- a pairing, put at a path

-- the same with another fact of writing, where none was written
pub pair_unwritten : (inputs : Inputs) (kinds : KindCodes) (files : PairFiles) (W : ℕ → Type 0) (e : RunFault) → PairFileFault inputs kinds files (λ _. ⊥) e
    → PairFileFault inputs kinds files W e
pair_unwritten inputs kinds files W e (inl missing) = inl missing
pair_unwritten inputs kinds files W (Memory e) (inr h) = inr h
pair_unwritten inputs kinds files W (Read n) (inr h) = inr h
pair_unwritten inputs kinds files W (TooLong n) (inr h) = inr h
pair_unwritten inputs kinds files W (Schema f) (inr h) = inr h
pair_unwritten inputs kinds files W (First f) (inr h) = inr h
pair_unwritten inputs kinds files W (Second f) (inr h) = inr h
pair_unwritten inputs kinds files W (Write w) (inr h) = absurd h.1

pub put_pair_tried : (run : Effects) (IsMade : List ℕ → List ℕ → List ℕ → List ℕ → List ℕ → Type 0) (kinds : KindCodes) (files : PairFiles) (path : List ℕ) (e : RunFault)
    → PutPairFault run IsMade kinds files path e → IsPairInput run.is_one files path ⊎ AreFourTried run.inputs files
put_pair_tried run IsMade kinds files path e (inl input) = inl input.0
put_pair_tried run IsMade kinds files path e (inr h) = inr (pair_tried run.inputs kinds files _ e h.1)

pub put_pair_refused : (run : Effects) (IsMade : List ℕ → List ℕ → List ℕ → List ℕ → List ℕ → Type 0) (kinds : KindCodes) (files : PairFiles) (path : List ℕ)
    (Says : List ℕ → Type 0) (e : RunFault) → PutPairFault run IsMade kinds files path e → status_of_fault e ≡ 2 → Says (ended (words_of_fault e (names_of_paths (pair_paths_of files path))))
    → OfPair run.inputs files (SaysPairRefusal Says kinds) × run.untouched
put_pair_refused run IsMade kinds files path Says e (inl input) two line = absurd (omega (arith, ap status_of_fault input.1, two))
put_pair_refused run IsMade kinds files path Says e (inr h) two line =
    (pair_refused Says kinds (names_of_paths (pair_paths_of files path)) refl run.inputs files _ e h.1 two line, unwritten e _ h.2 two)

put_pair_faulted : (run : Effects) (IsMade : List ℕ → List ℕ → List ℕ → List ℕ → List ℕ → Type 0) (kinds : KindCodes) (files : PairFiles) (path : List ℕ)
    (Says : RunFault → Type 0) (e : RunFault) → PutPairFault run IsMade kinds files path e → status_of_fault e ≡ 2 → Says e
    → OfPair run.inputs files (SaysPairFault Says kinds) × run.untouched
put_pair_faulted run IsMade kinds files path Says e (inl input) two said = absurd (omega (arith, ap status_of_fault input.1, two))
put_pair_faulted run IsMade kinds files path Says e (inr h) two said = (pair_faulted Says kinds run.inputs files _ e h.1 two said, unwritten e _ h.2 two)

-- the status of a comparison to a pairing's file
module _ (run : Effects) (out err : Stream) (kinds : KindCodes) (files : PairFiles) (form : AnswerForm) (path : List ℕ) (s : ℕ) where
  pub pairing_status : (r : Result (Option ℕ) RunFault)
      → IfOk r (λ line. MatchOption line (IsPairPut run (IsPairingFileOf kinds) files path)
      (λ at. OfPair run.inputs files (λ scd dic a b. IsVerdictOf kinds scd dic a b (Different at)) × IsNoPairInput run.is_one files path × run.untouched))
      → IfErr r (PutPairFault run (IsPairingFileOf kinds) kinds files path) → IsPairReplaced run (IsPairingFileOf kinds) files path
      → IsSaid run.why out err form (paired_outcome r) (pair_paths_of files path) s → IsPairingStatus run out err kinds files form path s
  pairing_status (Ok None) h fault replaced said = record {
    tried = inr (inl (were_four run.inputs files _ h.1));
    different = λ one. absurd (not_one_of_zero s one said.status);
    means = means_answer _ _ _ run.why (pair_paths_of files path) out err s outcome.Same (omega arith) (λ zero. (h, said.answer (omega (arith, zero)))) said;
    leaves = inr (inl h);
    replaced = replaced;
  }
  pairing_status (Ok (Some at)) h fault replaced said = record {
    tried = inr (inl (were_four run.inputs files _ h.0));
    different = λ one. ((at, h.0, said.answer (omega (arith, one))), h.2);
    means = means_answer _ _ _ run.why (pair_paths_of files path) out err s (outcome.Different at) (omega arith) (λ zero. absurd (not_zero_of_one s zero said.status)) said;
    leaves = inl h.2;
    replaced = replaced;
  }
  pairing_status (Err e) ok h replaced said = record {
    tried = put_pair_tried run _ kinds files path e h;
    different = λ one. absurd (not_one s (known_fault (status_of_fault e) s (fault_status e) said.status) one);
    means = means_fault _ _ _ run.why (pair_paths_of files path) out err s e (λ silent. (h, silent))
        (λ is line. put_pair_faulted run _ kinds files path (λ f. AnswersIn out err form (pair_paths_of files path) (outcome.Fault f)) e h is line) said;
    leaves = inr (inr (e, h));
    replaced = replaced;
  }

-- ---- a pairing's file, checked

pub verified_names : (r : Result Verified VerifyRunFault) → IfErr r (λ e. MatchRun e (λ f. FaultHasNames f 6) (λ _ _. ⊤)) → HasNames (verified_outcome r) 6
verified_names (Ok Carries) h = tt
verified_names (Ok (Fails why)) h = omega arith
verified_names (Err (Run e)) h = h
verified_names (Err (OfPairingFile at why)) h = tt

verify_tried : (inputs : Inputs) (kinds : KindCodes) (files : PairFiles) (pairing : List ℕ) (e : RunFault) → VerifyFileFault inputs kinds files pairing e
    → AreFiveThere inputs files pairing ⊎ ((n : ℕ) × FirstOfFiveMissing inputs files pairing n)
verify_tried inputs kinds files pairing e (inl missing) = inr (missing.0, missing.1)
verify_tried inputs kinds files pairing e (inr h) = inl h.0

verify_refused : (inputs : Inputs) (kinds : KindCodes) (files : PairFiles) (pairing : List ℕ) (Says : Outcome → Type 0) (e : RunFault) → VerifyFileFault inputs kinds files pairing e
    → status_of_fault e ≡ 2 → Says (outcome.Fault e) → SaysVerifyRefusal inputs Says kinds files pairing
verify_refused inputs kinds files pairing Says e (inl missing) two said = absurd (omega (arith, ap status_of_fault missing.2, two))
verify_refused inputs kinds files pairing Says e (inr h) two said = inl (match_faulted (λ f. Says (outcome.Fault f)) kinds inputs files _ _ (λ _. ⊥) e h.1 two said)

-- the status of a pairing's check
module _ (run : Effects) (out err : Stream) (kinds : KindCodes) (files : PairFiles) (form : AnswerForm) (pairing : List ℕ) (s : ℕ) where
  were_five : (P : List ℕ → List ℕ → List ℕ → List ℕ → List ℕ → Type 0) → OfFive run.inputs files pairing P → AreFiveThere run.inputs files pairing
  were_five P h = (((h.0, h.5), (h.1, h.6), (h.2, h.7), (h.3, h.8)), (h.4, h.9))

  not_small_of_two : s < 2 → IsAnsweredAs 2 s → ⊥
  not_small_of_two small (inl e) = absurd (omega (arith, e, small))
  not_small_of_two small (inr (inl e)) = absurd (omega (arith, e, small))
  not_small_of_two small (inr (inr e)) = absurd (omega (arith, e.1, small))

  pub verify_status : (r : Result Verified VerifyRunFault) → IfOk r (λ answer. OfFive run.inputs files pairing (λ scd dic a b f. IsVerifiedUnder kinds scd dic a b f answer))
      → IfErr r (λ e. MatchRun e (VerifyFileFault run.inputs kinds files pairing) (λ at why. OfFive run.inputs files pairing (λ s d a b f. RefusesFile kinds s d a b f at why)))
      → IsSaid run.why out err form (verified_outcome r) (verify_paths_of files pairing) s → IsVerifyStatus run out err kinds files form pairing s
  verify_status (Ok Carries) h fault said = record {
    tried = inl (were_five _ h);
    unpaired = λ one. absurd (not_one_of_zero s one said.status);
    means = means_answer _ _ _ run.why (verify_paths_of files pairing) out err s outcome.Pairs (omega arith) (λ zero. (h, said.answer (omega (arith, zero)))) said;
  }
  verify_status (Ok (Fails why)) h fault said = record {
    tried = inl (were_five _ h);
    unpaired = λ one. (why, h, said.answer (omega (arith, one)));
    means = means_answer _ _ _ run.why (verify_paths_of files pairing) out err s (outcome.Unpaired why) (omega arith) (λ zero. absurd (not_zero_of_one s zero said.status)) said;
  }
  verify_status (Err (Run e)) ok h said = record {
    tried = verify_tried run.inputs kinds files pairing e h;
    unpaired = λ one. absurd (not_one s (known_fault (status_of_fault e) s (fault_status e) said.status) one);
    means = means_fault _ _ _ run.why (verify_paths_of files pairing) out err s e (λ silent. (h, silent))
        (λ is line. verify_refused run.inputs kinds files pairing (AnswersIn out err form (verify_paths_of files pairing)) e h is line) said;
  }
  verify_status (Err (OfPairingFile at why)) ok h said = record {
    tried = inl (were_five _ h);
    unpaired = λ one. absurd (not_small_of_two (omega (arith, one)) said.status);
    means = record {
      done = λ zero. absurd (not_small_of_two (omega (arith, zero)) said.status);
      refused = λ two. inr (at, why, h, said.answer (omega (arith, two)));
      failed = λ four. inl (said.unsaid (omega arith) four);
      memory = λ five. let m = said.memory five in (m.1, inl m.0);
    };
  }
