-- The status of a run that reports what differs between two sheets.
use Rattle.std.proofs.Common.{◌≡◌, ◌≢◌, ◌⊎◌, ◌<◌, ℕ, Bool, true, false, List, codes, refl, inl, inr, arith}
use Rattle.std.specs.Bool.{MatchBool}
use Rattle.edi_schema.specs.Roles.{KindCodes}
use Rattle.edi_compare.specs.declared.fault.RunFault.{RunFault}
use Rattle.edi_diff.specs.UnderFiles.{IsDifferenceUnder}
use Rattle.edi_diff.specs.declared.differing.Difference.{Difference}
use Rattle.edi_drawing.specs.UnderFiles.{IsDrawnDifferenceUnder}
use Rattle.edi_drawing.specs.declared.drawn.DrawnDifference.{DrawnDifference}
use Rattle.edi_words.specs.declared.words.PairFiles.{PairFiles}
use Rattle.edi_outcome.specs.Status.{status_of_fault}
use Rattle.edi_answers.specs.Paths.{names_of_paths}
use Rattle.edi_answers.specs.declared.form.AnswerForm.TheVariants as answer_form
use Rattle.edi_answers.specs.Effects.{Effects, Inputs, Stream}
use Rattle.edi_answers.specs.SheetRuns.{IsPairPut, IsPairReplaced, OfPair, PairFileFault, PutPairFault}
use Rattle.edicad.specs.Made.{IsPictureOfPair, ShowsDifference, names_of_pair}
use Rattle.edi_answers.specs.Statuses.{Answers, IsSaid, IsUnsaid, pair_paths_of}
use Rattle.edicad.specs.Statuses.{IsDiffStatus, IsPictureStatus}
use Rattle.edi_outcome.specs.declared.outcome.Outcome.TheVariants as outcome
use Rattle.edi_answers.proofs.Refusals.{fault_status, means_fault, not_one, pair_refused, pair_tried, known_fault}
use Rattle.edi_answers.proofs.Made.{pair_map, were_four}
use Rattle.edi_answers.proofs.Pairings.{put_pair_refused, put_pair_tried}
use Rattle.edi_diff.specs.declared.form.TextForm.{TextForm}

-- the status of a difference whose text is put
abbrev pub IsPutAs : Bool → ℕ → Type 0
IsPutAs same s = (s ≡ 4) ⊎ MatchBool same (s ≡ 0) (s ≡ 1)

same_of_zero : (b : Bool) (s : ℕ) → IsPutAs b s → s ≡ 0 → b ≡ true
same_of_zero b s (inl four) zero = absurd (omega (arith, four, zero))
same_of_zero true s (inr h) zero = refl
same_of_zero false s (inr h) zero = absurd (omega (arith, h, zero))

other_of_one : (b : Bool) (s : ℕ) → IsPutAs b s → s ≡ 1 → b ≡ false
other_of_one b s (inl four) one = absurd (omega (arith, four, one))
other_of_one true s (inr h) one = absurd (omega (arith, h, one))
other_of_one false s (inr h) one = refl

never_two : (b : Bool) (s : ℕ) → IsPutAs b s → s ≢ 2
never_two b s (inl four) two = absurd (omega (arith, four, two))
never_two true s (inr h) two = absurd (omega (arith, h, two))
never_two false s (inr h) two = absurd (omega (arith, h, two))

never_five : (b : Bool) (s : ℕ) → IsPutAs b s → s ≢ 5
never_five b s (inl four) five = absurd (omega (arith, four, five))
never_five true s (inr h) five = absurd (omega (arith, h, five))
never_five false s (inr h) five = absurd (omega (arith, h, five))

module _ (run : Effects) (out err : Stream) (kinds : KindCodes) (files : PairFiles) (form : TextForm) (s : ℕ) where
  pub put_status : (difference : Difference) → OfPair run.inputs files (λ scd dic a b. IsDifferenceUnder kinds scd dic a b form difference)
      → IsPutAs difference.same s → (s < 3 → Answers out err difference.text.items) → (s ≡ 4 → IsUnsaid out err) → IsDiffStatus run out err kinds files form s
  put_status difference h status written unsaid = record {
    tried = inl (were_four run.inputs files _ h);
    different = λ one. (difference, h, other_of_one difference.same s status one, written (omega (arith, one)));
    means = record {
      done = λ zero. (difference, h, same_of_zero difference.same s status zero, written (omega (arith, zero)));
      refused = λ two. absurd (never_two difference.same s status two);
      failed = λ four. inl (unsaid four);
      memory = λ five. absurd (never_five difference.same s status five);
    };
  }

  pub unanswered_status : (e : RunFault) → PairFileFault run.inputs kinds files (λ _. ⊥) e
      → IsSaid run.why out err answer_form.Words (outcome.Fault e) (pair_paths_of files (codes "-")) s → IsDiffStatus run out err kinds files form s
  unanswered_status e h said = record {
    tried = pair_tried run.inputs kinds files (λ _. ⊥) e h;
    different = λ one. absurd (not_one s (known_fault (status_of_fault e) s (fault_status e) said.status) one);
    means = means_fault _ _ _ run.why (pair_paths_of files (codes "-")) out err s e (λ silent. (h, silent))
        (λ is line. pair_refused (Answers out err) kinds (names_of_paths (pair_paths_of files (codes "-"))) refl run.inputs files (λ _. ⊥) e h is line.0) said;
  }

-- a picture that was drawn shows what differs
pub shown : (inputs : Inputs) (kinds : KindCodes) (files : PairFiles) (form : TextForm) (drawn : DrawnDifference)
    → OfPair inputs files (λ s d a b. IsDrawnDifferenceUnder kinds (names_of_pair files) s d a b form drawn)
    → OfPair inputs files (λ s d a b. ShowsDifference kinds (names_of_pair files) form drawn.difference s d a b drawn.picture.items)
shown inputs kinds files form drawn h = pair_map inputs files _ _ (λ s d a b under. (drawn, under, refl, refl)) h

pub shown_of_some : (inputs : Inputs) (kinds : KindCodes) (files : PairFiles) (form : TextForm) (difference : Difference) (bytes : List ℕ)
    → OfPair inputs files (λ s d a b. ShowsDifference kinds (names_of_pair files) form difference s d a b bytes) → OfPair inputs files (λ s d a b. IsPictureOfPair kinds (names_of_pair files) form s d a b bytes)
shown_of_some inputs kinds files form difference bytes h = pair_map inputs files _ _ (λ s d a b shows. (difference, shows)) h

-- the same with a picture that is put
module _ (run : Effects) (out err : Stream) (kinds : KindCodes) (files : PairFiles) (form : TextForm) (path : List ℕ) (s : ℕ)
    (replaced : IsPairReplaced run (IsPictureOfPair kinds (names_of_pair files) form) files path) where
  pub drawn_status : (difference : Difference) → IsPairPut run (ShowsDifference kinds (names_of_pair files) form difference) files path
      → IsPutAs difference.same s → (s < 3 → Answers out err difference.text.items) → (s ≡ 4 → IsUnsaid out err) → IsPictureStatus run out err kinds files form path s
  drawn_status difference h status written unsaid = record {
    tried = inr (inl (were_four run.inputs files _ h.1));
    different = λ one. (difference, h, other_of_one difference.same s status one, written (omega (arith, one)));
    means = record {
      done = λ zero. (difference, h, same_of_zero difference.same s status zero, written (omega (arith, zero)));
      refused = λ two. absurd (never_two difference.same s status two);
      failed = λ four. inl (unsaid four);
      memory = λ five. absurd (never_five difference.same s status five);
    };
    leaves = inl (h.0, pair_map run.inputs files _ _ (λ s d a b made. (made.0, (difference, made.1), made.2)) h.1);
    replaced = replaced;
  }

  pub undrawn_status : (e : RunFault) → PutPairFault run (IsPictureOfPair kinds (names_of_pair files) form) kinds files path e
      → IsSaid run.why out err answer_form.Words (outcome.Fault e) (pair_paths_of files path) s → IsPictureStatus run out err kinds files form path s
  undrawn_status e h said = record {
    tried = put_pair_tried run _ kinds files path e h;
    different = λ one. absurd (not_one s (known_fault (status_of_fault e) s (fault_status e) said.status) one);
    means = means_fault _ _ _ run.why (pair_paths_of files path) out err s e (λ silent. (h, silent))
        (λ is line. put_pair_refused run _ kinds files path (Answers out err) e h is line.0) said;
    leaves = inr (e, h);
    replaced = replaced;
  }
