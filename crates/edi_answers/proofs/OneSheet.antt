-- The status of a run over one sheet.
use Rattle.std.proofs.Common.{◌≡◌, ◌≢◌, ◌⊎◌, ◌<◌, ℕ, Bool, true, false, List, [], codes, sym, subst, inl, inr, arith}
use Rattle.std.specs.Bool.{MatchBool}
use Rattle.edi_line.specs.declared.device.ByteOut as byte_out
use Rattle.edi_schema.specs.Roles.{KindCodes}
use Rattle.edi_compare.specs.Runs.{BeforeWriting, IsSheetUnder}
use Rattle.edi_compare.specs.declared.fault.RunFault.{RunFault}
use Rattle.edi_compare.specs.declared.fault.RunFault.TheVariants.{Memory, Read, TooLong, Schema, First, Second, Write}
use Rattle.edi_words.specs.declared.words.SheetFiles.{SheetFiles}
use Rattle.edi_answers.specs.declared.form.AnswerForm.{AnswerForm}
use Rattle.edi_answers.specs.declared.form.AnswerForm.TheVariants as answer_form
use Rattle.edi_answers.specs.Effects.{Effects, Stream, written}
use Rattle.edi_answers.specs.Explains.{IsExplainStatus, TellsAccepted, TellsRefusal}
use Rattle.edi_outcome.specs.Status.{status_of_fault}
use Rattle.edi_answers.specs.SheetRuns.{FileFault, OfFiles}
use Rattle.edi_answers.specs.Statuses.{Answers, AnswersIn, IsFileStatus, IsSaid, IsUnsaid, Prints, paths_of}
use Rattle.edi_outcome.specs.declared.outcome.Outcome.TheVariants as outcome
use Rattle.edi_answers.proofs.Answering.{appends_nothing}
use Rattle.edi_answers.proofs.Made.{files_map, were_there}
use Rattle.edi_answers.proofs.Refusals.{file_faulted, file_tried, means_answer, means_fault}

module _ (run : Effects) (out err : Stream) (kinds : KindCodes) (files : SheetFiles) (form : AnswerForm) (s : ℕ) where
  -- a sheet is accepted, or not
  pub accepted_status : OfFiles run.inputs files (IsSheetUnder kinds) → IsSaid run.why out err form outcome.Accepted (paths_of files (codes "-")) s
      → IsFileStatus run out err kinds files form s
  accepted_status h said = record {
    tried = inl (were_there run.inputs files _ h);
    means = means_answer _ _ _ run.why (paths_of files (codes "-")) out err s outcome.Accepted (omega arith) (λ zero. (h, said.answer (omega (arith, zero)))) said;
  }

  pub file_status : (e : RunFault) → FileFault run.inputs kinds files (λ _. ⊥) e → IsSaid run.why out err form (outcome.Fault e) (paths_of files (codes "-")) s
      → IsFileStatus run out err kinds files form s
  file_status e h said = record {
    tried = file_tried run.inputs kinds files _ e h;
    means = means_fault _ _ _ run.why (paths_of files (codes "-")) out err s e (λ silent. (h, silent))
        (λ is line. file_faulted (λ f. AnswersIn out err form (paths_of files (codes "-")) (outcome.Fault f)) kinds run.inputs files _ e h is line) said;
  }

pub unmoved : {S : Type 0} → (g : byte_out.Ghosts S) (before after : S) → after ≡ before → Prints (written g before after) []
unmoved g before after is = subst (λ s. Prints (written g before s) []) (sym is) (appends_nothing (g.contents before))

-- what keeps a stream as it was before writing wrote nothing to it
pub silent_before : {S : Type 0} → (g : byte_out.Ghosts S) (e : RunFault) (before after : S) → BeforeWriting e (after ≡ before) → BeforeWriting e (Prints (written g before after) [])
silent_before g (Memory e) before after is = unmoved g before after is
silent_before g (Read n) before after is = unmoved g before after is
silent_before g (TooLong n) before after is = unmoved g before after is
silent_before g (Schema f) before after is = unmoved g before after is
silent_before g (First f) before after is = unmoved g before after is
silent_before g (Second f) before after is = unmoved g before after is
silent_before g (Write w) before after is = tt

zero_or_four : (s : ℕ) → (s ≡ 4) ⊎ (s ≡ 0) → s ≢ 2
zero_or_four s (inl four) two = absurd (omega (arith, four, two))
zero_or_four s (inr zero) two = absurd (omega (arith, zero, two))

zero_or_four_only : (s : ℕ) → (s ≡ 4) ⊎ (s ≡ 0) → s ≢ 5
zero_or_four_only s (inl four) five = absurd (omega (arith, four, five))
zero_or_four_only s (inr zero) five = absurd (omega (arith, zero, five))

two_or_four : (s : ℕ) → (s ≡ 4) ⊎ (s ≡ 2) → s ≢ 0
two_or_four s (inl four) zero = absurd (omega (arith, four, zero))
two_or_four s (inr two) zero = absurd (omega (arith, two, zero))

two_or_four_only : (s : ℕ) → (s ≡ 4) ⊎ (s ≡ 2) → s ≢ 5
two_or_four_only s (inl four) five = absurd (omega (arith, four, five))
two_or_four_only s (inr two) five = absurd (omega (arith, two, five))

-- a sheet is explained, or not
module _ (run : Effects) (out err : Stream) (kinds : KindCodes) (files : SheetFiles) (form : AnswerForm) (s : ℕ) where
  abbrev pub Explains : Bool → List ℕ → Type 0
  Explains is_accepted text =
      OfFiles run.inputs files (λ scd dic b. MatchBool is_accepted (TellsAccepted form kinds files scd dic b text) (TellsRefusal form kinds files scd dic b text))

  pub explained_status : (is_accepted : Bool) (text : List ℕ) → Explains is_accepted text → (s ≡ 4) ⊎ MatchBool is_accepted (s ≡ 0) (s ≡ 2)
      → (s < 3 → Answers out err text) → (s ≡ 4 → IsUnsaid out err) → IsExplainStatus run out err kinds files form s
  explained_status true text h is written unsaid = record {
    tried = inl (were_there run.inputs files _ h);
    means = record {
      done = λ zero. files_map run.inputs files _ _ (λ a b c told. (text, told, written (omega (arith, zero)))) h;
      refused = λ two. absurd (zero_or_four s is two);
      failed = λ four. inl (unsaid four);
      memory = λ five. absurd (zero_or_four_only s is five);
    };
  }
  explained_status false text h is written unsaid = record {
    tried = inl (were_there run.inputs files _ h);
    means = record {
      done = λ zero. absurd (two_or_four s is zero);
      refused = λ two. files_map run.inputs files _ _ (λ a b c told. (text, told, written (omega (arith, two)))) h;
      failed = λ four. inl (unsaid four);
      memory = λ five. absurd (two_or_four_only s is five);
    };
  }

  pub unexplained_status : (e : RunFault) → FileFault run.inputs kinds files (λ _. ⊥) e → 2 < status_of_fault e
      → IsSaid run.why out err answer_form.Words (outcome.Fault e) (paths_of files (codes "-")) s → IsExplainStatus run out err kinds files form s
  unexplained_status e h big said = record {
    tried = file_tried run.inputs kinds files _ e h;
    means = means_fault _ _ _ run.why (paths_of files (codes "-")) out err s e (λ silent. (h, silent)) (λ is line. absurd (omega (arith, is, big))) said;
  }
