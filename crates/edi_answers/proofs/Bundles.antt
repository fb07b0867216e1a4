-- The status of a run over a bundle.
use Rattle.std.proofs.Common.{◌≡◌, ◌⊎◌, ◌≤◌, ℕ, List, [], ◌∷◌, Option, IfSome, IsTrue, codes, refl, sym, subst, inl, inr, arith}
use Rattle.edi_line.specs.declared.device.ByteIn as byte_in
use Rattle.edi_line.specs.declared.device.ByteOut as byte_out
use Rattle.edi_compare.specs.Bundle.{OfParts}
use Rattle.edi_compare.specs.Runs.{BeforeWriting, InputFault, WritesAll, WritesFirst, seen}
use Rattle.edi_compare.specs.declared.fault.RunFault.{RunFault}
use Rattle.edi_compare.specs.declared.fault.RunFault.TheVariants.{Memory, Read, TooLong, Schema, First as FirstSheet, Second, Write}
use Rattle.edi_words.specs.Requests.{usual_kinds}
use Rattle.edi_files.specs.Reasons.{ended}
use Rattle.edi_files.specs.declared.folder.Folder as folder
use Rattle.edi_answers.specs.declared.form.AnswerForm.TheVariants as answer_form
use Rattle.edi_answers.specs.Effects.{Effects, Inputs, Stream, inputs, written}
use Rattle.edi_outcome.specs.Status.{status_of_fault}
use Rattle.edi_outcome.specs.Words.{words_of_fault}
use Rattle.edi_answers.specs.Paths.{names_of_paths}
use Rattle.edi_answers.specs.SheetRuns.{StandardFault}
use Rattle.edi_answers.specs.Statuses.{Answers, IsBundleStatus, IsSaid, Prints}
use Rattle.edi_outcome.specs.declared.outcome.Outcome.TheVariants as outcome
use Rattle.edi_answers.proofs.Refusals.{input_refused, means_told, unwritten}
use Rattle.edi_answers.proofs.OneSheet.{silent_before}

abbrev pub both_dashes : List (List ℕ)
both_dashes = codes "-" ∷ codes "-" ∷ []

-- of a run over the reader that standard input is
pub standard_fault : {F R S N M : Type 0} → (g : folder.Ghosts F R S N M) (r : byte_in.Ghosts R) (at : F) (before after : R) (W : ℕ → Type 0)
    → g.is_input at (r.device before) → (e : RunFault) → InputFault usual_kinds (seen r before after) W e
    → StandardFault (inputs g r at) (r.contents before) W e
standard_fault g r at before after W opened (Memory e) h = tt
standard_fault g r at before after W opened (Read n) h = (h.0, (r.device before, opened, (after, h.1.1, h.1.0)))
standard_fault g r at before after W opened (TooLong n) h = h
standard_fault g r at before after W opened (Schema e) h = h
standard_fault g r at before after W opened (FirstSheet e) h = h
standard_fault g r at before after W opened (Second e) h = absurd h
standard_fault g r at before after W opened (Write w) h = h

pub bundle_status : (run : Effects) (out err : Stream) (s : ℕ) (contents : Option (List ℕ)) → run.inputs.standard contents
    → IfSome contents (λ b. OfParts b (λ scd dic vec. WritesAll usual_kinds scd dic vec out.before out.after)) → Prints err [] → s ≡ 0 → IsBundleStatus run out err s
bundle_status run out err s contents standard h silent zero = (
  contents,
  standard,
  record {
    done = λ is. (h, silent);
    refused = λ two. absurd (omega (arith, zero, two));
    failed = λ four. absurd (omega (arith, zero, four));
    memory = λ five. absurd (omega (arith, zero, five));
  },
)

-- over the output before the run, after it and once the fault was said
module _ (inputs : Inputs) {O : Type 0} (g : byte_out.Ghosts O) (before between after : O) (contents : Option (List ℕ)) where
  abbrev pub First : O → ℕ → Type 0
  First o n = IsTrue (g.has_failed o) × IfSome contents (λ b. OfParts b (λ scd dic vec. WritesFirst usual_kinds scd dic vec n (g.contents before) (g.contents o)))

  abbrev IsFault : RunFault → Type 0
  IsFault e = StandardFault inputs contents (First after) e × BeforeWriting e (Prints (written g before after) [])

  -- without memory for what is said, nothing was written, or writing failed
  lacking : (e : RunFault) → StandardFault inputs contents (First between) e → BeforeWriting e (between ≡ before) → Prints (written g between after) []
      → (3 ≤ status_of_fault e → after ≡ between) → Prints (written g before after) [] ⊎ ((f : RunFault) × IsFault f × (status_of_fault f ≡ 4))
  lacking (Memory e) h unmoved silent kept = inl (subst (λ o. Prints (written g o after) []) unmoved silent)
  lacking (Read n) h unmoved silent kept = inl (subst (λ o. Prints (written g o after) []) unmoved silent)
  lacking (TooLong n) h unmoved silent kept = inl (subst (λ o. Prints (written g o after) []) unmoved silent)
  lacking (Schema f) h unmoved silent kept = inl (subst (λ o. Prints (written g o after) []) unmoved silent)
  lacking (FirstSheet f) h unmoved silent kept = inl (subst (λ o. Prints (written g o after) []) unmoved silent)
  lacking (Second f) h unmoved silent kept = inl (subst (λ o. Prints (written g o after) []) unmoved silent)
  lacking (Write w) h unmoved silent kept = inr (Write w, (subst (λ o. StandardFault inputs contents (First o) (Write w)) (sym (kept (omega arith))) h, tt), refl)

module _ (run : Effects) {O : Type 0} (g : byte_out.Ghosts O) (before between after : O) (err : Stream) (s : ℕ) (e : RunFault) (contents : Option (List ℕ)) where
  pub unbundled_status : run.inputs.standard contents → StandardFault run.inputs contents (First run.inputs g before between after contents between) e
      → BeforeWriting e (between ≡ before) → IsSaid run.why (written g between after) err answer_form.Words (outcome.Fault e) both_dashes s → (3 ≤ status_of_fault e → after ≡ between)
      → IsBundleStatus run (written g before after) err s
  unbundled_status standard h unmoved said kept = (
    contents,
    standard,
    means_told _ _ _ run.why both_dashes (written g before after) err s e
        (λ big four. (
          (
            subst (λ o. StandardFault run.inputs contents (First run.inputs g before between after contents o) e) (sym (kept big)) h,
            silent_before g e before after (subst (λ o. BeforeWriting e (o ≡ before)) (sym (kept big)) unmoved),
          ),
          (said.fault big four).0,
        ))
        (λ is two. input_refused (Answers (written g before after) err) usual_kinds (names_of_paths both_dashes) refl run.inputs contents (First run.inputs g before between after contents between) e h is
        (subst (λ o. Answers (written g o after) err (ended (words_of_fault e (names_of_paths both_dashes)))) (unwritten e _ unmoved is) (said.answer (omega (arith, two))).0))
        said.unsaid said.status
        (λ five. let m = said.memory five in (m.1, lacking run.inputs g before between after contents e h unmoved m.0 kept)),
  )
