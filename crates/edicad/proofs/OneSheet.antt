-- The status of a run that makes something of one sheet.
use Rattle.std.proofs.Common.{◌≡◌, ℕ, Bool, false, List, [], IsTrue, codes, refl, sym, subst, inl, inr, arith}
use Rattle.std.specs.Bool.{MatchBool}
use Rattle.edi_schema.specs.Roles.{KindCodes}
use Rattle.edi_compare.specs.Runs.{BeforeWriting}
use Rattle.edi_compare.specs.declared.fault.RunFault.{RunFault}
use Rattle.edi_files.specs.declared.product.Product.{Product}
use Rattle.edi_words.specs.Requests.{is_standard_path}
use Rattle.edi_words.specs.declared.words.SheetFiles.{SheetFiles}
use Rattle.edi_answers.specs.declared.form.AnswerForm.TheVariants as answer_form
use Rattle.edi_answers.specs.Effects.{Effects, Stream}
use Rattle.edi_answers.specs.Paths.{names_of_paths}
use Rattle.edi_answers.specs.SheetRuns.{FileFault}
use Rattle.edicad.specs.Made.{IsPut, IsReplaced, OfMade, PutFault}
use Rattle.edi_answers.specs.Statuses.{Answers, Complains, IsSaid, IsWarned, Prints, PrintsFirst, paths_of}
use Rattle.edicad.specs.Answered.{IsMadeStatus}
use Rattle.edicad.specs.Statuses.{IsPutStatus, IsSendStatus}
use Rattle.edi_outcome.specs.declared.outcome.Outcome.TheVariants as outcome
use Rattle.edi_answers.proofs.Made.{files_map, were_there}
use Rattle.edi_answers.proofs.Refusals.{file_refused, file_tried, means_answer, means_fault, means_warned, refusal_line, unwritten}
use Rattle.edicad.proofs.Refusals.{put_refused, put_tried}

module _ (run : Effects) (out err : Stream) (kinds : KindCodes) (files : SheetFiles) (s : ℕ) where
  module _ (product : Product) (path : List ℕ) (replaced : IsReplaced run product kinds files path) where
    -- what is made of it is put at a path, or not
    pub put_status : IsPut run product kinds files path → IsSaid run.why out err answer_form.Words outcome.Accepted (paths_of files path) s → IsPutStatus run out err product kinds files path s
    put_status h said = record {
      tried = inr (inl (were_there run.inputs files _ h.1));
      means = means_answer _ _ _ run.why (paths_of files path) out err s outcome.Accepted (omega arith) (λ zero. (h, (said.answer (omega (arith, zero))).0)) said;
      leaves = inl h;
      replaced = replaced;
    }

    pub unput_status : (e : RunFault) → PutFault run product kinds files path e → IsSaid run.why out err answer_form.Words (outcome.Fault e) (paths_of files path) s
        → IsPutStatus run out err product kinds files path s
    unput_status e h said = record {
      tried = put_tried run product kinds files path e h;
      means = means_fault _ _ _ run.why (paths_of files path) out err s e (λ silent. (h, silent))
          (λ is line. put_refused (Answers out err) kinds (names_of_paths (paths_of files path)) refl run product files path e h is line.0) said;
      leaves = inr (e, h);
      replaced = replaced;
    }

    -- the path is none of a stream
    pub made_put : is_standard_path path ≡ false → IsPutStatus run out err product kinds files path s → IsMadeStatus run out err product kinds files path s
    made_put is h = subst (λ (b : Bool). MatchBool b (run.untouched × IsSendStatus run out err product kinds files s) (IsPutStatus run out err product kinds files path s)) (sym is) h

  module _ (product : Product) where
    -- what is made of it is sent to the output, or not
    pub send_status : OfMade run.inputs product kinds files (Prints out) → Prints err [] → s ≡ 0 → IsSendStatus run out err product kinds files s
    send_status h silent zero = record {
      tried = inl (were_there run.inputs files _ h);
      means = record {
        done = λ is. files_map run.inputs files _ _ (λ a b c made. (made.0, made.1, (made.2, silent))) h;
        refused = λ two. absurd (omega (arith, zero, two));
        failed = λ four. absurd (omega (arith, zero, four));
        memory = λ five. absurd (omega (arith, zero, five));
      };
    }

    pub unsent_status : (e : RunFault) → FileFault run.inputs kinds files (λ count. IsTrue out.failed × OfMade run.inputs product kinds files (PrintsFirst out count)) e
        → BeforeWriting e (Prints out []) → IsWarned run.why err e (paths_of files (codes "-")) s → IsSendStatus run out err product kinds files s
    unsent_status e h silent warned = record {
      tried = file_tried run.inputs kinds files _ e h;
      means = means_warned _ _ _ run.why (paths_of files (codes "-")) out err s e (h, silent) silent
          (λ is told. file_refused (Complains out err) kinds (names_of_paths (paths_of files (codes "-"))) refl run.inputs files _ e h is
          (unwritten e _ silent is, refusal_line run.why err e (paths_of files (codes "-")) is told)) warned;
    }
