-- What a refusal is said to be where something was to be made of a sheet.
use Rattle.std.proofs.Common.{◌≡◌, ◌⊎◌, ℕ, List, [], length, ap, inl, inr, arith}
use Rattle.edi_schema.specs.Roles.{KindCodes}
use Rattle.edi_compare.specs.declared.fault.RunFault.{RunFault}
use Rattle.edi_words.specs.declared.words.SheetFiles.{SheetFiles}
use Rattle.edi_files.specs.declared.product.Product.{Product}
use Rattle.edi_files.specs.Reasons.{ended}
use Rattle.edi_outcome.specs.Status.{status_of_fault}
use Rattle.edi_outcome.specs.Words.{first_text, words_of_fault}
use Rattle.edi_answers.specs.Effects.{Effects}
use Rattle.edi_answers.specs.SheetRuns.{OfFiles}
use Rattle.edicad.specs.Made.{IsInput, PutFault}
use Rattle.edi_answers.specs.Statuses.{AreTried, SaysRefusal}
use Rattle.edi_answers.proofs.Refusals.{file_refused, file_tried, unwritten}

-- a refusal is said as its line
module _ (Says : List ℕ → Type 0) (kinds : KindCodes) (names : List (List ℕ)) (alone : first_text (length names) ≡ []) where
  pub put_refused : (run : Effects) (product : Product) (files : SheetFiles) (path : List ℕ) (e : RunFault) → PutFault run product kinds files path e → status_of_fault e ≡ 2
      → Says (ended (words_of_fault e names)) → OfFiles run.inputs files (SaysRefusal Says kinds) × run.untouched
  put_refused run product files path e (inl input) two line = absurd (omega (arith, ap status_of_fault input.1, two))
  put_refused run product files path e (inr h) two line = (file_refused Says kinds names alone run.inputs files _ e h.1 two line, unwritten e _ h.2 two)

pub put_tried : (run : Effects) (product : Product) (kinds : KindCodes) (files : SheetFiles) (path : List ℕ) (e : RunFault) → PutFault run product kinds files path e
    → IsInput run.is_one files path ⊎ AreTried run.inputs files
put_tried run product kinds files path e (inl input) = inl input.0
put_tried run product kinds files path e (inr h) = inr (file_tried run.inputs kinds files _ e h.1)
