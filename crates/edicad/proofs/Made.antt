-- What was made of a sheet.
use Rattle.std.proofs.Common.{◌≡◌, ℕ, List, Option, inl, inr, sym, ◌∙◌, subst, ⊎_elim}
use Rattle.edi_schema.specs.Roles.{KindCodes}
use Rattle.edi_compare.specs.declared.fault.RunFault.{RunFault}
use Rattle.edi_compare.specs.declared.fault.RunFault.TheVariants.{Memory, Read, TooLong, Schema, First, Second, Write}
use Rattle.edi_compare.specs.Runs.{MatchFault}
use Rattle.edi_words.specs.declared.words.SheetFiles.{SheetFiles}
use Rattle.edi_files.specs.Outputs.{IsWholeOrNew}
use Rattle.edi_files.specs.declared.product.Product.{Product}
use Rattle.edi_answers.specs.Effects.{Inputs}
use Rattle.edi_answers.specs.SheetRuns.{FileFault, OfFiles}
use Rattle.edicad.specs.Made.{IsMadeOf, OfMade}
use Rattle.edi_answers.proofs.Made.{files_map, were_there}

module _ (inputs : Inputs) (product : Product) (kinds : KindCodes) (files : SheetFiles) (items bytes : List ℕ) (is : bytes ≡ items)
    (form : OfFiles inputs files (λ s d v. IsMadeOf product kinds files.vec.now s d v items)) where
  -- what holds of the bytes holds of what was made
  pub of_made : (P : List ℕ → Type 0) → P bytes → OfMade inputs product kinds files P
  of_made P h = files_map inputs files _ _ (λ s d v f. (items, f, subst P is h)) form

  -- why they were not written is why there is no answer
  pub put_fault : (W V : ℕ → Type 0) → ((n : ℕ) → W n → V n) → (e : RunFault) → MatchFault e (λ _. ⊥) (λ _. ⊥) (λ _. ⊥) (λ _. ⊥) (λ _. ⊥) W
      → FileFault inputs kinds files V e
  put_fault W V f (Memory e) h = inr (were_there inputs files _ form, tt)
  put_fault W V f (Read n) h = absurd h
  put_fault W V f (TooLong n) h = absurd h
  put_fault W V f (Schema g) h = absurd h
  put_fault W V f (First g) h = absurd h
  put_fault W V f (Second g) h = absurd h
  put_fault W V f (Write w) h = inr (were_there inputs files _ form, f w.count h)

  -- whole bytes are all that was made
  pub whole : (out : List ℕ) (Spare : List ℕ → Type 0) (path : List ℕ) (c : Option (List ℕ)) → IsWholeOrNew out Spare (λ b. b ≡ bytes) path c
      → IsWholeOrNew out Spare (λ b. OfFiles inputs files (λ s d v. IsMadeOf product kinds files.vec.now s d v b)) path c
  whole out Spare path c h =
      ⊎_elim
      (λ w. inl (w.0, (w.1.0, subst (λ b. OfFiles inputs files (λ s d v. IsMadeOf product kinds files.vec.now s d v b)) (sym (w.1.1 ∙ is)) form, w.1.2)))
      (λ new. inr new) h
