-- What was made of files.
use Rattle.std.proofs.Common.{◌≡◌, ℕ, List, Option, Some, None, IfSome, inl, inr, sym, ◌∙◌, subst, ⊎_elim}
use Rattle.edi_schema.specs.Roles.{KindCodes}
use Rattle.edi_compare.specs.Bundle.{OfParts}
use Rattle.edi_compare.specs.declared.fault.RunFault.{RunFault}
use Rattle.edi_compare.specs.declared.fault.RunFault.TheVariants.{Memory, Read, TooLong, Schema, First, Second, Write}
use Rattle.edi_compare.specs.Runs.{BeforeWriting, MatchFault, IfFourKnown, IfThreeKnown}
use Rattle.edi_words.specs.declared.words.PairFiles.{PairFiles}
use Rattle.edi_words.specs.declared.words.SheetFiles.{SheetFiles}
use Rattle.edi_files.specs.Outputs.{IsWholeOrNew}
use Rattle.edi_answers.specs.Effects.{Inputs}
use Rattle.edi_answers.specs.SheetRuns.{AreFourThere, AreThere, OfFiles, OfMadePair, OfPair, PairFileFault}

known_map : (a b c : Option (List ℕ)) (P Q : List ℕ → List ℕ → List ℕ → Type 0) → ((s d v : List ℕ) → P s d v → Q s d v) → IfThreeKnown a b c P → IfThreeKnown a b c Q
known_map None b c P Q f h = tt
known_map (Some x) None c P Q f h = tt
known_map (Some x) (Some y) None P Q f h = tt
known_map (Some x) (Some y) (Some z) P Q f h = f x y z h

-- what follows from a fact of three files holds of them
pub files_map : (inputs : Inputs) (files : SheetFiles) (P Q : List ℕ → List ℕ → List ℕ → Type 0) → ((s d v : List ℕ) → P s d v → Q s d v)
    → OfFiles inputs files P → OfFiles inputs files Q
files_map inputs files P Q f h = (h.0, h.1, h.2, h.3, h.4, h.5, known_map h.0 h.1 h.2 P Q f h.6)

pub parts_map : (contents : Option (List ℕ)) (P Q : List ℕ → List ℕ → List ℕ → Type 0) → ((s d v : List ℕ) → P s d v → Q s d v)
    → IfSome contents (λ b. OfParts b P) → IfSome contents (λ b. OfParts b Q)
parts_map None P Q f h = tt
parts_map (Some b) P Q f h = (h.0, h.1, h.2, h.3, f h.0 h.1 h.2 h.4)

four_known_map : (a b c d : Option (List ℕ)) (P Q : List ℕ → List ℕ → List ℕ → List ℕ → Type 0) → ((s t u v : List ℕ) → P s t u v → Q s t u v)
    → IfFourKnown a b c d P → IfFourKnown a b c d Q
four_known_map a b c None P Q f h = tt
four_known_map a b c (Some w) P Q f h = known_map a b c _ _ (λ s t u. f s t u w) h

-- what follows from a fact of four files holds of them
pub pair_map : (inputs : Inputs) (files : PairFiles) (P Q : List ℕ → List ℕ → List ℕ → List ℕ → Type 0) → ((s d a b : List ℕ) → P s d a b → Q s d a b)
    → OfPair inputs files P → OfPair inputs files Q
pair_map inputs files P Q f h = (h.0, h.1, h.2, h.3, h.4, h.5, h.6, h.7, four_known_map h.0 h.1 h.2 h.3 P Q f h.8)

-- what holds anyway holds before writing
pub before_writing : (e : RunFault) (P : Type 0) → P → BeforeWriting e P
before_writing (Memory e) P h = h
before_writing (Read n) P h = h
before_writing (TooLong n) P h = h
before_writing (Schema f) P h = h
before_writing (First f) P h = h
before_writing (Second f) P h = h
before_writing (Write w) P h = tt

-- the files were there
pub were_there : (inputs : Inputs) (files : SheetFiles) (P : List ℕ → List ℕ → List ℕ → Type 0) → OfFiles inputs files P → AreThere inputs files
were_there inputs files P h = ((h.0, h.3), (h.1, h.4), (h.2, h.5))

-- all four were opened of which something holds
pub were_four : (inputs : Inputs) (files : PairFiles) (P : List ℕ → List ℕ → List ℕ → List ℕ → Type 0) → OfPair inputs files P → AreFourThere inputs files
were_four inputs files P h = ((h.0, h.4), (h.1, h.5), (h.2, h.6), (h.3, h.7))

-- what was made of two sheets
module _ (inputs : Inputs) (kinds : KindCodes) (files : PairFiles) (IsMade : List ℕ → List ℕ → List ℕ → List ℕ → List ℕ → Type 0) (items bytes : List ℕ) (is : bytes ≡ items)
    (made : OfPair inputs files (λ s d a b. IsMade s d a b items)) where
  -- what holds of the bytes holds of what was made
  pub of_made_pair : (P : List ℕ → Type 0) → P bytes → OfMadePair inputs IsMade files P
  of_made_pair P h = pair_map inputs files _ _ (λ s d a b f. (items, f, subst P is h)) made

  -- why they were not written is why there is no answer
  pub pair_put_fault : (W V : ℕ → Type 0) → ((n : ℕ) → W n → V n) → (e : RunFault) → MatchFault e (λ _. ⊥) (λ _. ⊥) (λ _. ⊥) (λ _. ⊥) (λ _. ⊥) W
      → PairFileFault inputs kinds files V e
  pair_put_fault W V f (Memory e) h = inr (were_four inputs files _ made, tt)
  pair_put_fault W V f (Read n) h = absurd h
  pair_put_fault W V f (TooLong n) h = absurd h
  pair_put_fault W V f (Schema g) h = absurd h
  pair_put_fault W V f (First g) h = absurd h
  pair_put_fault W V f (Second g) h = absurd h
  pair_put_fault W V f (Write w) h = inr (were_four inputs files _ made, f w.count h)

  -- whole bytes are all that was made
  pub whole_pair : (out : List ℕ) (Spare : List ℕ → Type 0) (path : List ℕ) (c : Option (List ℕ)) → IsWholeOrNew out Spare (λ b. b ≡ bytes) path c
      → IsWholeOrNew out Spare (λ f. OfPair inputs files (λ s d a b. IsMade s d a b f)) path c
  whole_pair out Spare path c h =
      ⊎_elim
      (λ w. inl (w.0, (w.1.0, subst (λ f. OfPair inputs files (λ s d a b. IsMade s d a b f)) (sym (w.1.1 ∙ is)) made, w.1.2)))
      (λ new. inr new) h
