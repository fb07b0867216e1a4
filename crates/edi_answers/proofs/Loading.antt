-- A schema that is loaded, and the note on its kinds.
use Rattle.std.proofs.Common.{◌≡◌, ◌≤◌, ℕ, List, [], ◌∷◌, length, Option, Some, None, IfSome, inr, refl, subst, arith}
use Rattle.edi_schema.specs.Roles.{KindCodes}
use Rattle.edi_compare.specs.Runs.{IfBothKnown, MatchFault, RefusesSchema}
use Rattle.edi_compare.specs.declared.fault.RunFault.{RunFault}
use Rattle.edi_compare.specs.declared.fault.RunFault.TheVariants.{Memory, Read, TooLong, Schema, First, Second, Write}
use Rattle.edi_words.specs.declared.words.ManyFiles.{ManyFiles}
use Rattle.edi_answers.specs.Effects.{Inputs}
use Rattle.edi_answers.specs.Hashes.{LoadFault}
use Rattle.edi_answers.specs.Notes.{lacking_line, note_line}
use Rattle.edi_answers.specs.SheetRuns.{Gives}

-- a fact of the bytes of two inputs that were read holds of what they tell
pub both_known : (a c : Option (List ℕ)) (x y : List ℕ) (P : List ℕ → List ℕ → Type 0) → IfSome a (λ t. x ≡ t) → IfSome c (λ t. y ≡ t) → P x y → IfBothKnown a c P
both_known None c x y P f g p = tt
both_known (Some m) None x y P f g p = tt
both_known (Some m) (Some n) x y P f g p = subst (P m) g (subst (λ t. P t y) f p)

-- the refusal of two files that were read is that of the schema
pub schema_fault : (inputs : Inputs) (kinds : KindCodes) (files : ManyFiles) (a c : Option (List ℕ)) (x y : List ℕ)
    → Gives inputs files.scd.now a → Gives inputs files.dic.now c → IfSome a (λ t. x ≡ t) → IfSome c (λ t. y ≡ t)
    → (e : RunFault) → MatchFault e (λ _. ⊥) (λ _. ⊥) (RefusesSchema kinds x y) (λ _. ⊥) (λ _. ⊥) (λ _. ⊥) → LoadFault inputs kinds files e
schema_fault inputs kinds files a c x y g k p q (Memory m) h = inr ((a, g), (c, k), tt)
schema_fault inputs kinds files a c x y g k p q (Read n) h = absurd h
schema_fault inputs kinds files a c x y g k p q (TooLong n) h = absurd h
schema_fault inputs kinds files a c x y g k p q (Schema f) h = inr ((a, g), (c, k), (a, c, g, k, both_known a c x y (λ s d. RefusesSchema kinds s d f) p q h))
schema_fault inputs kinds files a c x y g k p q (First f) h = absurd h
schema_fault inputs kinds files a c x y g k p q (Second f) h = absurd h
schema_fault inputs kinds files a c x y g k p q (Write w) h = absurd h

-- where there are words, the note is the line with them
pub worded : (name words : List ℕ) → 1 ≤ length words → lacking_line name words ≡ note_line name words
worded name [] some = absurd (omega (arith, some))
worded name (x ∷ xs) some = refl
