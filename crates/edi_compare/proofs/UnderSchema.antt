-- What is known of the bytes of a sheet that were read is known of those that the device holds.
use Rattle.std.proofs.Common.{◌≡◌, ℕ, List, Result, Ok, Err, IfOk, IfErr, Option, Some, None, IfSome, subst}
use Rattle.edi_schema.specs.Classes.{Classes}
use Rattle.edi_compare.specs.declared.fault.RunFault.{RunFault}
use Rattle.edi_compare.specs.declared.fault.RunFault.TheVariants.{Memory, Read, TooLong, Schema, First, Second, Write}
use Rattle.edi_compare.specs.Refused.{IsProper, IsRefusal}
use Rattle.edi_compare.specs.Runs.{MatchFault}
use Rattle.edi_compare.specs.inner.Under.{UnderSchema}

some : (a : Option (List ℕ)) (x : List ℕ) (P : List ℕ → Type 0) → IfSome a (λ t. x ≡ t) → P x → IfSome a P
some None x P h p = tt
some (Some t) x P h p = subst P h p

pub one_ok : {X : Type 0} (r : Result X RunFault) (a : Option (List ℕ)) (x : List ℕ) (P : X → List ℕ → Type 0) → IfSome a (λ t. x ≡ t)
    → IfOk r (λ o. P o x) → IfOk r (λ o. IfSome a (P o))
one_ok (Ok o) a x P h p = some a x (P o) h p
one_ok (Err e) a x P h p = tt

sheet_fault : (s : Classes) (e : RunFault) (a : Option (List ℕ)) (x : List ℕ) (R T : ℕ → Type 0) → IfSome a (λ t. x ≡ t) → UnderSchema s x e
    → MatchFault e R T (λ _. ⊥) (λ f. IfSome a (λ b. IsProper f × IsRefusal s b f)) (λ _. ⊥) (λ _. ⊥)
sheet_fault s (Memory e) a x R T h p = tt
sheet_fault s (Read i) a x R T h p = absurd p
sheet_fault s (TooLong i) a x R T h p = absurd p
sheet_fault s (Schema f) a x R T h p = absurd p
sheet_fault s (First f) a x R T h p = some a x (λ b. IsProper f × IsRefusal s b f) h p
sheet_fault s (Second f) a x R T h p = absurd p
sheet_fault s (Write w) a x R T h p = absurd p

pub one_err : {X : Type 0} (s : Classes) (r : Result X RunFault) (a : Option (List ℕ)) (x : List ℕ) (R T : ℕ → Type 0) → IfSome a (λ t. x ≡ t)
    → IfErr r (UnderSchema s x) → IfErr r (λ e. MatchFault e R T (λ _. ⊥) (λ f. IfSome a (λ b. IsProper f × IsRefusal s b f)) (λ _. ⊥) (λ _. ⊥))
one_err s (Ok o) a x R T h p = tt
one_err s (Err e) a x R T h p = sheet_fault s e a x R T h p
