-- What is known of the bytes of four inputs that were read is known of those that the devices hold.
use Rattle.std.proofs.Common.{◌≡◌, ℕ, List, Result, Ok, Err, IfOk, IfErr, Option, Some, None, IfSome, subst}
use Rattle.edi_schema.specs.Roles.{KindCodes}
use Rattle.edi_compare.specs.Runs.{MatchFault, RefusesSchema, RefusesSecond, RefusesSheet, IfBothKnown, IfFourKnown, IfThreeKnown}
use Rattle.edi_compare.specs.inner.Runs.{PairFault}
use Rattle.edi_compare.specs.declared.fault.RunFault.{RunFault}
use Rattle.edi_compare.specs.declared.fault.RunFault.TheVariants.{Memory, Read, TooLong, Schema, First, Second, Write}
use Rattle.edi_compare.proofs.ThreeKnown.{both_known, three_known}

four_known : (a b c d : Option (List ℕ)) (x y z w : List ℕ) (P : List ℕ → List ℕ → List ℕ → List ℕ → Type 0)
    → IfSome a (λ t. x ≡ t) → IfSome b (λ t. y ≡ t) → IfSome c (λ t. z ≡ t) → IfSome d (λ t. w ≡ t) → P x y z w → IfFourKnown a b c d P
four_known a b c None x y z w P h k l m p = tt
four_known a b c (Some u) x y z w P h k l m p = three_known a b c x y z (λ s d v. P s d v u) h k l (subst (P x y z) m p)

pub four_ok : {X : Type 0} (r : Result X RunFault) (a b c d : Option (List ℕ)) (x y z w : List ℕ) (P : X → List ℕ → List ℕ → List ℕ → List ℕ → Type 0)
    → IfSome a (λ t. x ≡ t) → IfSome b (λ t. y ≡ t) → IfSome c (λ t. z ≡ t) → IfSome d (λ t. w ≡ t)
    → IfOk r (λ o. P o x y z w) → IfOk r (λ o. IfFourKnown a b c d (P o))
four_ok (Ok o) a b c d x y z w P h k l m p = four_known a b c d x y z w (P o) h k l m p
four_ok (Err e) a b c d x y z w P h k l m p = tt

four_fault : (kinds : KindCodes) (e : RunFault) (a b c d : Option (List ℕ)) (x y z w : List ℕ) (R T : ℕ → Type 0)
    → IfSome a (λ t. x ≡ t) → IfSome b (λ t. y ≡ t) → IfSome c (λ t. z ≡ t) → IfSome d (λ t. w ≡ t) → PairFault kinds x y z w e
    → MatchFault e R T (λ f. IfBothKnown a b (λ s d. RefusesSchema kinds s d f)) (λ f. IfThreeKnown a b c (λ s d v. RefusesSheet kinds s d v f))
    (λ f. IfFourKnown a b c d (λ s d v u. RefusesSecond kinds s d v u f)) (λ _. ⊥)
four_fault kinds (Memory e) a b c d x y z w R T h k l m p = tt
four_fault kinds (Read i) a b c d x y z w R T h k l m p = absurd p
four_fault kinds (TooLong i) a b c d x y z w R T h k l m p = absurd p
four_fault kinds (Schema f) a b c d x y z w R T h k l m p = both_known a b x y (λ s d. RefusesSchema kinds s d f) h k p
four_fault kinds (First f) a b c d x y z w R T h k l m p = three_known a b c x y z (λ s d v. RefusesSheet kinds s d v f) h k l p
four_fault kinds (Second f) a b c d x y z w R T h k l m p = four_known a b c d x y z w (λ s d v u. RefusesSecond kinds s d v u f) h k l m p
four_fault kinds (Write f) a b c d x y z w R T h k l m p = absurd p

pub four_err : {X : Type 0} (kinds : KindCodes) (r : Result X RunFault) (a b c d : Option (List ℕ)) (x y z w : List ℕ) (R T : ℕ → Type 0)
    → IfSome a (λ t. x ≡ t) → IfSome b (λ t. y ≡ t) → IfSome c (λ t. z ≡ t) → IfSome d (λ t. w ≡ t) → IfErr r (PairFault kinds x y z w)
    → IfErr r (λ e. MatchFault e R T (λ f. IfBothKnown a b (λ s d. RefusesSchema kinds s d f)) (λ f. IfThreeKnown a b c (λ s d v. RefusesSheet kinds s d v f))
    (λ f. IfFourKnown a b c d (λ s d v u. RefusesSecond kinds s d v u f)) (λ _. ⊥))
four_err kinds (Ok o) a b c d x y z w R T h k l m p = tt
four_err kinds (Err e) a b c d x y z w R T h k l m p = four_fault kinds e a b c d x y z w R T h k l m p
