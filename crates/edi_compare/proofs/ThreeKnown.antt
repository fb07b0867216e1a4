-- What is known of the bytes that were read is known of those that the devices hold.
use Rattle.std.proofs.Common.{◌≡◌, ℕ, List, length, take, ◌≤◌, Result, Ok, Err, IfOk, IfErr, OnOk, Option, Some, None, IfSome, subst, ◌∙◌}
use Rattle.std.specs.Io.KnownBytes.{Appends}
use Rattle.edi_schema.specs.Roles.{KindCodes}
use Rattle.edi_compare.specs.Bundle.{AreParts, OfParts}
use Rattle.edi_compare.specs.Runs.{IfBothKnown, IfThreeKnown, MatchFault, RefusesSchema, RefusesSheet, IsCanonOf, WritesAll, WritesFirst}
use Rattle.edi_compare.specs.inner.Runs.{OneSheetFault, BundleFault}
use Rattle.edi_compare.specs.declared.fault.RunFault.{RunFault}
use Rattle.edi_compare.specs.declared.fault.RunFault.TheVariants.{Memory, Read, TooLong, Schema, First, Second, Write}

pub through : (a : Option (List ℕ)) (x y : List ℕ) → y ≡ x → IfSome a (λ t. x ≡ t) → IfSome a (λ t. y ≡ t)
through None x y e h = tt
through (Some t) x y e h = e ∙ h

pub three_known : (a b c : Option (List ℕ)) (x y z : List ℕ) (P : List ℕ → List ℕ → List ℕ → Type 0)
    → IfSome a (λ t. x ≡ t) → IfSome b (λ t. y ≡ t) → IfSome c (λ t. z ≡ t) → P x y z → IfThreeKnown a b c P
three_known None b c x y z P h k l p = tt
three_known (Some s) None c x y z P h k l p = tt
three_known (Some s) (Some d) None x y z P h k l p = tt
three_known (Some s) (Some d) (Some v) x y z P h k l p = subst (λ w. P s d w) l (subst (λ w. P s w z) k (subst (λ w. P w y z) h p))

pub both_known : (a b : Option (List ℕ)) (x y : List ℕ) (P : List ℕ → List ℕ → Type 0)
    → IfSome a (λ t. x ≡ t) → IfSome b (λ t. y ≡ t) → P x y → IfBothKnown a b P
both_known None b x y P h k p = tt
both_known (Some s) None x y P h k p = tt
both_known (Some s) (Some d) x y P h k p = subst (P s) k (subst (λ w. P w y) h p)

pub known_map : (a b c : Option (List ℕ)) (P Q : List ℕ → List ℕ → List ℕ → Type 0)
    → ((s d v : List ℕ) → P s d v → Q s d v) → IfThreeKnown a b c P → IfThreeKnown a b c Q
known_map None b c P Q f h = tt
known_map (Some s) None c P Q f h = tt
known_map (Some s) (Some d) None P Q f h = tt
known_map (Some s) (Some d) (Some v) P Q f h = f s d v h

pub known_ok : {X : Type 0} (r : Result X RunFault) (a b c : Option (List ℕ)) (x y z : List ℕ) (P : X → List ℕ → List ℕ → List ℕ → Type 0)
    → IfSome a (λ t. x ≡ t) → IfSome b (λ t. y ≡ t) → IfSome c (λ t. z ≡ t) → IfOk r (λ o. P o x y z) → IfOk r (λ o. IfThreeKnown a b c (P o))
known_ok (Ok o) a b c x y z P h k l p = three_known a b c x y z (P o) h k l p
known_ok (Err e) a b c x y z P h k l p = tt

pub known_on : {X : Type 0} (r : Result X RunFault) (a b c : Option (List ℕ)) (x y z : List ℕ) (P : List ℕ → List ℕ → List ℕ → Type 0)
    → IfSome a (λ t. x ≡ t) → IfSome b (λ t. y ≡ t) → IfSome c (λ t. z ≡ t) → OnOk r (P x y z) → OnOk r (IfThreeKnown a b c P)
known_on (Ok o) a b c x y z P h k l p = three_known a b c x y z P h k l p
known_on (Err e) a b c x y z P h k l p = tt

known_fault : (kinds : KindCodes) (e : RunFault) (a b c : Option (List ℕ)) (x y z : List ℕ) (R T W : ℕ → Type 0)
    → IfSome a (λ t. x ≡ t) → IfSome b (λ t. y ≡ t) → IfSome c (λ t. z ≡ t) → OneSheetFault kinds x y z e
    → MatchFault e R T (λ f. IfBothKnown a b (λ s d. RefusesSchema kinds s d f)) (λ f. IfThreeKnown a b c (λ s d v. RefusesSheet kinds s d v f)) (λ _. ⊥) W
known_fault kinds (Memory e) a b c x y z R T W h k l p = tt
known_fault kinds (Read i) a b c x y z R T W h k l p = absurd p
known_fault kinds (TooLong i) a b c x y z R T W h k l p = absurd p
known_fault kinds (Schema f) a b c x y z R T W h k l p = both_known a b x y (λ s d. RefusesSchema kinds s d f) h k p
known_fault kinds (First f) a b c x y z R T W h k l p = three_known a b c x y z (λ s d v. RefusesSheet kinds s d v f) h k l p
known_fault kinds (Second f) a b c x y z R T W h k l p = absurd p
known_fault kinds (Write w) a b c x y z R T W h k l p = absurd p

pub known_err : {X : Type 0} (kinds : KindCodes) (r : Result X RunFault) (a b c : Option (List ℕ)) (x y z : List ℕ) (R T W : ℕ → Type 0)
    → IfSome a (λ t. x ≡ t) → IfSome b (λ t. y ≡ t) → IfSome c (λ t. z ≡ t) → IfErr r (OneSheetFault kinds x y z)
    → IfErr r (λ e. MatchFault e R T (λ f. IfBothKnown a b (λ s d. RefusesSchema kinds s d f)) (λ f. IfThreeKnown a b c (λ s d v. RefusesSheet kinds s d v f)) (λ _. ⊥) W)
known_err kinds (Ok o) a b c x y z R T W h k l p = tt
known_err kinds (Err e) a b c x y z R T W h k l p = known_fault kinds e a b c x y z R T W h k l p

-- ---- the parts of a bundle

pub parts_ok : {X : Type 0} (r : Result X RunFault) (b x y z : List ℕ) (P : X → List ℕ → List ℕ → List ℕ → Type 0)
    → AreParts b x y z → IfOk r (λ o. P o x y z) → IfOk r (λ o. OfParts b (P o))
parts_ok (Ok o) b x y z P h p = (x, y, z, h, p)
parts_ok (Err e) b x y z P h p = tt

parts_fault : (kinds : KindCodes) (e : RunFault) (b x y z : List ℕ) → AreParts b x y z → OneSheetFault kinds x y z e → BundleFault kinds b e
parts_fault kinds (Memory e) b x y z h p = tt
parts_fault kinds (Read i) b x y z h p = absurd p
parts_fault kinds (TooLong i) b x y z h p = absurd p
parts_fault kinds (Schema f) b x y z h p = (x, y, z, h, p)
parts_fault kinds (First f) b x y z h p = (x, y, z, h, p)
parts_fault kinds (Second f) b x y z h p = absurd p
parts_fault kinds (Write w) b x y z h p = absurd p

pub parts_err : {X : Type 0} (kinds : KindCodes) (r : Result X RunFault) (b x y z : List ℕ) → AreParts b x y z
    → IfErr r (OneSheetFault kinds x y z) → IfErr r (BundleFault kinds b)
parts_err kinds (Ok o) b x y z h p = tt
parts_err kinds (Err e) b x y z h p = parts_fault kinds e b x y z h p

-- ---- what is written

pub writes_all : (kinds : KindCodes) (s d v out bytes : List ℕ) (old new : Option (List ℕ)) → bytes ≡ out → IsCanonOf kinds s d v out
    → Appends old new bytes → WritesAll kinds s d v old new
writes_all kinds s d v out bytes old new e is h = (out, is, subst (Appends old new) e h)

pub writes_first : (kinds : KindCodes) (s d v out bytes : List ℕ) (count : ℕ) (old new : Option (List ℕ)) → bytes ≡ out → IsCanonOf kinds s d v out
    → (count ≤ length bytes) × Appends old new (take count bytes) → WritesFirst kinds s d v count old new
writes_first kinds s d v out bytes count old new e is h =
    let written = subst (λ w. (count ≤ length w) × Appends old new (take count w)) e h in (out, is, written.0, written.1)

-- ---- the parts of a bundle that a device tells

some_parts : (a : Option (List ℕ)) (b : List ℕ) (P : List ℕ → List ℕ → List ℕ → Type 0) → IfSome a (λ t. b ≡ t)
    → OfParts b P → IfSome a (λ t. OfParts t P)
some_parts None b P e h = tt
some_parts (Some t) b P e h = subst (λ w. OfParts w P) e h

pub some_map : (a : Option (List ℕ)) (P Q : List ℕ → List ℕ → List ℕ → Type 0)
    → ((s d v : List ℕ) → P s d v → Q s d v) → IfSome a (λ t. OfParts t P) → IfSome a (λ t. OfParts t Q)
some_map None P Q f h = tt
some_map (Some t) P Q f h = (h.0, h.1, h.2, h.3, f h.0 h.1 h.2 h.4)

pub some_ok : {X : Type 0} (r : Result X RunFault) (a : Option (List ℕ)) (b : List ℕ) (P : X → List ℕ → List ℕ → List ℕ → Type 0)
    → IfSome a (λ t. b ≡ t) → IfOk r (λ o. OfParts b (P o)) → IfOk r (λ o. IfSome a (λ t. OfParts t (P o)))
some_ok (Ok o) a b P e h = some_parts a b (P o) e h
some_ok (Err f) a b P e h = tt

some_fault : (kinds : KindCodes) (e : RunFault) (a : Option (List ℕ)) (b : List ℕ) (R T W : ℕ → Type 0) → IfSome a (λ t. b ≡ t)
    → BundleFault kinds b e → MatchFault e R T (λ f. IfSome a (λ t. OfParts t (λ s d v. RefusesSchema kinds s d f)))
    (λ f. IfSome a (λ t. OfParts t (λ s d v. RefusesSheet kinds s d v f))) (λ _. ⊥) W
some_fault kinds (Memory e) a b R T W h p = tt
some_fault kinds (Read i) a b R T W h p = absurd p
some_fault kinds (TooLong i) a b R T W h p = absurd p
some_fault kinds (Schema f) a b R T W h p = some_parts a b (λ s d v. RefusesSchema kinds s d f) h p
some_fault kinds (First f) a b R T W h p = some_parts a b (λ s d v. RefusesSheet kinds s d v f) h p
some_fault kinds (Second f) a b R T W h p = absurd p
some_fault kinds (Write w) a b R T W h p = absurd p

pub some_err : {X : Type 0} (kinds : KindCodes) (r : Result X RunFault) (a : Option (List ℕ)) (b : List ℕ) (R T W : ℕ → Type 0) → IfSome a (λ t. b ≡ t)
    → IfErr r (BundleFault kinds b) → IfErr r (λ e. MatchFault e R T (λ f. IfSome a (λ t. OfParts t (λ s d v. RefusesSchema kinds s d f)))
    (λ f. IfSome a (λ t. OfParts t (λ s d v. RefusesSheet kinds s d v f))) (λ _. ⊥) W)
some_err kinds (Ok o) a b R T W h p = tt
some_err kinds (Err e) a b R T W h p = some_fault kinds e a b R T W h p
