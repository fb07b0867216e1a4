-- The refusals of pairing files.
use Rattle.std.proofs.Common.{ℕ, List, refl, sym, subst}
use Rattle.edi_schema.specs.Classes.{Classes}
use Rattle.edi_compare.specs.Refused.{IsPairRefusal}
use Rattle.edi_compare.specs.Rules.{IsAccepted}
use Rattle.edi_compare.specs.Uncarried.{IsUncarriedBy}
use Rattle.edi_plan.specs.Plans.{PlanData}
use Rattle.edi_compare.specs.declared.pairing.Pairing.{Pairing}
use Rattle.edi_compare.specs.declared.uncarried.Uncarried.{Uncarried}
use Rattle.edi_compare.specs.declared.uncarried.Uncarried.TheVariants.{Entries, CharacterSets, Record, Unmet}
use Rattle.edi_compare.specs.declared.uncarried.WrongPartner.TheVariants.{Nowhere, Shared, Unlike}
use Rattle.edi_compare.specs.declared.fault.CompareFault.{CompareFault}
use Rattle.edi_compare.specs.declared.fault.CompareFault.TheVariants as sheets
use Rattle.edi_pairing.specs.Names.{AreNamesOf}
use Rattle.edi_pairing.specs.WrongLines.{IsPairingRefusal}
use Rattle.edi_pairing.specs.Verified.{IsUnpairedBy, IsVerifyRefusal, of_pairing, of_sheets}
use Rattle.edi_pairing.specs.inner.Named.{HasNamesOf}
use Rattle.edi_pairing.specs.declared.verified.Unpaired.{Unpaired}
use Rattle.edi_pairing.specs.declared.names.RecordName.{RecordName}
use Rattle.edi_pairing.specs.declared.fault.PairingFault.{PairingFault}
use Rattle.edi_pairing.specs.declared.fault.PairingFault.TheVariants.{Memory, Line}

pub pairing_refusal : (s : Classes) (a b file : List ℕ) (names others : List RecordName) → IsAccepted s a → IsAccepted s b → AreNamesOf a names → AreNamesOf b others
    → (f : PairingFault) → IsPairingRefusal names others file f → IsVerifyRefusal s a b file (of_pairing f)
pairing_refusal s a b file names others accepted accepted' are are' (Memory e) h = tt
pairing_refusal s a b file names others accepted accepted' are are' (Line at why) h = (accepted, accepted', record { names = names; others = others; are_names = are; are_others = are'; wrong = h })

pub sheets_refusal : (s : Classes) (a b file : List ℕ) (f : CompareFault) → IsPairRefusal s a b f → IsVerifyRefusal s a b file (of_sheets f)
sheets_refusal s a b file (sheets.Memory e) h = tt
sheets_refusal s a b file (sheets.First f) h = h
sheets_refusal s a b file (sheets.Second f) h = h

-- why a pairing doesn't carry, with the names of its records, says so of the names
module _ (s : Classes) (p q : PlanData) (a b : List RecordName) (pairing : Pairing) (unpaired : Unpaired) where
  pub unpaired_by : (why : Uncarried) → IsUncarriedBy s p q pairing why → HasNamesOf a b pairing why unpaired → IsUnpairedBy s p q a b pairing unpaired
  unpaired_by Entries is named = absurd named
  unpaired_by CharacterSets is named = subst (IsUnpairedBy s p q a b pairing) (sym named) is
  unpaired_by (Record i Nowhere) is named = absurd named
  unpaired_by (Record i (Shared k)) is named = subst (IsUnpairedBy s p q a b pairing) (sym named) (i, k, is, refl, refl)
  unpaired_by (Record i (Unlike part)) is named = subst (IsUnpairedBy s p q a b pairing) (sym named) (i, is, refl)
  unpaired_by (Unmet j) is named = subst (IsUnpairedBy s p q a b pairing) (sym named) (j, is, refl)
