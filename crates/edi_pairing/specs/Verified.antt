-- Whether a file states a pairing that carries one sheet's plan onto another's.
use Rattle.std.specs.Prelude.{◌≡◌, ℕ, ◌+◌, List, slice_index, ⊤}
use Rattle.edi_schema.specs.Classes.{Classes}
use Rattle.edi_plan.specs.Plans.{PlanData}
use Rattle.edi_compare.specs.Pairings.{PairingCarries}
use Rattle.edi_compare.specs.PlanOfFile.{IsPlanOfFile}
use Rattle.edi_compare.specs.Refused.{IsProper, IsRefusal}
use Rattle.edi_compare.specs.Rules.{IsAccepted}
use Rattle.edi_compare.specs.Uncarried.{IsUncarriedBy}
use Rattle.edi_compare.specs.Verdicts.{IsVerdict}
use Rattle.edi_compare.specs.declared.pairing.Pairing.{Pairing}
use Rattle.edi_compare.specs.declared.pairing.Verdict.TheVariants.{Different, Same}
use Rattle.edi_compare.specs.declared.fault.CompareFault.{CompareFault}
use Rattle.edi_compare.specs.declared.fault.CompareFault.TheVariants as sheets
use Rattle.edi_compare.specs.declared.uncarried.Uncarried.TheVariants as uncarried
use Rattle.edi_compare.specs.declared.uncarried.WrongPartner.TheVariants as wrong
use Rattle.edi_pairing.specs.Names.{AreNamesOf, name_at}
use Rattle.edi_pairing.specs.PairingText.{StatesPairing}
use Rattle.edi_pairing.specs.WrongLines.{IsWrongBy}
use Rattle.edi_pairing.specs.declared.names.RecordName.{RecordName}
use Rattle.edi_pairing.specs.declared.writing.Compared.{Compared}
use Rattle.edi_pairing.specs.declared.writing.Compared.TheVariants.{Same as SameBy, Different as DifferentAt}
use Rattle.edi_pairing.specs.declared.verified.NamedPair.{NamedPair}
use Rattle.edi_pairing.specs.declared.verified.Unpaired.{Unpaired}
use Rattle.edi_pairing.specs.declared.verified.Unpaired.TheVariants.{CharacterSets, Shared, Unlike, Unmet}
use Rattle.edi_pairing.specs.declared.verified.Verified.{Verified}
use Rattle.edi_pairing.specs.declared.verified.Verified.TheVariants.{Carries, Fails}
use Rattle.edi_pairing.specs.declared.fault.WrongLine.{WrongLine}
use Rattle.edi_pairing.specs.declared.fault.PairingFault.{PairingFault}
use Rattle.edi_pairing.specs.declared.fault.PairingFault.TheVariants as pairing_
use Rattle.edi_pairing.specs.declared.fault.VerifyFault.{VerifyFault}
use Rattle.edi_pairing.specs.declared.fault.VerifyFault.TheVariants.{Memory, First, Second, Pairing as OfPairing}

-- the file states the pairing of the records of two sheets, by their names
pub record StatesOf (a b file : List ℕ) (pairing : Pairing) : Type 0 where
  pub names : List RecordName
  pub others : List RecordName
  pub are_names : AreNamesOf a names
  pub are_others : AreNamesOf b others
  pub stated : StatesPairing names others pairing file

-- a file that states a pairing which carries the one plan onto the other; or the line at which the canonical files
-- differ
abbrev pub IsComparedTo : Classes → List ℕ → List ℕ → Compared → Type 0
IsComparedTo s a b (SameBy file) =
    (pairing : Pairing) × IsVerdict s a b (Same pairing) × StatesOf a b file.items pairing
IsComparedTo s a b (DifferentAt line) = IsVerdict s a b (Different line)

-- the line of the record at a place, by the names of both sheets' records: its number, and the names of the record and
-- of the one that it goes to
abbrev pub pair_at : List RecordName → List RecordName → Pairing → ℕ → NamedPair
pair_at a b pairing i = record { at = i + 2; name = name_at a i; partner = name_at b (slice_index pairing.to i) }

-- ---- the plans of two sheets, the names of their records, and a pairing

module _ (s : Classes) (p q : PlanData) (a b : List RecordName) (pairing : Pairing) where
  -- why it doesn't carry, by names
  abbrev pub IsUnpairedBy : Unpaired → Type 0
  IsUnpairedBy CharacterSets = IsUncarriedBy s p q pairing uncarried.CharacterSets
  IsUnpairedBy (Shared pair earlier) = (i k : ℕ) × IsUncarriedBy s p q pairing (uncarried.Record i (wrong.Shared k))
      × (pair ≡ pair_at a b pairing i) × (earlier ≡ pair_at a b pairing k)
  IsUnpairedBy (Unlike pair part) =
      (i : ℕ) × IsUncarriedBy s p q pairing (uncarried.Record i (wrong.Unlike part)) × (pair ≡ pair_at a b pairing i)
  IsUnpairedBy (Unmet name) = (j : ℕ) × IsUncarriedBy s p q pairing (uncarried.Unmet j) × (name ≡ name_at b j)

  -- it carries; or it doesn't, and this is why
  abbrev pub IsVerifyAnswer : Verified → Type 0
  IsVerifyAnswer Carries = PairingCarries s p q pairing
  IsVerifyAnswer (Fails why) = (¬ (PairingCarries s p q pairing)) × IsUnpairedBy why

-- the file states a pairing of the two sheets, and the answer is whether it carries the first plan onto the second, or
-- why it doesn't
pub record IsVerified (s : Classes) (a b file : List ℕ) (answer : Verified) : Type 0 where
  pub plan : PlanData
  pub other : PlanData
  pub pairing : Pairing
  pub is_plan : IsPlanOfFile s a plan
  pub is_other : IsPlanOfFile s b other
  pub states : StatesOf a b file pairing
  pub answers : IsVerifyAnswer s plan other states.names states.others pairing answer

-- the file states no pairing of the two sheets, this is its first wrong line, and this is why
pub record IsFirstWrongOf (a b file : List ℕ) (line : ℕ) (why : WrongLine) : Type 0 where
  pub names : List RecordName
  pub others : List RecordName
  pub are_names : AreNamesOf a names
  pub are_others : AreNamesOf b others
  pub wrong : IsWrongBy names others file line why

-- the refusal of the first sheet, that of the second where the first is accepted, or of the file where both are
abbrev pub IsVerifyRefusal : Classes → List ℕ → List ℕ → List ℕ → VerifyFault → Type 0
IsVerifyRefusal s a b file (Memory e) = ⊤
IsVerifyRefusal s a b file (First f) = IsProper f × IsRefusal s a f
IsVerifyRefusal s a b file (Second f) = IsAccepted s a × IsProper f × IsRefusal s b f
IsVerifyRefusal s a b file (OfPairing at why) = IsAccepted s a × IsAccepted s b × IsFirstWrongOf a b file at why

-- the fault of a pairing's file as one of a check
abbrev pub of_pairing : PairingFault → VerifyFault
of_pairing (pairing_.Memory e) = Memory e
of_pairing (pairing_.Line at why) = OfPairing at why

-- the fault of two sheets as one of a check
abbrev pub of_sheets : CompareFault → VerifyFault
of_sheets (sheets.Memory e) = Memory e
of_sheets (sheets.First f) = First f
of_sheets (sheets.Second f) = Second f
