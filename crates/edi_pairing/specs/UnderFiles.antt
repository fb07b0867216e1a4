-- What is answered of two sheets under the schema of two files, and of the file of a pairing.
use Rattle.std.specs.Prelude.{ℕ, List, Option, IfSome}
use Rattle.edi_schema.specs.Classes.{Classes}
use Rattle.edi_schema.specs.Roles.{KindCodes}
use Rattle.edi_schema.specs.SchemaRefusal.{IsGoodSchema}
use Rattle.edi_compare.specs.Rules.{IsAccepted}
use Rattle.edi_compare.specs.Runs.{IfFourKnown, IsVerdictOf}
use Rattle.edi_compare.specs.Verdicts.{IsVerdict}
use Rattle.edi_compare.specs.declared.fault.RunFault.{RunFault}
use Rattle.edi_compare.specs.declared.fault.RunFault.TheVariants as run
use Rattle.edi_compare.specs.declared.pairing.Pairing.{Pairing}
use Rattle.edi_compare.specs.declared.pairing.Verdict.TheVariants.{Different, Same}
use Rattle.edi_pairing.specs.Verified.{IsFirstWrongOf, IsVerified, StatesOf}
use Rattle.edi_pairing.specs.declared.fault.WrongLine.{WrongLine}
use Rattle.edi_pairing.specs.declared.fault.VerifyFault.{VerifyFault}
use Rattle.edi_pairing.specs.declared.fault.VerifyFault.TheVariants.{Memory, First, Second, Pairing as PairingRefused}
use Rattle.edi_pairing.specs.declared.fault.VerifyRunFault.{VerifyRunFault}
use Rattle.edi_pairing.specs.declared.fault.VerifyRunFault.TheVariants.{Run, Pairing as OfPairing}
use Rattle.edi_pairing.specs.declared.verified.Verified.{Verified}
use Rattle.edi_pairing.specs.declared.writing.Compared.{Compared}
use Rattle.edi_pairing.specs.declared.writing.Compared.TheVariants.{Same as SameBy, Different as DifferentAt}

-- both sheets are accepted under the schema of the two files and the codes, and the file states a pairing that carries
-- the first plan onto the second
abbrev pub IsPairingFileOf : KindCodes → List ℕ → List ℕ → List ℕ → List ℕ → List ℕ → Type 0
IsPairingFileOf kinds scd dic a b file =
    (s : Classes) × (pairing : Pairing) × IsGoodSchema scd dic kinds s × IsAccepted s a × IsAccepted s b
    × IsVerdict s a b (Same pairing) × StatesOf a b file pairing

-- such a file, or the verdict that the plans are not the same
abbrev pub IsComparedUnder : KindCodes → List ℕ → List ℕ → List ℕ → List ℕ → Compared → Type 0
IsComparedUnder kinds scd dic a b (SameBy file) = IsPairingFileOf kinds scd dic a b file.items
IsComparedUnder kinds scd dic a b (DifferentAt line) = IsVerdictOf kinds scd dic a b (Different line)

-- both sheets are accepted under the schema of the two files and the codes, the file states a pairing of them, and the
-- answer is whether it carries, or why it doesn't
abbrev pub IsVerifiedUnder : KindCodes → List ℕ → List ℕ → List ℕ → List ℕ → List ℕ → Verified → Type 0
IsVerifiedUnder kinds scd dic a b file answer =
    (s : Classes) × IsGoodSchema scd dic kinds s × IsAccepted s a × IsAccepted s b × IsVerified s a b file answer

-- both sheets are accepted, and the file states no pairing of them: its first wrong line, and why it is wrong
abbrev pub RefusesFile : KindCodes → List ℕ → List ℕ → List ℕ → List ℕ → List ℕ → ℕ → WrongLine → Type 0
RefusesFile kinds scd dic a b file at why =
    (s : Classes) × IsGoodSchema scd dic kinds s × IsAccepted s a × IsAccepted s b × IsFirstWrongOf a b file at why

-- a fact for the two kinds of fault
abbrev pub MatchRun : VerifyRunFault → (RunFault → Type 0) → (ℕ → WrongLine → Type 0) → Type 0
MatchRun (Run f) P Q = P f
MatchRun (OfPairing at why) P Q = Q at why

-- the fault of a check as that of a run
abbrev pub of_verify : VerifyFault → VerifyRunFault
of_verify (Memory e) = Run (run.Memory e)
of_verify (First f) = Run (run.First f)
of_verify (Second f) = Run (run.Second f)
of_verify (PairingRefused at why) = OfPairing at why

-- a fact of the contents of five inputs, if they are known
abbrev pub IfFiveKnown : Option (List ℕ) → Option (List ℕ) → Option (List ℕ) → Option (List ℕ) → Option (List ℕ)
    → (List ℕ → List ℕ → List ℕ → List ℕ → List ℕ → Type 0) → Type 0
IfFiveKnown a b c d e P = IfSome e (λ v. IfFourKnown a b c d (λ x y z w. P x y z w v))
