-- What checking a pairing answers.
use Rattle.std.specs.Prelude.{◌≡◌, ◌⊎◌, ℕ, List, Option, None}
use Rattle.edi_schema.specs.Classes.{Classes}
use Rattle.edi_compare.specs.Rules.{IsAccepted}
use Rattle.edi_pairing.specs.UnpairedText.{unpaired_text}
use Rattle.edi_pairing.specs.Verified.{IsVerified, IsVerifyRefusal}
use Rattle.edi_pairing.specs.WrongLines.{reason_words}
use Rattle.edi_pairing.specs.declared.fault.VerifyFault.{VerifyFault}
use Rattle.edi_pairing.specs.declared.fault.VerifyFault.TheVariants as refused
use Rattle.edi_pairing.specs.declared.verified.Verified.{Verified}
use Rattle.edi_pairing.specs.declared.verified.Verified.TheVariants.{Carries, Fails}
use Rattle.edicad_c.specs.declared.answer.Answer.{Answer}
use Rattle.edicad_c.specs.declared.content.Content.{Content}
use Rattle.edicad_c.specs.Answers.{differs, done, no_memory, sheet_answer, refused_at_line}
use Rattle.edicad_c.specs.Held.{IsGiven}

-- the refusal of two sheets, or of a pairing's file at a line
abbrev pub verify_answer : VerifyFault → Answer
verify_answer (refused.Memory e) = no_memory
verify_answer (refused.First f) = sheet_answer 3 f
verify_answer (refused.Second f) = sheet_answer 4 f
verify_answer (refused.Pairing at why) = refused_at_line 5 0 at

-- nothing where a pairing carries, and else why it doesn't, by the name of its file
abbrev pub IsVerifiedGiven : List ℕ → Verified → Option Content → Answer → Type 0
IsVerifiedGiven name Carries held answer = (held ≡ None) × (answer ≡ done)
IsVerifiedGiven name (Fails why) held answer = IsGiven differs (unpaired_text name why) held answer

-- the refusal of a sheet; or that of the pairing's file, with the reason
abbrev pub IsFaultGiven : VerifyFault → Option Content → Answer → Type 0
IsFaultGiven (refused.Memory e) held answer = (held ≡ None) × (answer ≡ verify_answer (refused.Memory e))
IsFaultGiven (refused.First f) held answer = (held ≡ None) × (answer ≡ verify_answer (refused.First f))
IsFaultGiven (refused.Second f) held answer = (held ≡ None) × (answer ≡ verify_answer (refused.Second f))
IsFaultGiven (refused.Pairing at why) held answer =
    IsGiven (verify_answer (refused.Pairing at why)) (reason_words why) held answer

-- Both sheets are accepted, the file states a pairing of them, and the answer is whether it carries, with the reason if
-- it doesn't; or the answer is the refusal of a sheet or of the file.
abbrev pub IsVerification : Classes → List ℕ → List ℕ → List ℕ → List ℕ → Option Content → Answer → Type 0
IsVerification s a b file name held answer =
    ((verified : Verified) × IsAccepted s a × IsAccepted s b × IsVerified s a b file verified
    × IsVerifiedGiven name verified held answer)
    ⊎ ((f : VerifyFault) × IsVerifyRefusal s a b file f × IsFaultGiven f held answer)
