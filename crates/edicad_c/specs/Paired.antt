-- What pairing two sheets answers.
use Rattle.std.specs.Prelude.{◌≡◌, ◌⊎◌, ℕ, List, Option, None}
use Rattle.edi_schema.specs.Classes.{Classes}
use Rattle.edi_compare.specs.Rules.{IsAccepted}
use Rattle.edi_pairing.specs.Verified.{IsComparedTo}
use Rattle.edi_pairing.specs.declared.writing.Compared.{Compared}
use Rattle.edi_pairing.specs.declared.writing.Compared.TheVariants.{Same, Different}
use Rattle.edicad_c.specs.declared.answer.Answer.{Answer}
use Rattle.edicad_c.specs.declared.content.Content.{Content}
use Rattle.edicad_c.specs.Answers.{differs_at, done}
use Rattle.edicad_c.specs.Held.{IsGiven}
use Rattle.edicad_c.specs.Comparisons.{RefusesPair}

-- the file of a pairing; or an empty handle, and the line at which the canonical files differ
abbrev pub IsComparedGiven : Compared → Option Content → Answer → Type 0
IsComparedGiven (Same file) held answer = IsGiven done file.items held answer
IsComparedGiven (Different line) held answer = (held ≡ None) × (answer ≡ differs_at line)

-- Both sheets are accepted, and the handle holds a file that states a pairing which carries the first plan onto the
-- second, or there is none; or the answer is the refusal, and the handle is empty.
abbrev pub IsPairingGiven : Classes → List ℕ → List ℕ → Option Content → Answer → Type 0
IsPairingGiven s a b held answer =
    ((compared : Compared) × IsAccepted s a × IsAccepted s b × IsComparedTo s a b compared
    × IsComparedGiven compared held answer)
    ⊎ ((held ≡ None) × RefusesPair s a b answer)
