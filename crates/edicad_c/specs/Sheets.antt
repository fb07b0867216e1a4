-- What is answered of a sheet.
use Rattle.std.specs.Prelude.{◌≡◌, ◌⊎◌, ℕ, List, Option, None}
use Rattle.sha2.specs.Sha256.{sha256}
use Rattle.edi_schema.specs.Classes.{Classes}
use Rattle.edi_compare.specs.Headline.{IsFormOf}
use Rattle.edi_compare.specs.Refused.{IsRefusal}
use Rattle.edi_compare.specs.Rules.{IsAccepted}
use Rattle.edi_compare.specs.declared.fault.Fault.{Fault}
use Rattle.edicad_c.specs.declared.answer.Answer.{Answer}
use Rattle.edicad_c.specs.declared.content.Content.{Content}
use Rattle.edicad_c.specs.Answers.{done, sheet_answer}
use Rattle.edicad_c.specs.Held.{HoldsBytes}

-- the answer is the refusal of the sheet, the input of this number, or that memory ran out
abbrev pub Refuses : Classes → ℕ → List ℕ → Answer → Type 0
Refuses s input sheet answer = (f : Fault) × IsRefusal s sheet f × (answer ≡ sheet_answer input f)

-- the sheet is accepted; or the answer is its refusal
abbrev pub IsCheck : Classes → List ℕ → Answer → Type 0
IsCheck s sheet answer = (IsAccepted s sheet × (answer ≡ done)) ⊎ Refuses s 3 sheet answer

-- the handle holds the canonical file of the sheet; or it is empty, and the answer is the refusal
abbrev pub IsCanonicalFile : Classes → List ℕ → Option Content → Answer → Type 0
IsCanonicalFile s sheet held answer =
    ((c : List ℕ) × IsFormOf s sheet c × HoldsBytes held c × (answer ≡ done))
    ⊎ ((held ≡ None) × Refuses s 3 sheet answer)

-- the room holds the SHA-256 of the canonical file of the sheet; or it is as it was, and the answer is the refusal
abbrev pub IsDigest : Classes → List ℕ → List ℕ → List ℕ → Answer → Type 0
IsDigest s sheet before after answer =
    ((c : List ℕ) × IsFormOf s sheet c × (after ≡ sha256 c) × (answer ≡ done))
    ⊎ ((after ≡ before) × Refuses s 3 sheet answer)
