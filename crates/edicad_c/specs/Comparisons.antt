-- What comparing two sheets answers.
use Rattle.std.specs.Prelude.{◌≡◌, ◌⊎◌, ℕ, List}
use Rattle.edi_schema.specs.Classes.{Classes}
use Rattle.edi_compare.specs.Refused.{IsPairRefusal}
use Rattle.edi_compare.specs.Rules.{IsAccepted}
use Rattle.edi_compare.specs.Verdicts.{IsVerdict}
use Rattle.edi_compare.specs.declared.fault.CompareFault.{CompareFault}
use Rattle.edi_compare.specs.declared.pairing.Verdict.{Verdict}
use Rattle.edicad_c.specs.declared.answer.Answer.{Answer}
use Rattle.edicad_c.specs.Answers.{pair_answer, verdict_answer}

-- the answer is the refusal that comparing gives, or that memory ran out
abbrev pub RefusesPair : Classes → List ℕ → List ℕ → Answer → Type 0
RefusesPair s a b answer = (f : CompareFault) × IsPairRefusal s a b f × (answer ≡ pair_answer f)

-- both sheets are accepted, and the answer is the verdict on them; or it is the refusal
abbrev pub IsComparison : Classes → List ℕ → List ℕ → Answer → Type 0
IsComparison s a b answer =
    ((verdict : Verdict) × IsAccepted s a × IsAccepted s b × IsVerdict s a b verdict
    × (answer ≡ verdict_answer verdict))
    ⊎ RefusesPair s a b answer
