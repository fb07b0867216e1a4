-- What is said under the schema that a handle holds.
use Rattle.std.proofs.Common.{◌≡◌, Option, Some, None, subst, sym}
use Rattle.edi_schema.specs.Classes.{Classes}
use Rattle.edicad_c.specs.Answers.{wrong_call}
use Rattle.edicad_c.specs.declared.answer.Answer.{Answer}
use Rattle.edicad_c.specs.declared.content.Content.{Content}
use Rattle.edicad_c.specs.declared.content.Content.TheVariants.{Schema, Bytes, Pairs}
use Rattle.edicad_c.specs.declared.given.Given.{Given}
use Rattle.edicad_c.specs.Held.{IsAnsweredUnder, IsGivenUnder, IsWrongCall, MatchSchema, in_box}

-- what follows from an answer on each schema follows from that on the handle's
pub answer_means : (Answers Means : Classes → Answer → Type 0) (held : Option Content) (answer : Answer) → IsAnsweredUnder Answers held answer
    → ((s : Classes) → Answers s answer → Means s answer) → MatchSchema held (λ s. Means s answer) (answer ≡ wrong_call)
answer_means Answers Means (Some (Schema s)) answer h means = means s h.under
answer_means Answers Means (Some (Bytes v)) answer h means = h.under
answer_means Answers Means (Some (Pairs v)) answer h means = h.under
answer_means Answers Means None answer h means = h.under

-- the same of what is given
pub given_means : (Gives : Classes → Given → Type 0) (Means : Classes → Option Content → Answer → Type 0) (held out : Option Content) (answer : Answer) → IsGivenUnder Gives held out answer
    → ((s : Classes) (given : Given) → Gives s given → Means s (in_box given.content) given.answer) → MatchSchema held (λ s. Means s out answer) (IsWrongCall out answer)
given_means Gives Means (Some (Schema s)) out answer h means =
    let given = h.under.0 in
    subst (λ (o : Option Content). Means s o answer) (sym h.under.2) (subst (λ (a : Answer). Means s (in_box given.content) a) (sym h.under.3) (means s given h.under.1))
given_means Gives Means (Some (Bytes v)) out answer h means = h.under
given_means Gives Means (Some (Pairs v)) out answer h means = h.under
given_means Gives Means None out answer h means = h.under
