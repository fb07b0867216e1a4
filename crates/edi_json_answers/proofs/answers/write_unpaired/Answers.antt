use Rattle.std.proofs.Common.{◌≡◌, ◌∙◌, ◌++◌, List, OnOk, ap, codes, subst, ℕ}
use Rattle.json.specs.Tree.{json_tokens}
use Rattle.edi_pairing.specs.UnpairedText.{unpaired_text}
use Rattle.edi_outcome.proofs.Texts.{text_in-texts}
use Rattle.edi_json_answers.specs.Answers.{reasoned_value}
use Rattle.edi_json_answers.proofs.answers.write_unpaired.Goals as goal

pub returns-clause-tokens : goal.returns-clause-tokens
returns-clause-tokens c =
    let named = ap (λ (file : List ℕ). unpaired_text file c.args.why.now) (text_in-texts c.args.names.now 4 _ c.requires) in
    subst (λ (why : List ℕ). OnOk c.write_reasoned.result (c.write_reasoned.new.writer.tokens ≡ c.args.writer.now.tokens ++ json_tokens (reasoned_value (codes "unpaired") why)))
    (c.deref.ensures.value ∙ (c.in_ok-words.ensures ∙ named)) c.write_reasoned.ensures.tokens
