use Rattle.std.proofs.Common.{◌∙◌, List, ℕ, [], Option, ap}
use Rattle.std.specs.Prelude.{unwrap_or}
use Rattle.clap.specs.Words.{found_of}
use Rattle.clap.proofs.WalkLemmas.{raw_values-rows}
use Rattle.edi_words.specs.Requests.{standard_in}
use Rattle.edi_words.proofs.words.count_standard_at.Goals as goal

pub returns-in-Some-clause-value : goal.returns-in-Some-clause-value
returns-in-Some-clause-value c =
    c.count_standard.ensures.value
    ∙ ap (λ (o : Option (List (List ℕ))). standard_in (unwrap_or o [])) (c.in-Some.ensures ∙ raw_values-rows (found_of c.args.given.now) c.args.name.now)

pub returns-in-None-clause-value : goal.returns-in-None-clause-value
returns-in-None-clause-value c =
    ap (λ (o : Option (List (List ℕ))). standard_in (unwrap_or o [])) (c.in-None.ensures ∙ raw_values-rows (found_of c.args.given.now) c.args.name.now)
