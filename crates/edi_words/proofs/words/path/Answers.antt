use Rattle.std.proofs.Common.{◌≡◌, ◌∙◌, ℕ, List, [], Option, Some, None, option_map, refl, ap, Bor}
use Rattle.std.specs.Prelude.{unwrap_or}
use Rattle.clap.specs.Words.{found_of}
use Rattle.clap.proofs.WalkLemmas.{first_value-rows}
use Rattle.edi_words.proofs.words.path.Goals as goal

text_of : (o : Option (Bor (List ℕ))) (none : Bor (List ℕ)) → none.now ≡ [] → (unwrap_or o none).now ≡ unwrap_or (option_map (λ s. s.now) o) []
text_of None none e = e
text_of (Some s) none e = refl

pub returns : goal.returns
returns c =
    ap (λ (t : Bor (List ℕ)). t.now) c.unwrap_or.ensures ∙ text_of c.get_str.result _ refl
    ∙ ap (λ (t : Option (List ℕ)). unwrap_or t []) (c.get_str.ensures ∙ first_value-rows (found_of c.args.given.now) c.args.name.now)
