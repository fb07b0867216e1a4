use Rattle.std.proofs.Common.{◌≡◌, ◌≢◌, ◌∙◌, ◌∷◌, List, ℕ, [], Option, Bor, ap, arith, length, subst}
use Rattle.std.specs.Prelude.{MatchOption, unwrap_or}
use Rattle.clap.specs.Words.{found_of}
use Rattle.clap.proofs.WalkLemmas.{raw_values-rows}
use Rattle.edi_words.proofs.words.only_path.Goals as goal

pub returns-in-Some : goal.returns-in-Some
returns-in-Some c =
    subst (λ (vs : List (List ℕ)). MatchOption c.only_of.result (length vs ≢ 1) (λ (path : Bor (List ℕ)). vs ≡ path.now ∷ []))
    (ap (λ (o : Option (List (List ℕ))). unwrap_or o []) (c.in-Some.ensures ∙ raw_values-rows (found_of c.args.given.now) _)) c.only_of.ensures

pub returns-in-None : goal.returns-in-None
returns-in-None c =
    subst (λ (vs : List (List ℕ)). length vs ≢ 1)
    (ap (λ (o : Option (List (List ℕ))). unwrap_or o []) (c.in-None.ensures ∙ raw_values-rows (found_of c.args.given.now) _)) (λ e. absurd (omega (arith, e)))
