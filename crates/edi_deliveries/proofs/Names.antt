-- What stands before a space.
use Rattle.std.proofs.Common.{◌≡◌, ◌≢◌, ◌∙◌, ℕ, Bool, cond, List, [], ◌∷◌, ◌++◌, ap, refl}
use Rattle.std.specs.List.{AllByRecursion}
use Rattle.std.proofs.lemmas.Bool.{ne_eqb}
use Rattle.edi_deliveries.specs.Checks.{name_part_of}

pub name_cut : (name rest : List ℕ) → AllByRecursion (λ c. c ≢ 32) name → name_part_of (name ++ 32 ∷ rest) ≡ name
name_cut [] rest h = refl
name_cut (c ∷ cs) rest h = ap (λ (b : Bool). cond b [] (c ∷ name_part_of (cs ++ 32 ∷ rest))) (ne_eqb c 32 h.0) ∙ ap (λ l. c ∷ l) (name_cut cs rest h.1)

pub name_whole : (name : List ℕ) → AllByRecursion (λ c. c ≢ 32) name → name_part_of name ≡ name
name_whole [] h = refl
name_whole (c ∷ cs) h = ap (λ (b : Bool). cond b [] (c ∷ name_part_of cs)) (ne_eqb c 32 h.0) ∙ ap (λ l. c ∷ l) (name_whole cs h.1)
