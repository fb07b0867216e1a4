use Rattle.std.proofs.Common.{◌≡◌, ℕ, ◌+◌, Bool, true, false, cond, List, map, refl, sym, ◌∙◌, arith, Bor, count_by, rules}
use Rattle.std.specs.Prelude.{if◌then◌else◌}
use Rattle.std.proofs.lemmas.List.Recursion.{is_count_by}
use Rattle.edi_words.specs.Requests.{is_standard_path, standard_in}
use Rattle.edi_words.proofs.words.count_standard.Goals as goal

one_more : (b : Bool) (n : ℕ) → (if b then 1 else 0) + n ≡ cond b (1 + n) n
one_more true n = refl
one_more false n = omega arith

counted : (paths : List (Bor (List ℕ))) → standard_in (map (λ (p : Bor (List ℕ)). p.now) paths) ≡ count_by (λ (p : Bor (List ℕ)). is_standard_path p.now) paths
counted = is_count_by (λ (ps : List (Bor (List ℕ))). standard_in (map (λ (p : Bor (List ℕ)). p.now) ps)) (λ (p : Bor (List ℕ)). is_standard_path p.now) refl
    (λ p ps. one_more (is_standard_path p.now) (standard_in (map (λ (q : Bor (List ℕ)). q.now) ps)))

pub returns-clause-value : goal.returns-clause-value
returns-clause-value c =
    let is : c.count.result ≡ count_by (λ (p : Bor (List ℕ)). is_standard_path p.now) c.args.paths.now = search rules in
    is ∙ sym (counted c.args.paths.now)
