-- The places of records that are still open, one after the other.
use Rattle.std.proofs.Common.{◌≡◌, ◌∙◌, ℕ, ◌+◌, ◌<◌, Bool, true, false, cond, List, [], ◌∷◌, ◌++◌, map, length, drop, get_or, sym, ap, append_assoc}
use Rattle.std.proofs.lemmas.List.{at_drop_more}
use Rattle.edi_diff.specs.inner.Progress.{places_where}

module _ {X : Type 0} (test : X → Bool) (code : ℕ → ℕ) (xs : List X) (n : ℕ) (d : X) (h : n < length xs) (done new all : List ℕ) (so_far : done ++ map code (places_where test n (drop n xs)) ≡ all) where
  abbrev rest : List ℕ
  rest = places_where test (n + 1) (drop (n + 1) xs)

  step : (b : Bool) → test (get_or xs n d) ≡ b → places_where test n (drop n xs) ≡ cond b (n ∷ rest) rest
  step b e = at_drop_more (places_where test n) xs n d h ∙ ap (λ t. cond t (n ∷ rest) rest) e

  pub place_more : test (get_or xs n d) ≡ true → new ≡ done ++ code n ∷ [] → new ++ map code rest ≡ all
  place_more e is = ap (λ ys. ys ++ map code rest) is ∙ (append_assoc done (code n ∷ []) (map code rest) ∙ (ap (λ ys. done ++ map code ys) (sym (step true e)) ∙ so_far))

  pub place_same : test (get_or xs n d) ≡ false → new ≡ done → new ++ map code rest ≡ all
  place_same e is = ap (λ ys. ys ++ map code rest) is ∙ (ap (λ ys. done ++ map code ys) (sym (step false e)) ∙ so_far)
