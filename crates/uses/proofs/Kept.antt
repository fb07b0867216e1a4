-- Loops that keep those places which pass a test.
use Rattle.std.proofs.Common.{◌≡◌, ◌∙◌, ◌+◌, ◌++◌, ◌∷◌, [], ◌<◌, ℕ, Bool, true, false, List, ap, append-nil, cond, filter, get_or, length, sym, take}
use Rattle.std.proofs.lemmas.List.Elements.{filter_more}

-- one more is kept
pub one_kept : (test : ℕ → Bool) (xs : List ℕ) (i : ℕ) (old new : List ℕ) → i < length xs → test (get_or xs i 0) ≡ true → old ≡ filter test (take i xs)
    → new ≡ old ++ get_or xs i 0 ∷ [] → new ≡ filter test (take (i + 1) xs)
one_kept test xs i old new less passes done pushed =
    pushed ∙ (ap (λ (ys : List ℕ). ys ++ get_or xs i 0 ∷ []) done
    ∙ (ap (λ b. filter test (take i xs) ++ cond b (get_or xs i 0 ∷ []) []) (sym passes) ∙ sym (filter_more test xs i 0 less)))

-- one more is left out
pub one_left : (test : ℕ → Bool) (xs : List ℕ) (i : ℕ) (old : List ℕ) → i < length xs → test (get_or xs i 0) ≡ false → old ≡ filter test (take i xs)
    → old ≡ filter test (take (i + 1) xs)
one_left test xs i old less fails done =
    done ∙ (sym (append-nil (filter test (take i xs)))
    ∙ (ap (λ b. filter test (take i xs) ++ cond b (get_or xs i 0 ∷ []) []) (sym fails) ∙ sym (filter_more test xs i 0 less)))
