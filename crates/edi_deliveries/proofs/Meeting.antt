-- Paths of which one meets FILE, or none.
use Rattle.std.proofs.Common.{◌≡◌, ◌∙◌, ℕ, zero, suc, ◌+◌, ◌<◌, List, [], ◌∷◌, ◌++◌, ap, arith, get_or, length, map, refl, sym, take}
use Rattle.std.specs.Prelude.{Any}
use Rattle.edi_line.proofs.EachElement.{any_later}
use Rattle.edi_deliveries.proofs.Lines.{map_push}
use Rattle.edi_deliveries.proofs.Steps.{take_at}

-- one of those that are made of a list
pub any_at : {X : Type 0} (f : X → List ℕ) (P : List ℕ → Type 0) (xs : List X) (i : ℕ) (d : X) → i < length xs → P (f (get_or xs i d)) → Any P (map f xs)
any_at f P [] i d short h = absurd (omega (arith, short))
any_at f P (x ∷ xs) zero d short h = (0, f x, omega arith, refl, h)
any_at f P (x ∷ xs) (suc i) d short h = any_later P (f x) (map f xs) (any_at f P xs i d (omega (arith, short)) h)

-- one path more
pub path_more : {X : Type 0} (f : X → List ℕ) (before first : List ℕ) (xs : List X) (i : ℕ) (x : X) (paths more : List (List ℕ)) (path : List ℕ)
    → i < length xs → x ≡ get_or xs i x → paths ≡ first ∷ map (λ y. before ++ f y) (take i xs) → path ≡ before ++ f x → more ≡ paths ++ path ∷ []
    → more ≡ first ∷ map (λ y. before ++ f y) (take (i + 1) xs)
path_more f before first xs i x paths more path short is so_far here added =
    added ∙ (ap (λ l. l ++ path ∷ []) so_far ∙ (ap (λ p. first ∷ (map (λ y. before ++ f y) (take i xs) ++ p ∷ [])) (here ∙ ap (λ y. before ++ f y) is)
    ∙ sym (ap (λ l. first ∷ l) (ap (map (λ y. before ++ f y)) (take_at xs i x short) ∙ map_push (λ y. before ++ f y) (take i xs) (get_or xs i x)))))

pub map_of : {X : Type 0} (f : X → List ℕ) (before : List ℕ) (xs : List X) → map (λ y. before ++ f y) xs ≡ map (λ name. before ++ name) (map f xs)
map_of f before [] = refl
map_of f before (x ∷ xs) = ap (λ l. (before ++ f x) ∷ l) (map_of f before xs)
