-- A canonical file on its way, whose front another file shares.
use Rattle.std.proofs.Common.{◌≡◌, ℕ, ◌+◌, ◌-◌, List, ◌++◌, length, take, drop, sym, ap, ◌∙◌, append_assoc}
use Rattle.std.proofs.lemmas.List.{take_rest}
use Rattle.std.proofs.Math.Seq.{take-add, take-append_seam}

-- what a file goes on with is more of its front
pub shared : (other file more : List ℕ) (front : ℕ) → take (length other - front) (drop front other) ≡ file ++ more → take (front + length file) other ≡ take front other ++ file
shared other file more front is =
    take-add front (length file) other
    ∙ ap (λ x. take front other ++ x) (ap (take (length file)) (sym (take_rest other front) ∙ is) ∙ take-append_seam file more)

-- what is written on the page is written behind the front
pub on_page : (front old new more : List ℕ) → new ≡ old ++ more → front ++ new ≡ (front ++ old) ++ more
on_page front old new more is = ap (λ x. front ++ x) is ∙ sym (append_assoc front old more)
