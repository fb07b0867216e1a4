-- The points that two lists share.
use Rattle.std.proofs.Common.{◌≡◌, ◌≢◌, ℕ, ◌+◌, ◌<◌, ◌≤◌, ◌⊎◌, inl, inr, Bool, true, false, List, length, get_or, refl, sym, ap, ◌∙◌, arith, Ordering, Equal}
use Rattle.std.proofs.lemmas.Bool.{cases_lt}
use Rattle.std.proofs.lemmas.Cmp.{tied_itself}
use Rattle.std.proofs.lemmas.List.{length-reverse}
use Rattle.edi_record.specs.Orders.{point_cmp}
use Rattle.edi_record.specs.declared.record.Point.{Point}
use Rattle.edi_plan.proofs.Orders.{point_exact, point_total}
use Rattle.edi_rank.specs.Same.{directed}

pub length-directed : (backwards : Bool) (points : List Point) → length (directed backwards points) ≡ length points
length-directed true points = length-reverse points
length-directed false points = refl

-- the first n points of both are the same
abbrev pub SharesSoFar : List Point → List Point → ℕ → Type 0
SharesSoFar a b n = (k : ℕ) (d : Point) → k < n → get_or a k d ≡ get_or b k d

-- the next two points are told apart
pub apart : (x y : Point) (order : Ordering) → order ≡ point_cmp x y → (order ≡ Equal → ⊥) → x ≢ y
apart x y order is ne e = ne (is ∙ (ap (λ z. point_cmp z y) e ∙ tied_itself point_total y))

pub one_more : (a b : List Point) (n : ℕ) (x y : Point) (order : Ordering) → ((d : Point) → x ≡ get_or a n d) → ((d : Point) → y ≡ get_or b n d) → order ≡ point_cmp x y → order ≡ Equal
    → SharesSoFar a b n → SharesSoFar a b (n + 1)
one_more a b n x y order here there is equal so_far k d h = go (last_or k n h)
  where
    last_or : (k n : ℕ) → k < n + 1 → (k < n) ⊎ (k ≡ n)
    last_or k n h = by (cases_lt k n)
      where
        by : (k < n) ⊎ (n ≤ k) → (k < n) ⊎ (k ≡ n)
        by (inl less) = inl less
        by (inr more) = inr (omega arith)

    go : (k < n) ⊎ (k ≡ n) → get_or a k d ≡ get_or b k d
    go (inl less) = so_far k d less
    go (inr same) = ap (λ m. get_or a m d) same ∙ (sym (here d) ∙ (point_exact x y (sym is ∙ equal) ∙ (there d ∙ ap (λ m. get_or b m d) (sym same))))
