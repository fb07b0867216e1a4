-- Spans and extents with one more.
use Rattle.std.proofs.Common.{◌≡◌, ◌⊎◌, inl, inr, List, [], ◌∷◌, ◌++◌, ℤ, Option, Some, None, sym, subst, arith, Contains}
use Rattle.std.specs.Int.Signed.{◌≤ℤ◌}
use Rattle.std.proofs.lemmas.Int.{ints}
use Rattle.std.proofs.lemmas.List.{map-append}
use Rattle.std.proofs.lemmas.List.Elements.{Contains-append_left, Contains-push, Contains-push_cases}
use Rattle.edi_record.specs.declared.record.Point.{Point}
use Rattle.edi_plan.specs.Extents.{IsSpan, IsExtent, IsExtentIfAny, all_x, all_y}
use Rattle.edi_plan.specs.declared.extent.Span.{Span}
use Rattle.edi_plan.specs.declared.extent.Extent.{Extent}

one_of : (numbers : List ℤ) (old n new : ℤ) → Contains numbers old → (new ≡ old) ⊎ (new ≡ n) → Contains (numbers ++ n ∷ []) new
one_of numbers old n new h (inl e) = Contains-append_left numbers (n ∷ []) new (subst (Contains numbers) (sym e) h)
one_of numbers old n new h (inr e) = subst (Contains (numbers ++ n ∷ [])) (sym e) (Contains-push numbers n)

pub more_numbers : (numbers : List ℤ) (s : Span) (n : ℤ) (r : Span) → IsSpan numbers s
    → (r.least ≡ s.least) ⊎ (r.least ≡ n) → r.least ≤ℤ s.least → r.least ≤ℤ n
    → (r.greatest ≡ s.greatest) ⊎ (r.greatest ≡ n) → s.greatest ≤ℤ r.greatest → n ≤ℤ r.greatest → IsSpan (numbers ++ n ∷ []) r
more_numbers numbers s n r h one below_old below_new other above_old above_new = record {
  least = one_of numbers s.least n r.least h.least one;
  greatest = one_of numbers s.greatest n r.greatest h.greatest other;
  above = λ k there. above k (Contains-push_cases numbers n k there);
  below = λ k there. below k (Contains-push_cases numbers n k there);
}
  where
    above : (k : ℤ) → Contains numbers k ⊎ (n ≡ k) → r.least ≤ℤ k
    above k (inl there) = let near = h.above k there in omega (arith, ints)
    above k (inr e) = subst (λ m. r.least ≤ℤ m) e below_new

    below : (k : ℤ) → Contains numbers k ⊎ (n ≡ k) → k ≤ℤ r.greatest
    below k (inl there) = let near = h.below k there in omega (arith, ints)
    below k (inr e) = subst (λ m. m ≤ℤ r.greatest) e above_new

pub more_points : (points : List Point) (q : Point) (r : Extent) → IsSpan (all_x points ++ q.x ∷ []) r.x → IsSpan (all_y points ++ q.y ∷ []) r.y → IsExtent (points ++ q ∷ []) r
more_points points q r x y = record {
  x = subst (λ numbers. IsSpan numbers r.x) (sym (map-append (λ (p : Point). p.x) points (q ∷ []))) x;
  y = subst (λ numbers. IsSpan numbers r.y) (sym (map-append (λ (p : Point). p.y) points (q ∷ []))) y;
}

pub some_extent : (points : List Point) (found : Option Extent) (e : Extent) → found ≡ Some e → IsExtentIfAny points found → IsExtent points e
some_extent points None e is h = absurd cc
some_extent points (Some x) e is h = subst (IsExtent points) (same is) h
  where
    same : Some x ≡ Some e → x ≡ e
    same t = cc
