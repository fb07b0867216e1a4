-- How keys of links go.
use Rattle.std.proofs.Common.{◌≡◌, ◌≢◌, ◌∙◌, ◌&&◌, ℕ, Bool, true, false, cond, ap, refl, sym, Ordering, List, [], ◌∷◌}
use Rattle.std.specs.Cmp.Lexicographic.{slice_cmp}
use Rattle.std.specs.Ordering.{ordering_then, ordering_reverse}
use Rattle.std.specs.declared.cmp.Ordering.TheVariants.{Less, Equal, Greater}
use Rattle.edi_record.specs.declared.record.Extra.{Extra}
use Rattle.edi_plan.specs.declared.record.PlanAttribute.{PlanAttribute}
use Rattle.edi_schema.specs.Sorted.{insert_sorted, sort_by}
use Rattle.std.specs.Ordering.{is_gt}
use Rattle.edi_rank.specs.contracts.keys.LinkKeyOrd.TheImpl.{ghosts as links}
use Rattle.edi_rank.specs.contracts.keys.LinkKeyOrd.TheImpl.Laws.{total-law}
use Rattle.edi_rank.specs.declared.keys.LinkKey.{LinkKey}
use Rattle.edi_rank.specs.declared.placed_link.PlainPair.{PlainPair}
use Rattle.edi_rank.specs.inner.PlacedLinks.{is_empty, pair_key, rest_cmp}

-- an order that isn't equal decides
pub first_decides : (o p : Ordering) → o ≢ Equal → ordering_then o p ≡ o
first_decides Less p h = refl
first_decides Equal p h = absurd (h refl)
first_decides Greater p h = refl

-- an equal one leaves it to the next
pub next_decides : (o p : Ordering) → o ≡ Equal → ordering_then o p ≡ p
next_decides o p h = ap (λ x. ordering_then x p) h

-- no attributes and no extra zones go with others as these are there or not
pub bare_order : (attributes : PlanAttribute → PlanAttribute → Ordering) (extras : Extra → Extra → Ordering) (xs : List PlanAttribute) (ys : List Extra)
    → rest_cmp (is_empty xs && is_empty ys) ≡ ordering_then (slice_cmp attributes [] xs) (slice_cmp extras [] ys)
bare_order attributes extras [] [] = refl
bare_order attributes extras [] (y ∷ ys) = refl
bare_order attributes extras (x ∷ xs) ys = refl

-- a whole key goes with a pair of its class as the pair with it, the other way round
pub turned_order : (class : ℕ) (key : LinkKey) (pair : PlainPair) → key.class ≡ class → links.cmp key (pair_key class pair) ≡ ordering_reverse (links.cmp (pair_key key.class pair) key)
turned_order class key pair same = ap (λ n. links.cmp key (pair_key n pair)) (sym same) ∙ total-law.antisymm key (pair_key key.class pair)

inserted_there : {X : Type 0} (cmp : X → X → Ordering) (new : X) (xs : List X) → is_empty (insert_sorted cmp new xs) ≡ false
inserted_there cmp new [] = refl
inserted_there cmp new (x ∷ xs) = by (is_gt (cmp new x))
  where
    by : (b : Bool) → is_empty (cond b (x ∷ insert_sorted cmp new xs) (new ∷ x ∷ xs)) ≡ false
    by true = refl
    by false = refl

-- what is sorted is empty exactly if it was
pub sorted_empty : {X : Type 0} (cmp : X → X → Ordering) (xs : List X) → is_empty (sort_by cmp xs) ≡ is_empty xs
sorted_empty cmp [] = refl
sorted_empty cmp (x ∷ xs) = inserted_there cmp x (sort_by cmp xs)
