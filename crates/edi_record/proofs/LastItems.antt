-- The last item of a list, and those in front of it.
use Rattle.std.proofs.Common.{◌≡◌, ℕ, zero, suc, ◌+◌, ◌<◌, ◌==◌, Bool, true, false, not, is_some, refl, sym, ap, ◌∙◌, List, [], ◌∷◌, ◌++◌, length, Some, None, option_to_list, slice_index_or, slice_set, arith}
use Rattle.std.proofs.lemmas.Bool.Decides.{nat_tests}
use Rattle.edi_line.specs.inner.ZoneLists.{all_but_last, last_if_any, open_of}
use Rattle.edi_line.proofs.ZoneLists.{all_zones, done_opened, open_opened, done_lengthened}

-- of a list with one item more
pub front_pushed : {X : Type 0} (xs ys : List X) (x : X) → ys ≡ xs ++ x ∷ [] → all_but_last ys ≡ xs
front_pushed xs ys x e = done_opened false xs ys x refl e

pub last_pushed : {X : Type 0} (xs ys : List X) (x : X) → ys ≡ xs ++ x ∷ [] → last_if_any ys ≡ Some x
last_pushed xs ys x e = open_opened xs ys x e

pub last_at : {X : Type 0} (xs : List X) (n : ℕ) (d : X) → n + 1 ≡ length xs → last_if_any xs ≡ Some (slice_index_or xs n d)
last_at [] n d e = absurd (omega arith)
last_at (x ∷ []) zero d e = refl
last_at (x ∷ []) (suc n) d e = absurd (omega arith)
last_at (x ∷ (y ∷ ys)) zero d e = absurd (omega arith)
last_at (x ∷ (y ∷ ys)) (suc n) d e = last_at (y ∷ ys) n d (omega arith)

-- of a list whose last item is replaced
pub front_replaced : {X : Type 0} (xs : List X) (n : ℕ) (v : X) → n + 1 ≡ length xs → all_but_last (slice_set xs n v) ≡ all_but_last xs
front_replaced xs n v e = done_lengthened true xs n v refl e

pub last_replaced : {X : Type 0} (xs : List X) (n : ℕ) (v : X) → n + 1 ≡ length xs → last_if_any (slice_set xs n v) ≡ Some v
last_replaced [] n v e = absurd (omega arith)
last_replaced (x ∷ []) zero v e = refl
last_replaced (x ∷ []) (suc n) v e = absurd (omega arith)
last_replaced (x ∷ (y ∷ ys)) zero v e = absurd (omega arith)
last_replaced (x ∷ (y ∷ [])) (suc zero) v e = refl
last_replaced (x ∷ (y ∷ [])) (suc (suc n)) v e = absurd (omega arith)
last_replaced (x ∷ (y ∷ (z ∷ zs))) (suc zero) v e = absurd (omega arith)
last_replaced (x ∷ (y ∷ (z ∷ zs))) (suc (suc n)) v e = last_replaced (y ∷ (z ∷ zs)) (suc n) v (omega arith)

pub replaced : {X : Type 0} (xs : List X) (n : ℕ) (v : X) → n + 1 ≡ length xs → slice_set xs n v ≡ all_but_last xs ++ v ∷ []
replaced xs n v e =
    all_zones true (slice_set xs n v)
    ∙ ap (λ l. l ++ option_to_list (last_if_any (slice_set xs n v))) (front_replaced xs n v e)
    ∙ ap (λ o. all_but_last xs ++ option_to_list o) (last_replaced xs n v e)

last_of_some : {X : Type 0} (x : X) (xs : List X) → is_some (last_if_any (x ∷ xs)) ≡ true
last_of_some x [] = refl
last_of_some x (y ∷ ys) = last_of_some y ys

-- a list that isn't empty has one
pub has_last : {X : Type 0} (xs : List X) (n : ℕ) (is_empty : Bool) → n ≡ length xs → is_empty ≡ (n == 0) → not is_empty ≡ is_some (last_if_any xs)
has_last [] n is_empty same e = ap not (e ∙ ap (λ n. n == 0) same)
has_last (x ∷ xs) n is_empty same e = ap not (e ∙ ap (λ n. n == 0) same ∙ not_none) ∙ sym (last_of_some x xs)
  where
    not_none : (length (x ∷ xs) == 0) ≡ false
    not_none = grind (arith, nat_tests)

-- ---- where the last item is open

pub none_open : {X : Type 0} (is_open : Bool) (xs : List X) (n : ℕ) → n ≡ length xs → (0 < n → false ≡ true) → open_of is_open xs ≡ None
none_open false xs n same none = refl
none_open true [] n same none = refl
none_open true (x ∷ xs) n same none = let wrong = none (omega (arith, same)) in absurd cc

pub open_is : {X : Type 0} (is_open : Bool) (xs : List X) (n : ℕ) (o : X) → is_open ≡ true → n + 1 ≡ length xs → o ≡ slice_index_or xs n o → open_of is_open xs ≡ Some o
open_is true xs n o is e at = last_at xs n o e ∙ ap (λ x. Some x) (sym at)
open_is false xs n o is e at = absurd cc

pub open_replaced : {X : Type 0} (is_open : Bool) (xs : List X) (n : ℕ) (v : X) → is_open ≡ true → n + 1 ≡ length xs → open_of is_open (slice_set xs n v) ≡ Some v
open_replaced true xs n v is e = last_replaced xs n v e
open_replaced false xs n v is e = absurd cc

pub open_if_some : {X : Type 0} (is_open : Bool) (xs : List X) → is_some (open_of is_open xs) ≡ true → is_open ≡ true
open_if_some true xs e = refl
open_if_some false xs e = absurd cc

-- a list of which one is open isn't empty
pub open_has : {X : Type 0} (is_open : Bool) (xs : List X) → is_some (open_of is_open xs) ≡ true → 0 < length xs
open_has true [] e = absurd cc
open_has true (x ∷ xs) e = omega arith
open_has false xs e = absurd cc
