-- Facts that are found by computing.
use Rattle.std.proofs.Common.{◌≡◌, ◌∙◌, sym, ap, refl, ℕ, zero, suc, ◌<◌, Bool, true, false, not, ◌&&◌, ◌||◌, List, [], ◌∷◌, arith, true≢false, eqb-true}
use Rattle.std.specs.List.{AllByRecursion, list_all}
use Rattle.std.specs.Ordering.{is_lt}
use Rattle.std.specs.Prelude.{All, nat_eq, nat_lt, ◌==◌}
use Rattle.std.proofs.lemmas.Bool.{ltb-true, not-true, and_parts}
use Rattle.std.proofs.lemmas.List.Elements.{All-from_recursion}
use Rattle.edi_line.specs.Bytes.{IsBytes}
use Rattle.edi_record.specs.Orders.{points_cmp}
use Rattle.edi_record.specs.declared.record.Point.{Point}

-- ---- facts of each number below another

abbrev pub Below : ℕ → (ℕ → Type 0) → Type 0
Below zero P = Unit {0}
Below (suc n) P = P zero × Below n (λ k. P (suc k))

pub below : (n : ℕ) (P : ℕ → Type 0) → Below n P → (k : ℕ) → k < n → P k
below zero P all k h = absurd (omega (arith, h))
below (suc n) P all zero h = all.0
below (suc n) P all (suc k) h = below n (λ j. P (suc j)) all.1 k (omega (arith, h))

abbrev pub all_below : ℕ → (ℕ → Bool) → Bool
all_below zero test = true
all_below (suc n) test = test zero && all_below n (λ k. test (suc k))

pub true_below : (n : ℕ) (test : ℕ → Bool) → all_below n test ≡ true → (k : ℕ) → k < n → test k ≡ true
true_below zero test e k h = absurd (omega (arith, h))
true_below (suc n) test e zero h = (and_parts _ _ e).0
true_below (suc n) test e (suc k) h = true_below n (λ j. test (suc j)) (and_parts _ _ e).1 k (omega (arith, h))

-- the only one that passes
pub only_one : (n : ℕ) (test : ℕ → Bool) (one : ℕ) → all_below n (λ k. not (test k) || nat_eq k one) ≡ true → (k : ℕ) → k < n → test k ≡ true → k ≡ one
only_one n test one e k h passes = go (test k) passes (true_below n (λ j. not (test j) || nat_eq j one) e k h)
  where
    go : (b : Bool) → b ≡ true → not b || nat_eq k one ≡ true → k ≡ one
    go true p q = eqb-true k one q
    go false p q = absurd (true≢false (sym p))

-- ---- facts of each element

pub all_said : {X : Type 0} (P : X → Type 0) (test : X → Bool) → ((x : X) → test x ≡ true → P x) → (xs : List X) → list_all test xs ≡ true → AllByRecursion P xs
all_said P test say [] e = tt
all_said P test say (x ∷ xs) e = let both = and_parts (test x) (list_all test xs) e in (say x both.0, all_said P test say xs both.1)

-- the same of two answers
abbrev pub is_same : Bool → Bool → Bool
is_same true b = b
is_same false b = not b

pub same_said : (a b : Bool) → is_same a b ≡ true → a ≡ b
same_said true true e = refl
same_said true false e = absurd (true≢false (sym e))
same_said false true e = absurd (true≢false (sym e))
same_said false false e = refl

-- a text without a byte
abbrev pub has_none : ℕ → List ℕ → Bool
has_none byte text = list_all (λ c. not (c == byte)) text

pub none_is : (byte : ℕ) (text : List ℕ) → has_none byte text ≡ true → All (λ c. (c == byte) ≡ false) text
none_is byte text e =
    All-from_recursion (λ c. (c == byte) ≡ false) text (all_said (λ c. (c == byte) ≡ false) (λ c. not (c == byte)) (λ c h. not-true (c == byte) h) text e)

pub bytes_of : (xs : List ℕ) → list_all (λ x. nat_lt x 256) xs ≡ true → IsBytes xs
bytes_of xs e = All-from_recursion (λ x. x < 256) xs (all_said (λ x. x < 256) (λ x. nat_lt x 256) (λ x h. ltb-true x 256 h) xs e)

-- two lists of points differ, as their order says
pub points_differ : (a b : List Point) → is_lt (points_cmp a b) ≡ true → is_lt (points_cmp b b) ≡ false → a ≡ b → ⊥
points_differ a b less same e = true≢false (sym less ∙ (ap (λ x. is_lt (points_cmp x b)) e ∙ same))
