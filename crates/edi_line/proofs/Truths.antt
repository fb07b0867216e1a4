-- What tests, orders and what may be lacking say.
use Rattle.std.proofs.Common.{◌≡◌, Bool, true, false, not, ◌||◌, Ordering, Less, Equal, Greater, is_eq, is_gt, is_lt, true≢false, refl, sym}
use Rattle.std.specs.Prelude.{None, Option, Some, is_some}
use Rattle.std.specs.Ordering.{ordering_then}

pub or_false : (b : Bool) → (b || false) ≡ b
or_false true = refl
or_false false = refl

pub or_true : (b : Bool) → (b || true) ≡ true
or_true true = refl
or_true false = refl

pub or_assoc : (a b c : Bool) → ((a || b) || c) ≡ (a || (b || c))
or_assoc true b c = refl
or_assoc false b c = refl

pub not-not : (b : Bool) → not (not b) ≡ b
not-not true = refl
not-not false = refl

pub some_is : {X : Type 0} (o : Option X) → is_some o ≡ true → (x : X) × (o ≡ Some x)
some_is None h = absurd (true≢false (sym h))
some_is (Some x) h = (x, refl)

pub none_is : {X : Type 0} (o : Option X) → is_some o ≡ false → o ≡ None
none_is None h = refl
none_is (Some x) h = absurd (true≢false h)

pub equal_is : (o : Ordering) → is_eq o ≡ true → o ≡ Equal
equal_is Less e = absurd (true≢false (sym e))
equal_is Equal e = refl
equal_is Greater e = absurd (true≢false (sym e))

pub less_is : (o : Ordering) → is_lt o ≡ true → o ≡ Less
less_is Less e = refl
less_is Equal e = absurd (true≢false (sym e))
less_is Greater e = absurd (true≢false (sym e))

-- orders of which the second counts where the first is equal
pub first_tied : (o p : Ordering) → ordering_then o p ≡ Equal → o ≡ Equal
first_tied Less p h = h
first_tied Equal p h = refl
first_tied Greater p h = h

pub then_tied : (o p : Ordering) → ordering_then o p ≡ Equal → p ≡ Equal
then_tied Less p h = cc
then_tied Equal p h = h
then_tied Greater p h = cc

pub first_not_less : (o p : Ordering) → is_lt (ordering_then o p) ≡ false → is_lt o ≡ false
first_not_less Less p e = e
first_not_less Equal p e = refl
first_not_less Greater p e = refl

pub first_not_greater : (o p : Ordering) → is_gt (ordering_then o p) ≡ false → is_gt o ≡ false
first_not_greater Less p e = refl
first_not_greater Equal p e = refl
first_not_greater Greater p e = e
