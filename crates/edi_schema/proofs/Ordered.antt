-- Classes go as their names do.
use Rattle.std.proofs.Common.{◌≡◌, ℕ, zero, suc, ◌<◌, List, [], ◌∷◌, Some, slice_get, sym, ap, ◌∙◌, arith, nat_cmp, Less, Equal, Greater, ◌⊎◌, inl, inr}
use Rattle.std.specs.List.{AllByRecursion}
use Rattle.std.specs.Map.{keys_of}
use Rattle.std.specs.Cmp.{IsTotalOrder, nat_cmp_is}
use Rattle.std.specs.Ordering.{ordering_reverse}
use Rattle.std.proofs.lemmas.Cmp.{then_total, on_total, lists_total, nat_cmp_total, tied_itself}
use Rattle.std.proofs.lemmas.Option.{same_Some, none-some}
use Rattle.edi_record.specs.declared.name.Name.{Name}
use Rattle.edi_schema.specs.Sorted.{AlwaysRises}
use Rattle.edi_schema.specs.Classes.{Classes, IsSchema, name_cmp, class_name_at}

pub name_total : IsTotalOrder name_cmp
name_total = then_total (on_total (λ (a : Name). a.rty) (lists_total nat_cmp_total)) (on_total (λ (a : Name). a.rid) (lists_total nat_cmp_total))

pub all_at : {X : Type 0} (P : X → Type 0) (xs : List X) → AllByRecursion P xs → (k : ℕ) (x : X) → slice_get xs k ≡ Some x → P x
all_at P [] all k x h = absurd (none-some x h)
all_at P (y ∷ ys) all zero x h = Rattle.std.proofs.Common.subst P (same_Some y x h) all.0
all_at P (y ∷ ys) all (suc k) x h = all_at P ys all.1 k x h

-- how two numbers compare after one step each
nat_cmp_suc : (a b : ℕ) → nat_cmp (suc a) (suc b) ≡ nat_cmp a b
nat_cmp_suc a b = go (Rattle.std.proofs.lemmas.Bool.cases_order a b)
  where
    go : (a ≡ b) ⊎ ((a < b) ⊎ (b < a)) → nat_cmp (suc a) (suc b) ≡ nat_cmp a b
    go (inl e) = sym (nat_cmp_is (suc a) (suc b) Equal (ap suc e)) ∙ nat_cmp_is a b Equal e
    go (inr (inl l)) = sym (nat_cmp_is (suc a) (suc b) Less (omega arith)) ∙ nat_cmp_is a b Less l
    go (inr (inr l)) = sym (nat_cmp_is (suc a) (suc b) Greater (omega arith)) ∙ nat_cmp_is a b Greater l

ordered : (names : List Name) → AlwaysRises name_cmp names → (a b : ℕ) (m n : Name) → slice_get names a ≡ Some m → slice_get names b ≡ Some n → name_cmp m n ≡ nat_cmp a b
ordered [] up a b m n h g = absurd (none-some m h)
ordered (x ∷ xs) up zero zero m n h g = Rattle.std.proofs.Common.subst (λ k. name_cmp m k ≡ Equal) (sym (same_Some x m h) ∙ same_Some x n g) (tied_itself name_total m)
ordered (x ∷ xs) up zero (suc b) m n h g = rw (sym (same_Some x m h)) (all_at (λ y. name_cmp x y ≡ Less) xs up.0 b n g ∙ nat_cmp_is 0 (suc b) Less (omega arith))
ordered (x ∷ xs) up (suc a) zero m n h g = rw (sym (same_Some x n g)) (name_total.antisymm m x ∙ ap ordering_reverse (all_at (λ y. name_cmp x y ≡ Less) xs up.0 a m h) ∙ nat_cmp_is (suc a) 0 Greater (omega arith))
ordered (x ∷ xs) up (suc a) (suc b) m n h g = ordered xs up.1 a b m n h g ∙ sym (nat_cmp_suc a b)

pub classes_ordered : (s : Classes) → IsSchema s → (a b : ℕ) (m n : Name) → class_name_at s a ≡ Some m → class_name_at s b ≡ Some n → name_cmp m n ≡ nat_cmp a b
classes_ordered s keeps = ordered (keys_of s) keeps.in_order
