-- Packed ends go as their types and numbers go.
use Rattle.std.proofs.Common.{◌≡◌, ◌∙◌, ℕ, ◌+◌, ◌*◌, ◌-◌, ◌<◌, ◌≤◌, ◌⊎◌, inl, inr, Bool, true, false, cond, refl, sym, ap, ap₂, arith, nat_cmp, Ordering, Less, Equal, Greater}
use Rattle.std.specs.Prelude.{nat_lt}
use Rattle.std.specs.Cmp.{nat_cmp_is}
use Rattle.std.specs.Ordering.{ordering_then}
use Rattle.std.proofs.lemmas.Bool.{cases_order}
use Rattle.std.proofs.lemmas.Bool.Decides.{nat_tests}
use Rattle.edi_record.specs.Shapes.{kind_rank}
use Rattle.edi_record.specs.declared.record.Kind.{Kind}
use Rattle.edi_record.specs.declared.record.Kind.TheVariants.{Pno, Par, Pfe, Fea, Lnk}
use Rattle.edi_rank.specs.contracts.keys.LinkKeyOrd.TheImpl.{ghosts as links}
use Rattle.edi_rank.specs.contracts.keys.NumberedEndOrd.TheImpl.{ghosts as ends}
use Rattle.edi_rank.specs.contracts.placed_link.PlainPairOrd.TheImpl.{ghosts as pairs}
use Rattle.edi_rank.specs.declared.placed_link.PlainEnd.{PlainEnd}
use Rattle.edi_rank.specs.declared.placed_link.PlainPair.{PlainPair}
use Rattle.edi_rank.specs.inner.PlacedLinks.{unpacked_end, least_packed, packed_kind, pair_key}
use Rattle.edi_rank.proofs.KeyOrders.{end_order}

-- the type of a packed end

chosen : {X : Type 0} (P : X → Type 0) (b : Bool) (x y : X) → (b ≡ true → P x) → (b ≡ false → P y) → P (cond b x y)
chosen P true x y on off = on refl
chosen P false x y on off = off refl

less : (m n : ℕ) → nat_lt m n ≡ true → m < n
less m n h = grind (arith, nat_tests)

not_less : (m n : ℕ) → nat_lt m n ≡ false → n ≤ m
not_less m n h = grind (arith, nat_tests)

-- a packed end is of its type, whose packed ends begin at the least
record IsOfType (n : ℕ) (kind : Kind) : Type 0 where
  above : least_packed kind ≤ n
  below : kind_rank kind < 4 → n < least_packed kind + 16777216

of_type : (n : ℕ) → IsOfType n (packed_kind n)
of_type n =
    chosen (IsOfType n) (nat_lt n 16777216) Pno (cond (nat_lt n 33554432) Par (cond (nat_lt n 50331648) Pfe (cond (nat_lt n 67108864) Fea Lnk)))
    (λ h. let under = less n 16777216 h in record { above = omega arith; below = λ _. omega (arith, under) })
    (λ a. let arcs = not_less n 16777216 a in chosen (IsOfType n) (nat_lt n 33554432) Par (cond (nat_lt n 50331648) Pfe (cond (nat_lt n 67108864) Fea Lnk))
    (λ h. let under = less n 33554432 h in record { above = arcs; below = λ _. omega (arith, under) })
    (λ b. let faces = not_less n 33554432 b in chosen (IsOfType n) (nat_lt n 50331648) Pfe (cond (nat_lt n 67108864) Fea Lnk)
    (λ h. let under = less n 50331648 h in record { above = faces; below = λ _. omega (arith, under) })
    (λ c. let objects = not_less n 50331648 c in chosen (IsOfType n) (nat_lt n 67108864) Fea Lnk
    (λ h. let under = less n 67108864 h in record { above = objects; below = λ _. omega (arith, under) })
    (λ d. let rest = not_less n 67108864 d in record { above = rest; below = λ h. absurd (omega (arith, h)) }))))

pub packed_in_type : (n : ℕ) → least_packed (packed_kind n) ≤ n
packed_in_type n = (of_type n).above

-- what is packed of a type and a number is of this type
pub packed_type : (kind : Kind) (number : ℕ) → number < 16777216 → packed_kind (least_packed kind + number) ≡ kind
packed_type Pno number h = grind (arith, nat_tests)
packed_type Par number h = grind (arith, nat_tests)
packed_type Pfe number h = grind (arith, nat_tests)
packed_type Fea number h = grind (arith, nat_tests)
packed_type Lnk number h = grind (arith, nat_tests)

-- the order of packed ends

least_by_rank : (kind : Kind) → least_packed kind ≡ kind_rank kind * 16777216
least_by_rank Pno = refl
least_by_rank Par = refl
least_by_rank Pfe = refl
least_by_rank Fea = refl
least_by_rank Lnk = refl

last_rank : (kind : Kind) → kind_rank kind ≤ 4
last_rank Pno = omega arith
last_rank Par = omega arith
last_rank Pfe = omega arith
last_rank Fea = omega arith
last_rank Lnk = omega arith

module _ (m n : ℕ) (k l : Kind) (first : IsOfType m k) (second : IsOfType n l) where
  own_order : kind_rank k ≡ kind_rank l → nat_cmp m n ≡ nat_cmp (m - least_packed k) (n - least_packed l)
  own_order same = go (cases_order m n)
    where
      go : (m ≡ n) ⊎ ((m < n) ⊎ (n < m)) → nat_cmp m n ≡ nat_cmp (m - least_packed k) (n - least_packed l)
      go (inl e) = sym (nat_cmp_is m n Equal e)
          ∙ nat_cmp_is (m - least_packed k) (n - least_packed l) Equal (omega (arith, e, same, least_by_rank k, least_by_rank l, first.above, second.above))
      go (inr (inl h)) = sym (nat_cmp_is m n Less h)
          ∙ nat_cmp_is (m - least_packed k) (n - least_packed l) Less (omega (arith, h, same, least_by_rank k, least_by_rank l, first.above, second.above))
      go (inr (inr h)) = sym (nat_cmp_is m n Greater h)
          ∙ nat_cmp_is (m - least_packed k) (n - least_packed l) Greater (omega (arith, h, same, least_by_rank k, least_by_rank l, first.above, second.above))

  order_in_parts : nat_cmp m n ≡ ordering_then (nat_cmp (kind_rank k) (kind_rank l)) (nat_cmp (m - least_packed k) (n - least_packed l))
  order_in_parts = go (cases_order (kind_rank k) (kind_rank l))
    where
      rest : Ordering
      rest = nat_cmp (m - least_packed k) (n - least_packed l)

      go : (kind_rank k ≡ kind_rank l) ⊎ ((kind_rank k < kind_rank l) ⊎ (kind_rank l < kind_rank k)) → nat_cmp m n ≡ ordering_then (nat_cmp (kind_rank k) (kind_rank l)) rest
      go (inl e) = own_order e ∙ ap (λ o. ordering_then o rest) (nat_cmp_is (kind_rank k) (kind_rank l) Equal e)
      go (inr (inl h)) =
          let under = first.below (omega (arith, h, last_rank l)) in
          sym (nat_cmp_is m n Less (omega (arith, h, under, least_by_rank k, least_by_rank l, second.above)))
          ∙ ap (λ o. ordering_then o rest) (nat_cmp_is (kind_rank k) (kind_rank l) Less h)
      go (inr (inr h)) =
          let under = second.below (omega (arith, h, last_rank k)) in
          sym (nat_cmp_is m n Greater (omega (arith, h, under, least_by_rank k, least_by_rank l, first.above)))
          ∙ ap (λ o. ordering_then o rest) (nat_cmp_is (kind_rank k) (kind_rank l) Greater h)

then_none : (o : Ordering) → o ≡ ordering_then o Equal
then_none Less = refl
then_none Equal = refl
then_none Greater = refl

end_by_end : (a b : PlainEnd) → nat_cmp a.packed b.packed ≡ ends.cmp (unpacked_end a) (unpacked_end b)
end_by_end a b =
    order_in_parts a.packed b.packed (packed_kind a.packed) (packed_kind b.packed) (of_type a.packed) (of_type b.packed)
    ∙ (ap (ordering_then (nat_cmp (kind_rank (packed_kind a.packed)) (kind_rank (packed_kind b.packed)))) (then_none _)
    ∙ sym (end_order (unpacked_end a) (unpacked_end b)))

two_then : (o p : Ordering) → ordering_then o p ≡ ordering_then (ordering_then o (ordering_then p Equal)) Equal
two_then Less p = refl
two_then Equal Less = refl
two_then Equal Equal = refl
two_then Equal Greater = refl
two_then Greater p = refl

pub pair_order : (class : ℕ) (a b : PlainPair) → pairs.cmp a b ≡ links.cmp (pair_key class a) (pair_key class b)
pair_order class a b =
    ap₂ ordering_then (end_by_end a.origin b.origin) (end_by_end a.other b.other)
    ∙ (two_then _ _
    ∙ ap (λ o. ordering_then o (ordering_then (ordering_then (ends.cmp (unpacked_end a.origin) (unpacked_end b.origin)) (ordering_then (ends.cmp (unpacked_end a.other) (unpacked_end b.other)) Equal)) Equal))
    (nat_cmp_is class class Equal refl))
