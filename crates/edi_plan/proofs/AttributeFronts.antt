-- Of two attributes of one class, the one with the lesser front comes first.
use Rattle.std.proofs.Common.{◌≡◌, ℕ, zero, suc, ◌+◌, ◌-◌, ◌*◌, ◌^◌, ◌<◌, true, false, List, [], ◌∷◌, drop, get_or, Option, Some, None, refl, sym, ap, ◌∙◌, subst, arith, nat_cmp, Ordering, Less, Equal, Greater}
use Rattle.std.specs.Cmp.Lexicographic.{slice_cmp}
use Rattle.std.specs.Ordering.{ordering_then, ordering_reverse, is_ne}
use Rattle.std.proofs.lemmas.List.Elements.{All-from_get_or}
use Rattle.std.proofs.lemmas.Cmp.{ranked, by_ranked, nat_cmp_total}
use Rattle.edi_line.specs.Bytes.{IsBytes}
use Rattle.edi_record.specs.Orders.{text_cmp, value_cmp}
use Rattle.edi_record.specs.declared.record.Value.{Value}
use Rattle.edi_record.specs.declared.record.Value.TheVariants.{Number, Bytes}
use Rattle.edi_plan.specs.Orders.{attribute_cmp}
use Rattle.edi_plan.specs.declared.record.PlanAttribute.{PlanAttribute}
use Rattle.edi_plan.specs.inner.AttributeFronts.{front_from, front_of_value, front_with, attribute_front, HasBytes}
use Rattle.edi_plan.proofs.Orders.{attribute_total}

differs : (o : Ordering) → is_ne o ≡ true → o ≡ Equal → ⊥
differs Less h e = cc
differs Equal h e = cc
differs Greater h e = cc

tied : (o : Ordering) → is_ne o ≡ false → o ≡ Equal
tied Less h = cc
tied Equal h = refl
tied Greater h = cc

drop_none : (k : ℕ) → drop {A = ℕ} k [] ≡ []
drop_none zero = refl
drop_none (suc k) = refl

-- a byte more

pub one_byte : (n left k : ℕ) (xs : List ℕ) → front_from n (suc left) (drop k xs) ≡ front_from (n * 256 + get_or xs k 0) left (drop (k + 1) xs)
one_byte n left zero [] = ap (λ m. front_from m left []) (let e : n * 256 ≡ n * 256 + 0 = omega arith in e)
one_byte n left (suc k) [] = rw (drop_none (suc k + 1)) (ap (λ m. front_from m left []) (let e : n * 256 ≡ n * 256 + 0 = omega arith in e))
one_byte n left zero (c ∷ cs) = refl
one_byte n left (suc k) (c ∷ cs) = one_byte n left k cs ∙ ap (λ m. front_from (n * 256 + get_or cs k 0) left (drop m (c ∷ cs))) (let e : suc (k + 1) ≡ suc k + 1 = omega arith in e)

pub room : (k n : ℕ) → k < 7 → n < 2 ^ (8 * k + 1) → (n * 256 + 255 < 2 ^ (8 * (k + 1) + 1)) × (n * 256 + 255 < 2 ^ 64)
room zero n h g = (omega (arith, g), omega (arith, g))
room (suc zero) n h g = (omega (arith, g), omega (arith, g))
room (suc (suc zero)) n h g = (omega (arith, g), omega (arith, g))
room (suc (suc (suc zero))) n h g = (omega (arith, g), omega (arith, g))
room (suc (suc (suc (suc zero)))) n h g = (omega (arith, g), omega (arith, g))
room (suc (suc (suc (suc (suc zero))))) n h g = (omega (arith, g), omega (arith, g))
room (suc (suc (suc (suc (suc (suc zero)))))) n h g = (omega (arith, g), omega (arith, g))
room (suc (suc (suc (suc (suc (suc (suc k))))))) n h g = absurd (omega (arith, h))

pub are_bytes : (xs : List ℕ) → ((i : ℕ) → get_or xs i 0 < 256) → IsBytes xs
are_bytes xs h = All-from_get_or (λ c. c < 256) xs 0 (λ i less. h i)

-- a lesser number in front stays the lesser

rest_bytes : (c : ℕ) (cs : List ℕ) → IsBytes (c ∷ cs) → IsBytes cs
rest_bytes c cs bytes = λ k d h. bytes (suc k) d (omega (arith, h))

first_byte : (c : ℕ) (cs : List ℕ) → IsBytes (c ∷ cs) → c < 256
first_byte c cs bytes = bytes 0 0 (omega arith)

lesser_stays : (m n k : ℕ) (xs ys : List ℕ) → IsBytes xs → m < n → front_from m k xs < front_from n k ys
lesser_stays m n zero xs ys bytes h = h
lesser_stays m n (suc k) [] [] bytes h = lesser_stays (m * 256) (n * 256) k [] [] bytes (omega (arith, h))
lesser_stays m n (suc k) [] (y ∷ ys) bytes h = lesser_stays (m * 256) (n * 256 + y) k [] ys bytes (omega (arith, h))
lesser_stays m n (suc k) (x ∷ xs) [] bytes h = lesser_stays (m * 256 + x) (n * 256) k xs [] (rest_bytes x xs bytes) (omega (arith, h, first_byte x xs bytes))
lesser_stays m n (suc k) (x ∷ xs) (y ∷ ys) bytes h = lesser_stays (m * 256 + x) (n * 256 + y) k xs ys (rest_bytes x xs bytes) (omega (arith, h, first_byte x xs bytes))

-- the text with the lesser front comes first

not_before_none : (xs : List ℕ) → slice_cmp nat_cmp xs [] ≡ Less → ⊥
not_before_none [] e = cc
not_before_none (x ∷ xs) e = cc

text_rises : (n k : ℕ) (xs ys : List ℕ) → IsBytes xs → IsBytes ys → front_from n k xs < front_from n k ys → slice_cmp nat_cmp xs ys ≡ Less
text_rises n zero xs ys bytes bytes' h = absurd (omega (arith, h))
text_rises n (suc k) [] [] bytes bytes' h = absurd (omega (arith, h))
text_rises n (suc k) [] (y ∷ ys) bytes bytes' h = refl
text_rises n (suc k) (zero ∷ xs) [] bytes bytes' h =
    let e : n * 256 + 0 ≡ n * 256 = omega arith in
    absurd (not_before_none xs (text_rises (n * 256) k xs [] (rest_bytes 0 xs bytes) bytes' (subst (λ m. front_from m k xs < front_from (n * 256) k []) e h)))
text_rises n (suc k) (suc x ∷ xs) [] bytes bytes' h = let g = lesser_stays (n * 256) (n * 256 + suc x) k [] xs bytes' (omega arith) in absurd (omega (arith, h, g))
text_rises n (suc k) (x ∷ xs) (y ∷ ys) bytes bytes' h = by_ranked (x < y) (x ≡ y) (y < x) (nat_cmp x y) (ranked x y (nat_cmp x y) refl)
    (λ e less. ap (λ o. ordering_then o (slice_cmp nat_cmp xs ys)) e)
    (λ e same. ap (λ o. ordering_then o (slice_cmp nat_cmp xs ys)) e
    ∙ text_rises (n * 256 + x) k xs ys (rest_bytes x xs bytes) (rest_bytes y ys bytes') (subst (λ c. front_from (n * 256 + x) k xs < front_from (n * 256 + c) k ys) (sym same) h))
    (λ e more. let g = lesser_stays (n * 256 + y) (n * 256 + x) k ys xs (rest_bytes y ys bytes') (omega (arith, more)) in absurd (omega (arith, h, g)))

-- a front with a character set is the greatest

below_limit : (n k : ℕ) (xs : List ℕ) → IsBytes xs → (m : ℕ) → n < m → front_from n k xs < front_from m k []
below_limit n k xs bytes m h = lesser_stays n m k xs [] bytes h

abbrev TextIsBytes : Option (List ℕ) → Value → Type 0
TextIsBytes t v = (text : List ℕ) → t ≡ None → v ≡ Bytes text → IsBytes text

value_below : (v : Value) → TextIsBytes None v → front_of_value v < 2 ^ 64 - 1
value_below (Number m) bytes = omega arith
value_below (Bytes x) bytes =
    let g = below_limit 1 7 x (bytes x refl refl) 2 (omega arith) in
    let limit : front_from 2 7 [] < 2 ^ 64 - 1 = omega arith in
    omega (arith, g, limit)

value_rises : (v w : Value) → TextIsBytes None v → TextIsBytes None w → front_of_value v < front_of_value w → value_cmp v w ≡ Less
value_rises (Number m) (Number n) bytes bytes' h = absurd (omega (arith, h))
value_rises (Number m) (Bytes y) bytes bytes' h = refl
value_rises (Bytes x) (Number n) bytes bytes' h = absurd (omega (arith, h))
value_rises (Bytes x) (Bytes y) bytes bytes' h = text_rises 1 7 x y (bytes x refl refl) (bytes' y refl refl) h

set_rises : (t u : Option (List ℕ)) (v w : Value) → TextIsBytes t v → TextIsBytes u w → front_with t v < front_with u w → ordering_then (text_cmp t u) (value_cmp v w) ≡ Less
set_rises None None v w bytes bytes' h = value_rises v w bytes bytes' h
set_rises None (Some y) v w bytes bytes' h = refl
set_rises (Some x) None v w bytes bytes' h = absurd (omega (arith, h, value_below w bytes'))
set_rises (Some x) (Some y) v w bytes bytes' h = absurd (omega (arith, h))

attribute_rises : (a b : PlanAttribute) → HasBytes a → HasBytes b → nat_cmp a.atp b.atp ≡ Equal → attribute_front a < attribute_front b → attribute_cmp a b ≡ Less
attribute_rises a b bytes bytes' tie h =
    ap (λ o. ordering_then o (ordering_then (text_cmp a.tex b.tex) (value_cmp a.value b.value))) tie ∙ set_rises a.tex b.tex a.value b.value bytes bytes' h

-- where the fronts differ they decide
pub decided : (a b : PlanAttribute) (order front : Ordering) → HasBytes a → HasBytes b
    → order ≡ nat_cmp a.atp b.atp → is_ne order ≡ false → front ≡ nat_cmp (attribute_front a) (attribute_front b) → is_ne front ≡ true → front ≡ attribute_cmp a b
decided a b order front bytes bytes' classes same fronts differ = by_ranked (attribute_front a < attribute_front b) (attribute_front a ≡ attribute_front b) (attribute_front b < attribute_front a) front (ranked (attribute_front a) (attribute_front b) front fronts)
    (λ e less. e ∙ sym (attribute_rises a b bytes bytes' tie less))
    (λ e equal. absurd (differs front differ e))
    (λ e more. e ∙ sym (attribute_total.antisymm a b ∙ ap ordering_reverse (attribute_rises b a bytes' bytes (nat_cmp_total.antisymm b.atp a.atp ∙ ap ordering_reverse tie) more)))
  where
    tie : nat_cmp a.atp b.atp ≡ Equal
    tie = sym classes ∙ tied order same
