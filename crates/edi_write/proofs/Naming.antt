-- The names that are written of a plan tell its records apart.
use Rattle.std.proofs.Common.{◌≡◌, ℕ, zero, suc, ◌+◌, ◌<◌, ◌≤◌, ◌^◌, ◌⊎◌, inl, inr, Bool, true, false, cond, List, [], ◌∷◌, length, take, drop, get_or, count_by, refl, sym, ap, ◌∙◌, subst, arith, eq-eqb}
use Rattle.std.specs.Prelude.{decimal}
use Rattle.std.proofs.lemmas.Bool.{cases_order}
use Rattle.std.proofs.lemmas.Fmt.{decimal_injective}
use Rattle.std.proofs.lemmas.List.{length-take}
use Rattle.std.proofs.lemmas.List.Sums.{count_by-le-length}
use Rattle.edi_record.specs.declared.name.Name.{Name}
use Rattle.edi_record.specs.declared.record.Kind.{Kind}
use Rattle.edi_record.specs.declared.record.Kind.TheVariants.{Pno, Par, Pfe, Fea, Lnk}
use Rattle.edi_record.proofs.KindCodes.{kind_from_code}
use Rattle.edi_schema.specs.Classes.{Classes, is_name}
use Rattle.edi_schema.proofs.Names.{same_name}
use Rattle.edi_schema.proofs.SortedLists.{count_by-cons}
use Rattle.edi_plan.specs.Plans.{PlanData, IsPlace, record_at, blank, kind_rank, same_kind}
use Rattle.edi_plan.specs.Whole.{IsWholePlan}
use Rattle.edi_plan.specs.declared.record.PlanRecord.{PlanRecord}
use Rattle.edi_write.specs.Layout.{identifier, name_in, number_in}

-- ---- names with other types or numbers

one_decimal : (kind : Kind) (m n : ℕ) → identifier kind m ≡ identifier kind n → decimal m ≡ decimal n
one_decimal Pno m n e = ap (drop 1) e
one_decimal Par m n e = ap (drop 1) e
one_decimal Pfe m n e = ap (drop 1) e
one_decimal Fea m n e = ap (drop 1) e
one_decimal Lnk m n e = ap (drop 1) e

-- ---- the records of a type before a place

-- one that passes the test is counted at all later places
count_rises : {X : Type 0} (test : X → Bool) (d : X) (xs : List X) (i k : ℕ) → i < k → k ≤ length xs → test (get_or xs i d) ≡ true → count_by test (take i xs) < count_by test (take k xs)
count_rises test d [] i k less h is = absurd (omega (arith, less, h))
count_rises test d (x ∷ xs) i zero less h is = absurd (omega (arith, less))
count_rises test d (x ∷ xs) zero (suc k) less h is = let step = count_by-cons test x (take k xs) ∙ ap (λ b. cond b 1 0 + count_by test (take k xs)) is in omega (arith, step)
count_rises test d (x ∷ xs) (suc i) (suc k) less h is =
    let more = count_rises test d xs i k (omega (arith, less)) (omega (arith, h)) is in
    let a = count_by-cons test x (take i xs) in
    let b = count_by-cons test x (take k xs) in
    omega (arith, more, a, b)

module _ (s : Classes) (p : PlanData) where
  number_rises : (i k : ℕ) → i < k → IsPlace p k → (record_at p i).kind ≡ (record_at p k).kind → number_in s p i < number_in s p k
  number_rises i k less h kind =
      let counts = count_rises (λ (r : PlanRecord). same_kind (record_at p k).kind r.kind) blank p.list i k less (omega (arith, h)) (eq-eqb (kind_rank (record_at p k).kind) (kind_rank (record_at p i).kind) (ap kind_rank (sym kind))) in
      subst (λ (kind : Kind). count_by (λ (r : PlanRecord). same_kind kind r.kind) (take i p.list) + 1 < number_in s p k) (sym kind) (omega (arith, counts))

  pub number_few : IsWholePlan p → (k : ℕ) → number_in s p k < 2 ^ 64
  number_few whole k =
      let counted = count_by-le-length (λ (r : PlanRecord). same_kind (record_at p k).kind r.kind) (take k p.list) in
      let long = length-take k p.list in
      let few = whole.few in
      omega (arith, counted, long, few)

  -- places with one name are one
  pub one_place : IsWholePlan p → (i k : ℕ) → IsPlace p i → IsPlace p k → name_in s p i ≡ name_in s p k → i ≡ k
  one_place whole i k h g e = go (cases_order i k)
    where
      kind : (record_at p i).kind ≡ (record_at p k).kind
      kind = kind_from_code _ _ (ap (λ (n : Name). n.rty) e)

      number : number_in s p i ≡ number_in s p k
      number = decimal_injective (number_in s p i) (number_in s p k) (number_few whole i) (number_few whole k)
          (one_decimal (record_at p k).kind (number_in s p i) (number_in s p k)
          (ap (λ (kind : Kind). identifier kind (number_in s p i)) (sym kind) ∙ ap (λ (n : Name). n.rid) e))

      go : (i ≡ k) ⊎ ((i < k) ⊎ (k < i)) → i ≡ k
      go (inl same) = same
      go (inr (inl less)) = let up = number_rises i k less g kind in absurd (omega (arith, up, number))
      go (inr (inr more)) = let up = number_rises k i more h (sym kind) in absurd (omega (arith, up, number))

  pub names_apart : IsWholePlan p → (i k : ℕ) → IsPlace p i → IsPlace p k → i < k → is_name (name_in s p k) (name_in s p i) ≡ false
  names_apart whole i k h g less = go (is_name (name_in s p k) (name_in s p i)) refl
    where
      go : (b : Bool) → is_name (name_in s p k) (name_in s p i) ≡ b → b ≡ false
      go false e = refl
      go true e = let same = one_place whole k i g h (same_name (name_in s p k) (name_in s p i) e) in absurd (omega (arith, same, less))
