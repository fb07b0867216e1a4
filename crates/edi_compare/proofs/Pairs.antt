-- The pairing by types and numbers carries the first plan onto the second, where the labels make one plan of the two.
use Rattle.std.proofs.Common.{◌≡◌, ℕ, ◌+◌, ◌-◌, ◌<◌, ◌≤◌, Bool, true, false, not, List, [], ◌∷◌, ◌++◌, length, slice_index, get_or, refl, sym, ap, ap₂, ◌∙◌, subst, arith}
use mathlib.Core.Bool.{beq}
use Rattle.std.proofs.lemmas.List.{get_or_append_left, get_or_push}
use borrow.Author.Count.{below_more}
use Rattle.std.proofs.lemmas.Option.{slice_get-get_or, slice_get_within}
use Rattle.edi_record.specs.declared.record.Kind.{Kind}
use Rattle.edi_schema.specs.Classes.{Classes}
use Rattle.edi_plan.specs.Plans.{PlanData, IsPlace, record_at}
use Rattle.edi_rank.specs.Arranged.{offset, new_place, arranged}
use Rattle.edi_rank.specs.Labelling.{Labelling, AreLabels, order_of, number_of, turned_at}
use Rattle.edi_rank.specs.Laws.{IsPlanUnder}
use Rattle.edi_rank.specs.Same.{Carries}
use Rattle.edi_rank.proofs.ArrangedUnder.{under_arranged}
use Rattle.edi_rank.proofs.Arranging.{carries_arranged}
use Rattle.edi_rank.proofs.Carried.{carries_between}
use Rattle.edi_rank.proofs.Offsets.{one_offset, one_count}
use Rattle.edi_rank.proofs.SameLaws.{differ}
use Rattle.edi_compare.specs.Counterparts.{HasCounterparts, IsNumbered, PairsByNumber, kind_at, counterpart, number_at}
use Rattle.edi_compare.specs.Pairings.{PairingCarries}
use Rattle.edi_compare.specs.declared.numbered.NumberedRecords.{NumberedRecords}
use Rattle.edi_compare.specs.declared.pairing.Pairing.{Pairing}

-- what `!=` says of truths
known_differ : (a b : Bool) → not (beq a b) ≡ differ a b
known_differ true true = refl
known_differ true false = refl
known_differ false true = refl
known_differ false false = refl

module _ (s : Classes) (p q : PlanData) (l m : Labelling) (labels : AreLabels s p l) (labels' : AreLabels s q m) (f : NumberedRecords) (first : IsNumbered p l f) where
  number_is : (k : ℕ) → number_at f k ≡ number_of l k
  number_is k = ap (λ (ns : List ℕ). slice_index ns k) first.numbers

  turned_is : (k : ℕ) → turned_at f.turned k ≡ turned_at l.turned k
  turned_is k = ap (λ (ts : List Bool). turned_at ts k) first.turned

  within : (k : ℕ) → k < length f.kinds.items → IsPlace p k
  within k h = subst (λ n. k < n) first.long h

  ordered_there : (kind : Kind) (i : ℕ) → i < length (order_of m kind) → IsPlace q (slice_index (order_of m kind) i)
  ordered_there kind i h = (labels'.orders kind i (slice_index (order_of m kind) i) (slice_get-get_or (order_of m kind) i 0 h)).0

  -- where the second plan has as many records of a type as the numbers of the first go, each has a counterpart
  pub have_counterparts : ((k : ℕ) → IsPlace p k → number_of l k ≤ length (order_of m (record_at p k).kind)) → HasCounterparts f m
  have_counterparts fits = record {
    numbered = ap length first.numbers ∙ (labels.all_numbered ∙ sym first.long);
    directed = ap length first.turned ∙ (labels.all_directed ∙ sym first.long);
    from_one = λ k h. subst (λ n. 1 ≤ n) (sym (number_is k)) (labels.from_one k (within k h));
    to_count = λ k h.
        let place = within k h in
        subst (λ n. n ≤ length (order_of m (kind_at f k))) (sym (number_is k)) (subst (λ kind. number_of l k ≤ length (order_of m kind)) (sym (first.kinds k place)) (fits k place));
    there = λ kind i h. omega (arith, ordered_there kind i h, labels'.all_directed);
  }

module _ (s : Classes) (p q : PlanData) (l m : Labelling) (labels : AreLabels s p l) (labels' : AreLabels s q m) (one : arranged s l p ≡ arranged s m q) (f : NumberedRecords) (first : IsNumbered p l f) where
  number_fits : (k : ℕ) → IsPlace p k → number_of l k - 1 < length (order_of m (record_at p k).kind)
  number_fits k h =
      omega (arith, slice_get_within (order_of l (record_at p k).kind) (number_of l k - 1) k (labels.to_count k h), one_count s p q l m labels labels' one (record_at p k).kind)

  pub has_counterparts : HasCounterparts f m
  has_counterparts = have_counterparts s p q l m labels labels' f first (λ k h. omega (arith, number_fits k h, labels.from_one k h))

  -- the counterpart of a record, by the labels of its plan
  other : ℕ → ℕ
  other i = slice_index (order_of m (record_at p i).kind) (number_of l i - 1)

  counterpart_is : (i : ℕ) → IsPlace p i → counterpart f m i ≡ other i
  unfolding other
  counterpart_is i h = ap₂ (λ kind n. slice_index (order_of m kind) (n - 1)) (first.kinds i h) (number_is s p q l m labels labels' f first i)

  -- it is there, and goes where the record goes
  other_there : (i : ℕ) → IsPlace p i → IsPlace q (other i)
  unfolding other
  other_there i h = ordered_there s p q l m labels labels' f first (record_at p i).kind (number_of l i - 1) (number_fits i h)

  other_goes : (i : ℕ) → IsPlace p i → new_place m q (other i) ≡ new_place l p i
  unfolding other
  other_goes i h =
      let kind = (record_at p i).kind in
      let is = labels'.orders kind (number_of l i - 1) (other i) (slice_get-get_or (order_of m kind) (number_of l i - 1) 0 (number_fits i h)) in
      omega (arith, ap (offset m) is.1, is.2, one_offset s p q l m labels labels' one kind)

  module _ (pairing : Pairing) (by : PairsByNumber f m pairing) where
    goes_to : (i : ℕ) → IsPlace p i → slice_index pairing.to i ≡ other i
    goes_to i h = by.to i (subst (λ n. i < n) (sym first.long) h) ∙ counterpart_is i h

    turns : (i : ℕ) → IsPlace p i → turned_at pairing.turned i ≡ differ (turned_at l.turned i) (turned_at m.turned (slice_index pairing.to i))
    turns i h =
        let there = subst (λ n. i < n) (sym first.long) h in
        by.turned i there
        ∙ (known_differ (turned_at f.turned i) (turned_at m.turned (counterpart f m i))
        ∙ ap₂ differ (turned_is s p q l m labels labels' f first i) (ap (turned_at m.turned) (sym (by.to i there))))

    pub pairing_carries : IsPlanUnder s p → IsPlanUnder s q → PairingCarries s p q pairing
    pairing_carries under under' = record {
      all_paired = by.all_paired ∙ first.long;
      all_directed = by.all_directed ∙ first.long;
      carries = carries_between s p q (arranged s l p) under under' (under_arranged s p l under labels) (new_place l p) (new_place m q) (turned_at l.turned) (turned_at m.turned)
          (carries_arranged s p l labels)
          (subst (λ (r : PlanData). Carries s (new_place m q) (turned_at m.turned) q r) (sym one) (carries_arranged s q m labels'))
          (slice_index pairing.to) (turned_at pairing.turned)
          (λ i h. subst (IsPlace q) (sym (goes_to i h)) (other_there i h))
          (λ i h. ap (new_place m q) (goes_to i h) ∙ other_goes i h)
          turns;
    }

-- one value more of a map
pub one_more_known : {X : Type 0} (f : ℕ → X) (d : X) (xs ys : List X) (x : X) (i : ℕ) → ys ≡ xs ++ x ∷ [] → length xs ≡ i → ((k : ℕ) → k < i → get_or xs k d ≡ f k) → x ≡ f i
    → (k : ℕ) → k < i + 1 → get_or ys k d ≡ f k
one_more_known f d xs ys x i e long contents is = below_more _ i
    (λ k h. ap (λ zs. get_or zs k d) e ∙ (get_or_append_left xs (x ∷ []) d k (omega arith) ∙ contents k h))
    (ap (λ zs. get_or zs i d) e ∙ (get_or_push xs x d i long ∙ is))
