-- Records that hold the same have one number.
use Rattle.std.proofs.Common.{◌≡◌, ℕ, ◌+◌, ◌<◌, ◌≤◌, ◌⊎◌, inl, inr, Bool, true≢false, List, [], ◌∷◌, length, get_or, sym, subst, ◌∙◌, arith, Ordering, IsPermutation}
use Rattle.std.proofs.lemmas.Bool.{cases_lt}
use Rattle.edi_record.specs.declared.record.Kind.{Kind}
use Rattle.edi_record.specs.declared.record.Kind.TheVariants.{Pfe}
use Rattle.edi_schema.proofs.SortedLists.{counts_from_permutation, sort_by-same}
use Rattle.edi_plan.specs.Orders.{attribute_cmp}
use Rattle.edi_plan.proofs.Orders.{attribute_exact, attribute_total}
use Rattle.edi_plan.specs.Plans.{PlanData, IsPlace, record_at}
use Rattle.edi_plan.specs.Whole.{IsWholePlan}
use Rattle.edi_plan.specs.declared.record.PlanRecord.{PlanRecord}
use Rattle.edi_rank.specs.Labelling.{turned_at}
use Rattle.edi_matching.specs.declared.contents.Contents.{Contents}
use Rattle.edi_matching.specs.declared.entries.ContentKey.{ContentKey}
use Rattle.edi_matching.specs.inner.Additions.{AreAlike, HasKey, IsFirstFrom}
use Rattle.edi_matching.specs.inner.Contents.{AreContents, IsContentNumber, IsNumberIn}
use Rattle.edi_matching.specs.inner.Entries.{content_key_of}
use Rattle.edi_matching.specs.inner.Proposals.{IsCarriedOnto, ProposedMatching}
use Rattle.edi_matching.proofs.FacesAdded.{no_ends}
use Rattle.edi_matching.proofs.PartnersHold.{same_class}

-- an element of a list that has one
some_of : {X : Type 0} (xs : List X) (n : ℕ) → n < length xs → X
some_of [] n within = absurd (omega (arith, within))
some_of (x ∷ xs) n within = x

module _ {K X : Type 0} (cmp : K → K → Ordering) (eq : K → K → Bool) (order : List (K × X)) (key : K) where
  -- the first position whose key isn't less stands before no other
  not_passed : (a b : ℕ) → IsFirstFrom cmp order 0 key a → IsFirstFrom cmp order 0 key b → a < b → a < length order → ⊥
  not_passed a b first second below within =
      let d = some_of order a within in true≢false (sym (second.less a d (omega arith) below) ∙ first.found d within)

  abbrev Is : ℕ → ℕ → Type 0
  Is at number = (HasKey eq order at key × (number ≡ at + 1)) ⊎ (¬ (HasKey eq order at key) × (number ≡ 0))

  past_is_zero : (at number : ℕ) → length order ≤ at → Is at number → number ≡ 0
  past_is_zero at number past (inl h) = absurd (omega (arith, past, h.0.within))
  past_is_zero at number past (inr h) = h.1

  one_answer : (at n m : ℕ) → Is at n → Is at m → n ≡ m
  one_answer at n m (inl h) (inl k) = h.1 ∙ sym k.1
  one_answer at n m (inl h) (inr k) = absurd (k.0 h.0)
  one_answer at n m (inr h) (inl k) = absurd (h.0 k.0)
  one_answer at n m (inr h) (inr k) = h.1 ∙ sym k.1

  -- where the one stands before the other, both stand behind the last entry
  both_past : (a b n m : ℕ) → IsFirstFrom cmp order 0 key a → IsFirstFrom cmp order 0 key b → Is a n → Is b m → a < b → n ≡ m
  both_past a b n m first second is other below = go (cases_lt a (length order))
    where
      go : (a < length order) ⊎ (length order ≤ a) → n ≡ m
      go (inl within) = absurd (not_passed a b first second below within)
      go (inr past) = past_is_zero a n past is ∙ sym (past_is_zero b m (omega (arith, past, below)) other)

  pub one_number : (n m : ℕ) → IsNumberIn cmp eq order key n → IsNumberIn cmp eq order key m → n ≡ m
  one_number n m h k = go (cases_lt h.at k.at) (cases_lt k.at h.at)
    where
      go : (h.at < k.at) ⊎ (k.at ≤ h.at) → (k.at < h.at) ⊎ (h.at ≤ k.at) → n ≡ m
      go (inl below) b = both_past h.at k.at n m h.first k.first h.is k.is below
      go (inr up) (inl below) = sym (both_past k.at h.at m n k.first h.first k.is h.is below)
      go (inr up) (inr down) = let same : k.at ≡ h.at = omega (arith, up, down) in one_answer h.at n m h.is (subst (λ (at : ℕ). Is at m) same k.is)

-- what two records hold that have one class, the same attributes and the same extra zones
held_alike : (a b : PlanRecord) → b.class ≡ a.class → IsPermutation a.attributes b.attributes → b.extras ≡ a.extras → content_key_of b ≡ content_key_of a
held_alike a b class attributes extras =
    let sorted = sort_by-same attribute_cmp attribute_total attribute_exact a.attributes b.attributes (counts_from_permutation _ _ attributes) in
    λ i. record { class = class i; attributes = sym sorted i; extras = extras i }

module _ (cmp : ContentKey → ContentKey → Ordering) (eq : ContentKey → ContentKey → Bool) (kind : Kind) (p q : PlanData) (contents : Contents) (are : AreContents cmp eq kind p q contents) where
  alike_numbers : (a b : PlanRecord) (n m : ℕ) → b.kind ≡ a.kind → content_key_of b ≡ content_key_of a → IsContentNumber cmp eq kind are.order a n → IsContentNumber cmp eq kind are.order b m → n ≡ m
  alike_numbers a b n m same held (inl h) (inl k) = one_number cmp eq are.order (content_key_of a) n m h.1 (subst (λ (x : ContentKey). IsNumberIn cmp eq are.order x m) held k.1)
  alike_numbers a b n m same held (inl h) (inr k) = absurd (k.0 (same ∙ h.0))
  alike_numbers a b n m same held (inr h) (inl k) = absurd (h.0 (sym same ∙ k.0))
  alike_numbers a b n m same held (inr h) (inr k) = h.1 ∙ sym k.1

  -- two that hold the same
  pub one_if_alike : (i j : ℕ) → AreAlike p q i j → get_or contents.here.items i 0 ≡ get_or contents.there.items j 0
  one_if_alike i j alike =
      let a = record_at p i in
      let b = record_at q j in
      alike_numbers a b _ _ alike.same.kind (held_alike a b alike.same.class alike.same.attributes alike.same.extras) (are.here.each i alike.here) (are.there.each j alike.there)

-- and a face that is carried onto another
pub one_if_carried : (cmp : ContentKey → ContentKey → Ordering) (eq : ContentKey → ContentKey → Bool) (m : ProposedMatching) (contents : Contents) → AreContents cmp eq Pfe m.plan m.other contents
    → IsWholePlan m.plan → (f g : ℕ) → IsPlace m.plan f → IsPlace m.other g → (record_at m.plan f).kind ≡ Pfe → IsCarriedOnto m f g → get_or contents.here.items f 0 ≡ get_or contents.there.items g 0
one_if_carried cmp eq m contents are whole f g here there face carried =
    let a = record_at m.plan f in
    let b = record_at m.other g in
    let class = carried.class ∙ same_class m.classes (turned_at m.turned) a (no_ends m.plan whole f here face) in
    alike_numbers cmp eq Pfe m.plan m.other contents are a b _ _ carried.kind (held_alike a b class carried.attributes carried.extras) (are.here.each f here) (are.there.each g there)
