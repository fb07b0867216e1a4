-- The order of subjects, and lists of entries in order.
use Rattle.std.proofs.Common.{◌≡◌, ◌≢◌, ◌⊎◌, ◌∙◌, ◌+◌, ◌<◌, ℕ, suc, Bool, true, false, cond, List, [], ◌∷◌, ◌++◌, take, drop, length, length-append, arith, refl, sym, ap, subst, inl, inr, true≢false, bytes_eq, Ordering, Less, Equal, Greater, is_gt}
use Rattle.std.specs.List.{AllByRecursion}
use Rattle.std.specs.Ordering.{ordering_reverse, ordering_then}
use Rattle.std.specs.Cmp.{IsTotalOrder}
use Rattle.std.proofs.lemmas.Cmp.{on_total, then_total, tied_itself, upto}
use Rattle.std.proofs.lemmas.Slice.Eq.{bytes_eq-Decides}
use Rattle.edi_line.proofs.EachElement.{each_weaker, each_in_front}
use Rattle.edi_record.specs.Orders.{bytes_cmp}
use Rattle.edi_schema.specs.Sorted.{NeverFalls}
use Rattle.edi_manifest.proofs.ByteOrder.{bytes_total, bytes_exact}
use Rattle.edi_changes.specs.declared.entry.Entry.{Entry}
use Rattle.edi_changes.specs.inner.Merging.{AllFrom, IsLeastSubject, IsLedBy, entry_cmp, run_length}

-- ---- parts of lists

pub front_rises : (xs ys : List Entry) → NeverFalls entry_cmp (xs ++ ys) → NeverFalls entry_cmp xs
front_rises [] ys up = tt
front_rises (x ∷ xs) ys up = (each_in_front (λ (y : Entry). is_gt (entry_cmp x y) ≡ false) xs ys up.0, front_rises xs ys up.1)

pub back_rises : (xs ys : List Entry) → NeverFalls entry_cmp (xs ++ ys) → NeverFalls entry_cmp ys
back_rises [] ys up = up
back_rises (x ∷ xs) ys up = back_rises xs ys up.1

-- ---- the order of entries

pub entry_total : IsTotalOrder entry_cmp
entry_total = then_total (on_total (λ (e : Entry). e.subject) bytes_total) (on_total (λ (e : Entry). e.digest) bytes_total)

-- ---- subjects

not_less : Equal ≡ Less → ⊥
not_less e = cc

-- a subject that is less is another
pub less_is_other : (a b : List ℕ) → bytes_cmp a b ≡ Less → bytes_eq a b ≡ false
less_is_other a b less = go (bytes_eq a b) refl
  where
    go : (t : Bool) → bytes_eq a b ≡ t → bytes_eq a b ≡ false
    go false e = e
    go true e = absurd (not_less (sym (tied_itself bytes_total a) ∙ (ap (bytes_cmp a) ((bytes_eq-Decides a b).0 e) ∙ less)))

pub more_is_other : (a b : List ℕ) → bytes_cmp a b ≡ Less → bytes_eq b a ≡ false
more_is_other a b less = go (bytes_eq b a) refl
  where
    go : (t : Bool) → bytes_eq b a ≡ t → bytes_eq b a ≡ false
    go false e = e
    go true e = absurd (not_less (sym (tied_itself bytes_total a) ∙ (ap (bytes_cmp a) (sym ((bytes_eq-Decides b a).0 e)) ∙ less)))

-- what is less than one is less than those behind it
pub less_than_more : (a b c : List ℕ) → bytes_cmp a b ≡ Less → is_gt (bytes_cmp b c) ≡ false → bytes_cmp a c ≡ Less
less_than_more a b c less h = go (bytes_cmp b c) refl h
  where
    go : (o : Ordering) → bytes_cmp b c ≡ o → is_gt o ≡ false → bytes_cmp a c ≡ Less
    go Less e k = bytes_total.trans a b c less e
    go Equal e k = ap (bytes_cmp a) (sym (bytes_exact b c e)) ∙ less
    go Greater e k = absurd (true≢false k)

-- what is not more than one, and another, is less
less_if_other : (a b : List ℕ) → is_gt (bytes_cmp a b) ≡ false → bytes_eq b a ≡ false → bytes_cmp a b ≡ Less
less_if_other a b h other = go (bytes_cmp a b) refl h
  where
    go : (o : Ordering) → bytes_cmp a b ≡ o → is_gt o ≡ false → o ≡ Less
    go Less e k = refl
    go Equal e k = absurd (true≢false (sym ((bytes_eq-Decides b a).1 (sym (bytes_exact a b e))) ∙ other))
    go Greater e k = absurd (true≢false k)

-- where the second isn't less than the first, the first isn't more
pub not_more : (a b : List ℕ) (o : Ordering) → o ≡ bytes_cmp b a → (o ≡ Equal) ⊎ (o ≡ Greater) → is_gt (bytes_cmp a b) ≡ false
not_more a b o is (inl e) = ap is_gt (bytes_total.antisymm a b ∙ ap ordering_reverse (sym is ∙ e))
not_more a b o is (inr e) = ap is_gt (bytes_total.antisymm a b ∙ ap ordering_reverse (sym is ∙ e))

-- entries in order have their subjects in order
pub subject_rises : (e y : Entry) → is_gt (entry_cmp e y) ≡ false → is_gt (bytes_cmp e.subject y.subject) ≡ false
subject_rises e y h = go (bytes_cmp e.subject y.subject) h
  where
    go : (o : Ordering) → is_gt (ordering_then o (bytes_cmp e.digest y.digest)) ≡ false → is_gt o ≡ false
    go Less k = refl
    go Equal k = refl
    go Greater k = k

-- ---- the least subject

from_first : (e : Entry) (es : List Entry) → NeverFalls entry_cmp (e ∷ es) → AllFrom e.subject (e ∷ es)
from_first e es up = (
  ap is_gt (tied_itself bytes_total e.subject),
  each_weaker (λ (y : Entry). is_gt (entry_cmp e y) ≡ false) (λ (y : Entry). is_gt (bytes_cmp e.subject y.subject) ≡ false) (subject_rises e) es up.0,
)

from_less : (s t : List ℕ) → is_gt (bytes_cmp s t) ≡ false → (es : List Entry) → AllFrom t es → AllFrom s es
from_less s t h es from =
    each_weaker (λ (y : Entry). is_gt (bytes_cmp t y.subject) ≡ false) (λ (y : Entry). is_gt (bytes_cmp s y.subject) ≡ false) (λ y k. upto bytes_total s t y.subject h k) es from

pub least_behind : (entries : List Entry) (e : Entry) (es : List Entry) → entries ≡ e ∷ es → NeverFalls entry_cmp entries → IsLeastSubject e.subject [] entries
least_behind entries e es cut up =
    subst (λ (l : List Entry). NeverFalls entry_cmp l → IsLeastSubject e.subject [] l) (sym cut) (λ k. (tt, from_first e es k, inr refl)) up

pub least_before : (entries none : List Entry) (e : Entry) (es : List Entry) → none ≡ [] → entries ≡ e ∷ es → NeverFalls entry_cmp entries → IsLeastSubject e.subject entries none
least_before entries none e es empty cut up =
    subst (λ (n : List Entry). IsLeastSubject e.subject entries n) (sym empty)
    (subst (λ (l : List Entry). NeverFalls entry_cmp l → IsLeastSubject e.subject l []) (sym cut) (λ k. (from_first e es k, tt, inl refl)) up)

pub least_of_two : (before after : List Entry) (a : Entry) (as_ : List Entry) (b : Entry) (bs : List Entry) (s : List ℕ) → before ≡ a ∷ as_ → after ≡ b ∷ bs
    → NeverFalls entry_cmp before → NeverFalls entry_cmp after
    → ((s ≡ a.subject) × (is_gt (bytes_cmp a.subject b.subject) ≡ false)) ⊎ ((s ≡ b.subject) × (bytes_cmp b.subject a.subject ≡ Less))
    → IsLeastSubject s before after
least_of_two before after a as_ b bs s cut cut' up up' which =
    subst (λ (l : List Entry). NeverFalls entry_cmp l → IsLeastSubject s l after) (sym cut) (λ k.
    subst (λ (l : List Entry). NeverFalls entry_cmp l → IsLeastSubject s (a ∷ as_) l) (sym cut') (λ k'. go k k' which) up') up
  where
    go : NeverFalls entry_cmp (a ∷ as_) → NeverFalls entry_cmp (b ∷ bs)
        → ((s ≡ a.subject) × (is_gt (bytes_cmp a.subject b.subject) ≡ false)) ⊎ ((s ≡ b.subject) × (bytes_cmp b.subject a.subject ≡ Less))
        → IsLeastSubject s (a ∷ as_) (b ∷ bs)
    go k k' (inl h) =
        subst (λ (t : List ℕ). IsLeastSubject t (a ∷ as_) (b ∷ bs)) (sym h.0) (from_first a as_ k, from_less a.subject b.subject h.1 (b ∷ bs) (from_first b bs k'), inl refl)
    go k k' (inr h) =
        subst (λ (t : List ℕ). IsLeastSubject t (a ∷ as_) (b ∷ bs)) (sym h.0) (from_less b.subject a.subject (ap is_gt h.1) (a ∷ as_) (from_first a as_ k), from_first b bs k', inr refl)

-- ---- the entries of the least subject

pub run_is : (s : List ℕ) (es : List Entry) → AllByRecursion (λ (e : Entry). e.subject ≡ s) (take (run_length s es) es)
run_is s [] = tt
run_is s (e ∷ es) = go (bytes_eq e.subject s) refl (run_is s es)
  where
    go : (b : Bool) → bytes_eq e.subject s ≡ b → AllByRecursion (λ (e : Entry). e.subject ≡ s) (take (run_length s es) es)
        → AllByRecursion (λ (e : Entry). e.subject ≡ s) (take (cond b (suc (run_length s es)) 0) (e ∷ es))
    go true is more = ((bytes_eq-Decides e.subject s).0 is, more)
    go false is more = tt

pub behind_is : (s : List ℕ) (es : List Entry) → NeverFalls entry_cmp es → AllFrom s es
    → AllByRecursion (λ (e : Entry). bytes_cmp s e.subject ≡ Less) (drop (run_length s es) es)
behind_is s [] up from = tt
behind_is s (e ∷ es) up from = go (bytes_eq e.subject s) refl (behind_is s es up.1 from.1)
  where
    go : (b : Bool) → bytes_eq e.subject s ≡ b → AllByRecursion (λ (e : Entry). bytes_cmp s e.subject ≡ Less) (drop (run_length s es) es)
        → AllByRecursion (λ (e : Entry). bytes_cmp s e.subject ≡ Less) (drop (cond b (suc (run_length s es)) 0) (e ∷ es))
    go true is more = more
    go false is more =
        let less : bytes_cmp s e.subject ≡ Less = less_if_other s e.subject from.0 is in (
          less,
          each_weaker (λ (y : Entry). is_gt (entry_cmp e y) ≡ false) (λ (y : Entry). bytes_cmp s y.subject ≡ Less)
              (λ y k. less_than_more s e.subject y.subject less (subject_rises e y k)) es up.0,
        )

-- ---- the least subject has entries

at_itself : (s t : List ℕ) → t ≡ s → bytes_cmp s t ≡ Less → ⊥
at_itself s t is less = not_less (sym (tied_itself bytes_total s) ∙ (ap (bytes_cmp s) (sym is) ∙ less))

led_some : (s : List ℕ) (run behind whole : List Entry) → whole ≡ run ++ behind → AllByRecursion (λ (e : Entry). bytes_cmp s e.subject ≡ Less) behind → IsLedBy s whole → run ≢ []
led_some s (e ∷ es) behind whole cut less led none = cc
led_some s [] behind whole cut less led none = go behind less (subst (IsLedBy s) cut led)
  where
    go : (entries : List Entry) → AllByRecursion (λ (e : Entry). bytes_cmp s e.subject ≡ Less) entries → IsLedBy s entries → ⊥
    go [] k l = l
    go (e ∷ es) k l = at_itself s e.subject l k.0

longer : (run : List Entry) → run ≢ [] → 0 < length run
longer [] some = absurd (some refl)
longer (e ∷ es) some = omega arith

module _ (s : List ℕ) (old new old_run old_behind new_run new_behind : List Entry) (least : IsLeastSubject s old new) (old_cut : old ≡ old_run ++ old_behind) (new_cut : new ≡ new_run ++ new_behind)
    (old_less : AllByRecursion (λ (e : Entry). bytes_cmp s e.subject ≡ Less) old_behind) (new_less : AllByRecursion (λ (e : Entry). bytes_cmp s e.subject ≡ Less) new_behind) where
  -- a run of one of two lists has an entry
  pub some_run : (old_run ≢ []) ⊎ (new_run ≢ [])
  some_run = go least.2
    where
      go : IsLedBy s old ⊎ IsLedBy s new → (old_run ≢ []) ⊎ (new_run ≢ [])
      go (inl led) = inl (led_some s old_run old_behind old old_cut old_less led)
      go (inr led) = inr (led_some s new_run new_behind new new_cut new_less led)

  -- and so fewer entries are left
  pub fewer : length old_behind + length new_behind < length old + length new
  fewer = go some_run
    where
      one : length old ≡ length old_run + length old_behind
      one = ap length old_cut ∙ length-append old_run old_behind

      other : length new ≡ length new_run + length new_behind
      other = ap length new_cut ∙ length-append new_run new_behind

      go : (old_run ≢ []) ⊎ (new_run ≢ []) → length old_behind + length new_behind < length old + length new
      go (inl some) = let some_more = longer old_run some in omega (arith, one, other, some_more)
      go (inr some) = let some_more = longer new_run some in omega (arith, one, other, some_more)
