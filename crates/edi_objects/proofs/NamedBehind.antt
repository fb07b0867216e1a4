-- What links name behind the first few.
use Rattle.std.proofs.Common.{◌≡◌, ◌∙◌, ◌<◌, ◌||◌, ℕ, zero, suc, Bool, false, List, [], ◌∷◌, IfOk, Ok, Err, Result, ap, ap₂, arith, drop, get_or, length, map, refl, subst}
use Rattle.std.specs.List.{AllByRecursion, list_any, range_with_len}
use Rattle.std.proofs.lemmas.List.FromFn.{get_or-map-range_with_len}
use Rattle.edi_line.proofs.EachElement.{each_weaker}
use Rattle.edi_plan.specs.Plans.{PlanData, IsPlace, record_at}
use Rattle.edi_plan.specs.Sides.{targets}
use Rattle.edi_plan.specs.Whole.{IsWholePlan}
use Rattle.edi_plan.specs.declared.record.PlanEnd.{PlanEnd}
use Rattle.edi_report.specs.Reports.{Report}
use Rattle.edi_objects.specs.Elements.{most_named}
use Rattle.edi_objects.specs.Objects.{has_further_outline, has_other_outline}
use Rattle.edi_objects.specs.inner.Sheets.{AreFurther, AreOthers, names_further, is_marked_place}
use Rattle.edi_objects.proofs.AttributeLists.{all_mapped}

any_alike : (t u : ℕ → Bool) (xs : List ℕ) → AllByRecursion (λ (x : ℕ). t x ≡ u x) xs → list_any t xs ≡ list_any u xs
any_alike t u [] all = refl
any_alike t u (x ∷ xs) all = ap₂ (λ (a b : Bool). a || b) all.0 (any_alike t u xs all.1)

pub all_dropped : {X : Type 0} (P : X → Type 0) (n : ℕ) (xs : List X) → AllByRecursion P xs → AllByRecursion P (drop n xs)
all_dropped P zero xs all = all
all_dropped P (suc n) [] all = tt
all_dropped P (suc n) (x ∷ xs) all = all_dropped P n xs all.1

-- what is noted of each of so many places
pub noted : (test : ℕ → Bool) (n : ℕ) (marks : List Bool) → marks ≡ map test (range_with_len 0 n) → (i : ℕ) → i < n → is_marked_place marks i ≡ test i
noted test n marks is i h = ap (λ (ms : List Bool). get_or ms i false) is ∙ get_or-map-range_with_len test 0 n i i false h (omega arith)

pub further_known : (r : Report) → IsWholePlan r.first.accepted → (others further : List Bool) → AreOthers r others
    → further ≡ map (names_further (is_marked_place others) r.first.accepted) (range_with_len 0 (length r.first.accepted.list)) → AreFurther r further
unfolding has_further_outline
further_known r whole others further are is i h =
    noted (names_further (is_marked_place others) r.first.accepted) (length r.first.accepted.list) further is i h
    ∙ any_alike (is_marked_place others) (has_other_outline r) (drop most_named (targets (record_at r.first.accepted i)))
    (all_dropped (λ (x : ℕ). is_marked_place others x ≡ has_other_outline r x) most_named (targets (record_at r.first.accepted i))
    (each_weaker (IsPlace r.first.accepted) (λ (x : ℕ). is_marked_place others x ≡ has_other_outline r x) are (targets (record_at r.first.accepted i))
    (all_mapped (λ (e : PlanEnd). e.target) (IsPlace r.first.accepted) (record_at r.first.accepted i).ends (whole.there i h))))

pub further_found : {X E : Type 0} (r : Report) (p : PlanData) (others : List Bool) (found : Result X E) (items : X → List Bool) → p ≡ r.first.accepted → IsWholePlan p → AreOthers r others
    → IfOk found (λ x. items x ≡ map (names_further (is_marked_place others) p) (range_with_len 0 (length p.list))) → IfOk found (λ x. AreFurther r (items x))
further_found r p others (Err e) items is whole are marked = tt
further_found r p others (Ok x) items is whole are marked =
    further_known r (subst IsWholePlan is whole) others (items x) are (subst (λ (q : PlanData). items x ≡ map (names_further (is_marked_place others) q) (range_with_len 0 (length q.list))) is marked)

pub mapped_drop : {X Y : Type 0} (f : X → Y) (n : ℕ) (xs : List X) → map f (drop n xs) ≡ drop n (map f xs)
mapped_drop f zero xs = refl
mapped_drop f (suc n) [] = refl
mapped_drop f (suc n) (x ∷ xs) = mapped_drop f n xs
