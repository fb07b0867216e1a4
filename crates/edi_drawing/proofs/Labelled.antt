-- What links call records.
use Rattle.std.proofs.Common.{◌≡◌, ◌⊎◌, inl, inr, ℕ, ◌+◌, ◌<◌, ◌≤◌, zero, suc, Bool, true, false, cond, List, [], ◌∷◌, ◌++◌, Option, Some, None, find, length, map, get_or, take, refl, sym, ap, ◌∙◌, subst, arith, if◌then◌else◌, unwrap_or}
use Rattle.std.specs.Option.{option_map_or, option_or}
use Rattle.std.proofs.lemmas.Bool.{cases_lt}
use Rattle.std.proofs.lemmas.List.{get_or_past, take_more}
use Rattle.std.proofs.lemmas.List.Folds.{find-append}
use Rattle.edi_record.specs.declared.record.Kind.{Kind}
use Rattle.edi_record.specs.declared.record.Kind.TheVariants.{Lnk}
use Rattle.edi_schema.specs.Classes.{Classes}
use Rattle.edi_plan.specs.Places.{places_of}
use Rattle.edi_plan.specs.Plans.{PlanData, IsPlace, is_object, record_at}
use Rattle.edi_plan.specs.declared.record.PlanAttribute.{PlanAttribute}
use Rattle.edi_plan.specs.declared.record.PlanEnd.{PlanEnd}
use Rattle.edi_plan.proofs.PlaceLemmas.{place_there}
use Rattle.edi_drawing.specs.Labels.{attribute_label, calls, is_something, link_label, object_label}
use Rattle.edi_drawing.specs.inner.Labels.{AreCallers, HaveCallers}

-- what is found holds, if it holds of each
found_holds : (test : ℕ → Bool) (P : ℕ → Type 0) (xs : List ℕ) → ((i : ℕ) → i < length xs → P (get_or xs i 0)) → (x : ℕ) → find test xs ≡ Some x → P x
found_holds test P [] each x is = absurd cc
found_holds test P (y ∷ ys) each x is = by (test y) refl (λ e. found_holds test P ys (λ i less. each (suc i) (omega (arith, less))) x e)
  where
    first : Some y ≡ Some x → y ≡ x
    first e = cc

    by : (b : Bool) → b ≡ test y → (find test ys ≡ Some x → P x) → P x
    by true h rest = subst P (first (ap (λ (c : Bool). cond c (Some y) (find test ys)) h ∙ is)) (each zero (omega arith))
    by false h rest = rest (ap (λ (c : Bool). cond c (Some y) (find test ys)) h ∙ is)

-- a link that calls a record something is a place
pub caller_there : (s : Classes) (p : PlanData) (kind : Kind) (test : ℕ → Bool) (link : ℕ) → find test (places_of kind p) ≡ Some link → IsPlace p link
caller_there s p kind test link is = found_holds test (IsPlace p) (places_of kind p) (place_there kind p) link is

pub caller_at : (s : Classes) (p : PlanData) (callers : List (Option ℕ)) (k link : ℕ) → AreCallers s p callers → Some link ≡ get_or callers k None → IsPlace p link
caller_at s p callers k link are is = by (cases_lt k (length callers))
  where
    none : None ≡ Some link → IsPlace p link
    none e = absurd cc

    by : (k < length callers) ⊎ (length callers ≤ k) → IsPlace p link
    by (inl less) = caller_there s p Lnk (calls s p k) link (sym (are.each k less) ∙ sym is)
    by (inr more) = none (sym (get_or_past callers k None more) ∙ sym is)

-- what people call an object that a link names first is what the link calls whatever it names
pub called : (s : Classes) (p : PlanData) (link k : ℕ) (ends : List PlanEnd) (attributes : List PlanAttribute) (label : List ℕ)
    → Some k ≡ find (λ (j : ℕ). is_object (record_at p j).kind) (map (λ (e : PlanEnd). e.target) ends) → ends ≡ (record_at p link).ends
    → attributes ≡ (record_at p k).attributes → label ≡ unwrap_or (find is_something (map (attribute_label s) (take 32 attributes))) []
    → label ≡ link_label s p link
called s p link k ends attributes label first there its is =
    is ∙ (ap (λ (own : List PlanAttribute). unwrap_or (find is_something (map (attribute_label s) (take 32 own))) []) its
    ∙ ap (λ (o : Option ℕ). option_map_or (λ (j : ℕ). object_label s (record_at p j)) o [])
    (first ∙ ap (λ (es : List PlanEnd). find (λ (j : ℕ). is_object (record_at p j).kind) (map (λ (e : PlanEnd). e.target) es)) there))

-- one link more
pub more_callers : (s : Classes) (p : PlanData) (links : List ℕ) (i link : ℕ) (old new : List (Option ℕ)) → i < length links → link ≡ get_or links i 0
    → HaveCallers s p (take i links) old → length new ≡ length old
    → ((k : ℕ) → k < length old → get_or new k None ≡ option_or (get_or old k None) (if calls s p k link then Some link else None))
    → HaveCallers s p (take (i + 1) links) new
more_callers s p links i link old new less is have long each = record {
  long = long ∙ have.long;
  each = λ k h.
      let before : k < length old = subst (λ (n : ℕ). k < n) long h in
      each k before
      ∙ (ap (λ (o : Option ℕ). option_or o (if calls s p k link then Some link else None)) (have.each k before)
      ∙ (sym (find-append (calls s p k) (take i links) (link ∷ []))
      ∙ ap (find (calls s p k)) (ap (λ (x : ℕ). take i links ++ x ∷ []) is ∙ sym (take_more links i 0 less))));
}
