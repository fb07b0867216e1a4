-- Places of records.
use Rattle.std.proofs.Common.{◌≡◌, ◌∙◌, ◌<◌, ℕ, Bool, true, false, cond, List, [], ◌∷◌, ap, eqb, filter, get_or, length, map, subst, take}
use Rattle.edi_plan.specs.Plans.{PlanData, IsPlace, record_at}
use Rattle.edi_plan.specs.Sides.{targets}
use Rattle.edi_plan.specs.Whole.{IsWholePlan}
use Rattle.edi_plan.specs.declared.record.PlanEnd.{PlanEnd}
use Rattle.std.specs.List.{AllByRecursion}
use Rattle.std.proofs.lemmas.List.Sorted.{IsPermutation-sym}
use Rattle.edi_line.proofs.EachElement.{each_from_places, each_joined, each_in_any_order, each_weaker}
use Rattle.edi_record.specs.declared.record.Kind.TheVariants.{Lnk}
use Rattle.edi_plan.specs.Places.{places_of}
use Rattle.edi_plan.proofs.PlaceLemmas.{place_there}
use Rattle.edi_schema.proofs.SortedLists.{IsPermutation-sort_by}
use Rattle.edi_objects.specs.LinksOf.{entries_of, index_of, naming_cmp, named_by}
use Rattle.edi_objects.specs.inner.Indices.{all_named}
use Rattle.edi_objects.proofs.AttributeLists.{one_of_all, one_of_few}
use Rattle.edi_objects.proofs.Indexed.{naming_total}

-- one of the first few ends of a link is a record
pub end_there : (p : PlanData) → IsWholePlan p → (link : ℕ) → IsPlace p link → (ends few : List PlanEnd) (n k : ℕ) (e : PlanEnd)
    → ends ≡ (record_at p link).ends → few ≡ take n ends → k < length few → e ≡ get_or few k e → IsPlace p e.target
end_there p whole link there ends few n k e are is within at =
    let same : few ≡ take n (record_at p link).ends = is ∙ ap (take n) are in
    one_of_few (λ (x : PlanEnd). IsPlace p x.target) (record_at p link).ends (whole.there link there) n k e
    (subst (λ (xs : List PlanEnd). k < length xs) same within) (at ∙ ap (λ (xs : List PlanEnd). get_or xs k e) same)

all_kept : {X : Type 0} (P : X → Type 0) (p : X → Bool) (xs : List X) → AllByRecursion P xs → AllByRecursion P (filter p xs)
all_kept P p [] all = tt
all_kept P p (x ∷ xs) all = one (p x) (all_kept P p xs all.1)
  where
    one : (b : Bool) → AllByRecursion P (filter p xs) → AllByRecursion P (cond b (x ∷ filter p xs) (filter p xs))
    one true more = (all.0, more)
    one false more = more

module _ (p : PlanData) where
  abbrev IsLinkThere : ℕ × ℕ → Type 0
  IsLinkThere x = IsPlace p x.1

  named_there : (link : ℕ) → IsPlace p link → (places : List ℕ) → AllByRecursion IsLinkThere (map (λ place. (place, link)) places)
  named_there link there [] = tt
  named_there link there (x ∷ xs) = (there, named_there link there xs)

  all_there : AllByRecursion IsLinkThere (all_named p)
  all_there = each_joined IsLinkThere (named_by p) (places_of Lnk p)
      (each_weaker (IsPlace p) (λ link. AllByRecursion IsLinkThere (named_by p link)) (λ link there. named_there link there (targets (record_at p link))) (places_of Lnk p) (each_from_places (IsPlace p) (places_of Lnk p) 0 (place_there Lnk p)))

  index_there : AllByRecursion IsLinkThere (index_of p)
  index_there = unfold index_of in each_in_any_order IsLinkThere (all_named p) (index_of p) (IsPermutation-sym _ _ (IsPermutation-sort_by naming_cmp naming_total (all_named p))) all_there

  -- the links of a record are records
  pub link_there : (place k : ℕ) (d : ℕ × ℕ) → k < length (entries_of (index_of p) place) → IsPlace p (get_or (entries_of (index_of p) place) k d).1
  link_there place k d h = one_of_all IsLinkThere (entries_of (index_of p) place) (all_kept IsLinkThere (λ x. eqb x.0 place) (index_of p) index_there) k d h
