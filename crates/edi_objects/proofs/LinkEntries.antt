-- The links of a record are the links that name it.
use Rattle.std.proofs.Common.{◌≡◌, ℕ, Bool, true, false, cond, List, [], ◌∷◌, IsPermutation, eq-eqb, eqb, eqb-true, filter, get_or, refl, subst}
use Rattle.std.specs.List.{AllByRecursion, flat_map}
use Rattle.std.proofs.lemmas.List.Sorted.{IsPermutation-sym}
use Rattle.edi_line.proofs.EachElement.{each_from_places, each_unmapped, each_in_front, each_behind, each_joined, each_in_any_order, each_weaker}
use Rattle.edi_record.specs.declared.record.Kind.TheVariants.{Lnk}
use Rattle.edi_plan.specs.Places.{places_of}
use Rattle.edi_plan.specs.Plans.{PlanData, IsPlace, record_at}
use Rattle.edi_plan.specs.Sides.{targets}
use Rattle.edi_plan.proofs.PlaceLemmas.{has_place, place_of_kind, place_there}
use Rattle.edi_schema.proofs.SortedLists.{IsPermutation-sort_by}
use Rattle.edi_objects.specs.LinksOf.{entries_of, index_of, links_of, named_by, naming_cmp}
use Rattle.edi_objects.specs.Telling.{IsLinkOf}
use Rattle.edi_objects.specs.inner.Indices.{all_named}
use Rattle.edi_objects.proofs.AttributeLists.{all_mapped, one_of_all}
use Rattle.edi_objects.proofs.Indexed.{naming_total}

-- ---- what holds of all of a list that is made of another

all_unfiltered : {X : Type 0} (P : X → Type 0) (test : X → Bool) (xs : List X) → AllByRecursion P (filter test xs) → AllByRecursion (λ x. test x ≡ true → P x) xs
all_unfiltered P test [] all = tt
all_unfiltered P test (x ∷ xs) all = go (test x) refl all (all_unfiltered P test xs)
  where
    go : (b : Bool) → test x ≡ b → AllByRecursion P (cond b (x ∷ filter test xs) (filter test xs))
        → (AllByRecursion P (filter test xs) → AllByRecursion (λ y. test y ≡ true → P y) xs) → AllByRecursion (λ y. test y ≡ true → P y) (x ∷ xs)
    go true e all more = ((λ h. all.0), more all.1)
    go false e all more = ((λ h. absurd cc), more all)

all_filtered : {X : Type 0} (P : X → Type 0) (test : X → Bool) (xs : List X) → AllByRecursion (λ x. test x ≡ true → P x) xs → AllByRecursion P (filter test xs)
all_filtered P test [] all = tt
all_filtered P test (x ∷ xs) all = go (test x) refl (all_filtered P test xs all.1)
  where
    go : (b : Bool) → test x ≡ b → AllByRecursion P (filter test xs) → AllByRecursion P (cond b (x ∷ filter test xs) (filter test xs))
    go true e more = (all.0 e, more)
    go false e more = more

all_unjoined : {X Y : Type 0} (P : Y → Type 0) (f : X → List Y) (xs : List X) → AllByRecursion P (flat_map f xs) → AllByRecursion (λ x. AllByRecursion P (f x)) xs
all_unjoined P f [] all = tt
all_unjoined P f (x ∷ xs) all = (each_in_front P (f x) (flat_map f xs) all, all_unjoined P f xs (each_behind P (f x) (flat_map f xs) all))

-- ---- the links of a record

index_permuted : (p : PlanData) → IsPermutation (index_of p) (all_named p)
index_permuted p = unfold index_of in IsPermutation-sort_by naming_cmp naming_total (all_named p)

module _ (p : PlanData) (place : ℕ) (P : ℕ → Type 0) where
  -- what holds of a link where it names the record
  abbrev Entered : ℕ × ℕ → Type 0
  Entered x = eqb x.0 place ≡ true → P x.1

  -- what holds of the links of a record holds of each link that names it
  pub each_link : AllByRecursion P (links_of p place) → (link : ℕ) → IsLinkOf p place link → P link
  each_link all link is =
      let entries = each_unmapped (λ (x : ℕ × ℕ). x.1) P (entries_of (index_of p) place) all in
      let named = all_unfiltered (λ (x : ℕ × ℕ). P x.1) (λ (x : ℕ × ℕ). eqb x.0 place) (index_of p) entries in
      let listed = each_in_any_order Entered (index_of p) (all_named p) (index_permuted p) named in
      let found = has_place Lnk p link is.there is.kind in
      let at = one_of_all (λ (k : ℕ). AllByRecursion Entered (named_by p k)) (places_of Lnk p) (all_unjoined Entered (named_by p) (places_of Lnk p) listed) found.0 0 found.1 in
      let its : AllByRecursion Entered (named_by p link) = subst (λ (k : ℕ). AllByRecursion Entered (named_by p k)) found.2 at in
      one_of_all (λ (t : ℕ). Entered (t, link)) (targets (record_at p link)) (each_unmapped (λ (t : ℕ). (t, link)) Entered (targets (record_at p link)) its) is.at 0 is.within (eq-eqb _ _ is.names)

module _ (p : PlanData) (place : ℕ) where
  abbrev IsNamed : ℕ × ℕ → Type 0
  IsNamed x = IsLinkOf p x.0 x.1

  link_names : (link : ℕ) → IsPlace p link → (record_at p link).kind ≡ Lnk → AllByRecursion IsNamed (named_by p link)
  link_names link there is = all_mapped (λ (t : ℕ). (t, link)) IsNamed (targets (record_at p link))
      (each_from_places (λ (t : ℕ). IsLinkOf p t link) (targets (record_at p link)) 0 (λ k h. record { there = there; kind = is; at = k; within = h; names = refl }))

  all_name : AllByRecursion IsNamed (all_named p)
  all_name = each_joined IsNamed (named_by p) (places_of Lnk p)
      (each_from_places (λ (k : ℕ). AllByRecursion IsNamed (named_by p k)) (places_of Lnk p) 0 (λ m h. link_names (get_or (places_of Lnk p) m 0) (place_there Lnk p m h) (place_of_kind Lnk p m h)))

  index_names : AllByRecursion IsNamed (index_of p)
  index_names = each_in_any_order IsNamed (all_named p) (index_of p) (IsPermutation-sym _ _ (index_permuted p)) all_name

  -- what holds of each link that names a record holds of its links
  pub all_links : (P : ℕ → Type 0) → ((link : ℕ) → IsLinkOf p place link → P link) → AllByRecursion P (links_of p place)
  all_links P each = all_mapped (λ (x : ℕ × ℕ). x.1) P (entries_of (index_of p) place)
      (all_filtered (λ (x : ℕ × ℕ). P x.1) (λ (x : ℕ × ℕ). eqb x.0 place) (index_of p)
      (each_weaker IsNamed (λ (x : ℕ × ℕ). eqb x.0 place ≡ true → P x.1) (λ x is e. each x.1 (subst (λ (t : ℕ). IsLinkOf p t x.1) (eqb-true x.0 place e) is)) (index_of p) index_names))
