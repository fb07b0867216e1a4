-- Lists that are made by going over others.
use Rattle.std.proofs.Common.{◌≡◌, ℕ, ◌+◌, ◌<◌, ◌≤◌, List, [], ◌∷◌, ◌++◌, Option, None, Some, fold, length, get_or, take, refl, sym, ap, subst, ◌∙◌, option_map, option_to_list, IsPermutation}
use Rattle.std.specs.List.{cons_option, filter_map, flat_map}
use Rattle.std.proofs.lemmas.List.{append_assoc, append-nil, flat_map_more, take_all, take_more}
use Rattle.std.proofs.lemmas.List.Elements.{filter_map-append}
use Rattle.std.proofs.lemmas.List.Sums.{fold-append}
use Rattle.edi_record.specs.declared.record.Kind.{Kind}
use Rattle.edi_plan.specs.Places.{places_of}
use Rattle.edi_plan.specs.Plans.{PlanData, IsPlace, record_at}
use Rattle.edi_plan.proofs.PlaceLemmas.{place_of_kind, place_there}

-- what of the elements so far is kept, after one more

module _ {X Y : Type 0} (h : X → Option Y) (xs : List X) (i : ℕ) (d : X) (within : i < length xs) (before : List Y) where
  more_kept : before ++ filter_map h (take (i + 1) xs) ≡ before ++ filter_map h (take i xs) ++ filter_map h (get_or xs i d ∷ [])
  more_kept =
      ap (λ ys. before ++ filter_map h ys) (take_more xs i d within) ∙ (ap (λ ys. before ++ ys) (filter_map-append h (take i xs) (get_or xs i d ∷ []))
      ∙ sym (append_assoc before (filter_map h (take i xs)) (filter_map h (get_or xs i d ∷ []))))

  pub kept_one : (old new : List Y) (y : Y) → old ≡ before ++ filter_map h (take i xs) → h (get_or xs i d) ≡ Some y → new ≡ old ++ y ∷ [] → new ≡ before ++ filter_map h (take (i + 1) xs)
  kept_one old new y was is now = now ∙ (ap (λ ys. ys ++ y ∷ []) was ∙ (ap (λ o. before ++ filter_map h (take i xs) ++ cons_option o []) (sym is) ∙ sym more_kept))

  pub kept_none : (old : List Y) → old ≡ before ++ filter_map h (take i xs) → h (get_or xs i d) ≡ None → old ≡ before ++ filter_map h (take (i + 1) xs)
  kept_none old was is =
      was ∙ (sym (append-nil (before ++ filter_map h (take i xs))) ∙ (ap (λ o. before ++ filter_map h (take i xs) ++ cons_option o []) (sym is) ∙ sym more_kept))

  pub kept_any : (old new : List Y) → old ≡ before ++ filter_map h (take i xs) → new ≡ old ++ option_to_list (h (get_or xs i d)) → new ≡ before ++ filter_map h (take (i + 1) xs)
  kept_any old new was now = now ∙ (ap (λ ys. ys ++ option_to_list (h (get_or xs i d))) was ∙ (ap (λ ys. before ++ filter_map h (take i xs) ++ ys) (go (h (get_or xs i d))) ∙ sym more_kept))
    where
      go : (o : Option Y) → option_to_list o ≡ cons_option o []
      go None = refl
      go (Some y) = refl

-- the same of lists, one for each element

pub joined_more : {X Y : Type 0} (f : X → List Y) (xs : List X) (i : ℕ) (d : X) (old new : List Y) → i < length xs → old ≡ flat_map f (take i xs) → new ≡ old ++ f (get_or xs i d)
    → new ≡ flat_map f (take (i + 1) xs)
joined_more f xs i d old new within was now =
    now ∙ (ap (λ ys. ys ++ f (get_or xs i d)) was ∙ (flat_map_more f [] (take i xs) (get_or xs i d) ∙ ap (flat_map f) (sym (take_more xs i d within))))

-- what was hashed of the elements so far, after one more

pub folded_more : {S X Y : Type 0} (f : S → Y → S) (h : X → List Y) (xs : List X) (i : ℕ) (d : X) (start old new : S) → i < length xs → old ≡ fold f start (flat_map h (take i xs))
    → new ≡ fold f old (h (get_or xs i d)) → new ≡ fold f start (flat_map h (take (i + 1) xs))
folded_more f h xs i d start old new within was now =
    now ∙ (ap (λ s. fold f s (h (get_or xs i d))) was ∙ (sym (fold-append f start (flat_map h (take i xs)) (h (get_or xs i d)))
    ∙ ap (fold f start) (joined_more h xs i d (flat_map h (take i xs)) (flat_map h (take i xs) ++ h (get_or xs i d)) within refl refl)))

-- an option of a list, with nothing in front
pub option_map-nil : {Y : Type 0} (found : Option (List Y)) → option_map (λ ys. [] ++ ys) found ≡ found
option_map-nil None = refl
option_map-nil (Some ys) = refl

-- a loop over a list that is known

module _ {X : Type 0} (all items : List X) (is : items ≡ all) (n : ℕ) (d : X) where
  at_known : get_or items n d ≡ get_or all n d
  at_known = ap (λ (xs : List X). get_or xs n d) is

  pub known_within : n < length items → n < length all
  known_within within = subst (λ (xs : List X). n < length xs) is within

  pub known_one : {Y : Type 0} (h : X → Option Y) (old new : List Y) (y : Y) → n < length items → old ≡ filter_map h (take n all) → h (get_or items n d) ≡ Some y → new ≡ old ++ y ∷ []
      → new ≡ filter_map h (take (n + 1) all)
  known_one h old new y within was found now = kept_one h all n d (known_within within) [] old new y was (ap h (sym at_known) ∙ found) now

  pub known_none : {Y : Type 0} (h : X → Option Y) (old : List Y) → n < length items → old ≡ filter_map h (take n all) → h (get_or items n d) ≡ None → old ≡ filter_map h (take (n + 1) all)
  known_none h old within was none = kept_none h all n d (known_within within) [] old was (ap h (sym at_known) ∙ none)

  pub known_any : {Y : Type 0} (h : X → Option Y) (old new : List Y) → n < length items → old ≡ filter_map h (take n all) → new ≡ old ++ option_to_list (h (get_or items n d)) → new ≡ filter_map h (take (n + 1) all)
  known_any h old new within was now = kept_any h all n d (known_within within) [] old new was (now ∙ ap (λ x. old ++ option_to_list (h x)) at_known)

  pub known_joined : {Y : Type 0} (f : X → List Y) (old new : List Y) → n < length items → old ≡ flat_map f (take n all) → new ≡ old ++ f (get_or items n d) → new ≡ flat_map f (take (n + 1) all)
  known_joined f old new within was now = joined_more f all n d old new (known_within within) was (now ∙ ap (λ x. old ++ f x) at_known)

  pub known_folded : {S Y : Type 0} (f : S → Y → S) (h : X → List Y) (start old new : S) → n < length items → old ≡ fold f start (flat_map h (take n all)) → new ≡ fold f old (h (get_or items n d))
      → new ≡ fold f start (flat_map h (take (n + 1) all))
  known_folded f h start old new within was now = folded_more f h all n d start old new (known_within within) was (now ∙ ap (λ x. fold f old (h x)) at_known)

-- what was made of the whole list

pub whole_made : {X Y : Type 0} (f : List X → Y) (all items : List X) (n : ℕ) (made : Y) → items ≡ all → length items ≤ n → made ≡ f (take n all) → made ≡ f all
whole_made f all items n made is whole was = was ∙ ap f (take_all n all (subst (λ xs. length xs ≤ n) is whole))

pub whole_sorted : {X Y : Type 0} (f : List X → List Y) (all items : List X) (n : ℕ) (made sorted : List Y) → items ≡ all → length items ≤ n → made ≡ f (take n all) → IsPermutation made sorted
    → IsPermutation (f all) sorted
whole_sorted f all items n made sorted is whole was moved = subst (λ xs. IsPermutation xs sorted) (whole_made f all items n made is whole was) moved

-- places of a type

pub listed_there : (kind : Kind) (p : PlanData) (items : List ℕ) (n : ℕ) → items ≡ places_of kind p → n < length items → IsPlace p (get_or items n 0)
listed_there kind p items n is within =
    subst (λ (xs : List ℕ). IsPlace p (get_or xs n 0)) (sym is) (place_there kind p n (subst (λ (xs : List ℕ). n < length xs) is within))

pub listed_kind : (kind : Kind) (p : PlanData) (items : List ℕ) (n : ℕ) → items ≡ places_of kind p → n < length items → (record_at p (get_or items n 0)).kind ≡ kind
listed_kind kind p items n is within =
    subst (λ (xs : List ℕ). (record_at p (get_or xs n 0)).kind ≡ kind) (sym is) (place_of_kind kind p n (subst (λ (xs : List ℕ). n < length xs) is within))
