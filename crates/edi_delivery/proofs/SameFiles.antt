-- Names of files that are the same.
use Rattle.std.proofs.Common.{◌≡◌, ℕ, Bool, true, false, ◌||◌, List, [], ◌∷◌, ◌++◌, map, flat_map, refl, sym, ap, ◌∙◌}
use Rattle.std.specs.List.{list_any, IsDistinct, AllByRecursion}
use Rattle.std.specs.Str.{bytes_eq, str_to_ascii_lowercase}
use Rattle.std.proofs.lemmas.Bool.{both_ways, or_parts}
use Rattle.std.proofs.lemmas.Slice.Eq.{bytes_eq-Decides}
use Rattle.std.proofs.lemmas.List.{append_assoc, append-nil}
use Rattle.std.proofs.lemmas.List.Folds.{list_any-append}
use Rattle.edi_delivery.specs.NameParts.{is_same_name}
use Rattle.edi_delivery.specs.Lots.{files_of}
use Rattle.edi_delivery.specs.inner.Steps.{repeats_earlier}
use Rattle.edi_delivery.specs.inner.Noted.{lower_files, repeats_file}
use Rattle.edi_delivery.specs.declared.lot.Lot.{Lot}
use Rattle.edi_delivery.proofs.Repeats.{any_map}

-- ---- some of a list

or_exchange : (a b c d : Bool) → ((a || b) || (c || d)) ≡ ((a || c) || (b || d))
or_exchange true b c d = refl
or_exchange false true true d = refl
or_exchange false true false d = refl
or_exchange false false true d = refl
or_exchange false false false d = refl

any_or : {X : Type 0} (p q : X → Bool) (xs : List X) → list_any (λ x. p x || q x) xs ≡ (list_any p xs || list_any q xs)
any_or p q [] = refl
any_or p q (x ∷ xs) = ap (λ b. (p x || q x) || b) (any_or p q xs) ∙ or_exchange (p x) (q x) (list_any p xs) (list_any q xs)

none_of : {X : Type 0} (xs : List X) → list_any (λ x. false) xs ≡ false
none_of [] = refl
none_of (x ∷ xs) = none_of xs

any_exchange : {X Y : Type 0} (test : X → Y → Bool) (xs : List X) (ys : List Y) → list_any (λ x. list_any (test x) ys) xs ≡ list_any (λ y. list_any (λ x. test x y) xs) ys
any_exchange test [] ys = sym (none_of ys)
any_exchange test (x ∷ xs) ys = ap (λ b. list_any (test x) ys || b) (any_exchange test xs ys) ∙ sym (any_or (test x) (λ y. list_any (λ z. test z y) xs) ys)

pub any_flat : {X Y : Type 0} (test : Y → Bool) (f : X → List Y) (xs : List X) → list_any test (flat_map f xs) ≡ list_any (λ x. list_any test (f x)) xs
any_flat test f [] = refl
any_flat test f (x ∷ xs) = list_any-append test (f x) (flat_map f xs) ∙ ap (λ b. list_any test (f x) || b) (any_flat test f xs)

any_same : {X : Type 0} (p q : X → Bool) → ((x : X) → p x ≡ q x) → (xs : List X) → list_any p xs ≡ list_any q xs
any_same p q same [] = refl
any_same p q same (x ∷ xs) = ap (λ b. b || list_any p xs) (same x) ∙ ap (λ b. q x || b) (any_same p q same xs)

-- ---- repeats_earlier within a list, and of another

repeats_parts : (ks es xs : List (List ℕ)) → repeats_earlier (ks ++ es) xs ≡ (list_any (λ x. list_any (bytes_eq x) ks) xs || repeats_earlier es xs)
repeats_parts ks es [] = refl
repeats_parts ks es (x ∷ xs) =
    ap (λ b. b || repeats_earlier ((ks ++ es) ++ x ∷ []) xs) (list_any-append (bytes_eq x) ks es)
    ∙ (ap (λ b. (list_any (bytes_eq x) ks || list_any (bytes_eq x) es) || b) (ap (λ t. repeats_earlier t xs) (append_assoc ks es (x ∷ [])) ∙ repeats_parts ks (es ++ x ∷ []) xs)
    ∙ or_exchange (list_any (bytes_eq x) ks) (list_any (bytes_eq x) es) (list_any (λ y. list_any (bytes_eq y) ks) xs) (repeats_earlier (es ++ x ∷ []) xs))

repeats_cut : (ks xs : List (List ℕ)) → repeats_earlier ks xs ≡ (list_any (λ x. list_any (bytes_eq x) ks) xs || repeats_earlier [] xs)
repeats_cut ks xs = ap (λ t. repeats_earlier t xs) (sym (append-nil ks)) ∙ repeats_parts ks [] xs

pub bytes_turned : (xs ys : List ℕ) → bytes_eq xs ys ≡ bytes_eq ys xs
bytes_turned xs ys = go (bytes_eq xs ys) refl (bytes_eq ys xs) refl
  where
    go : (a : Bool) → bytes_eq xs ys ≡ a → (b : Bool) → bytes_eq ys xs ≡ b → a ≡ b
    go true e true f = refl
    go false e false f = refl
    go true e false f = let same : xs ≡ ys = (bytes_eq-Decides xs ys).0 e in sym (sym f ∙ (ap (λ t. bytes_eq ys t) same ∙ (ap (λ t. bytes_eq t ys) (sym same) ∙ e)))
    go false e true f = let same : ys ≡ xs = (bytes_eq-Decides ys xs).0 f in sym e ∙ (ap (λ t. bytes_eq xs t) same ∙ (ap (λ t. bytes_eq t xs) (sym same) ∙ f))

none_is : (x : List ℕ) (xs : List (List ℕ)) → list_any (λ y. list_any (bytes_eq y) (x ∷ [])) xs ≡ false → AllByRecursion (λ y. bytes_eq x y ≡ false) xs
none_is x [] e = tt
none_is x (y ∷ ys) e = let p = or_parts _ _ e in (bytes_turned x y ∙ (or_parts _ _ p.0).0, none_is x ys p.1)

is_none : (x : List ℕ) (xs : List (List ℕ)) → AllByRecursion (λ y. bytes_eq x y ≡ false) xs → list_any (λ y. list_any (bytes_eq y) (x ∷ [])) xs ≡ false
is_none x [] h = refl
is_none x (y ∷ ys) h = let here : bytes_eq y x ≡ false = bytes_turned y x ∙ h.0 in rw here (is_none x ys h.1)

distinct_bytes : (xs : List (List ℕ)) → repeats_earlier [] xs ≡ false → IsDistinct bytes_eq xs
unfolding IsDistinct
distinct_bytes [] e = tt
distinct_bytes (x ∷ xs) e = let p = or_parts _ _ (sym (repeats_cut (x ∷ []) xs) ∙ e) in (none_is x xs p.0, distinct_bytes xs p.1)

bytes_distinct : (xs : List (List ℕ)) → IsDistinct bytes_eq xs → repeats_earlier [] xs ≡ false
unfolding IsDistinct
bytes_distinct [] h = refl
bytes_distinct (x ∷ xs) h = repeats_cut (x ∷ []) xs ∙ (ap (λ b. b || repeats_earlier [] xs) (is_none x xs h.0) ∙ bytes_distinct xs h.1)

all_lower : (x : List ℕ) (xs : List (List ℕ)) → AllByRecursion (λ y. is_same_name x y ≡ false) xs → AllByRecursion (λ y. bytes_eq (str_to_ascii_lowercase x) y ≡ false) (map str_to_ascii_lowercase xs)
all_lower x [] h = tt
all_lower x (y ∷ ys) h = (h.0, all_lower x ys h.1)

all_upper : (x : List ℕ) (xs : List (List ℕ)) → AllByRecursion (λ y. bytes_eq (str_to_ascii_lowercase x) y ≡ false) (map str_to_ascii_lowercase xs) → AllByRecursion (λ y. is_same_name x y ≡ false) xs
all_upper x [] h = tt
all_upper x (y ∷ ys) h = (h.0, all_upper x ys h.1)

pub lower_distinct : (xs : List (List ℕ)) → IsDistinct is_same_name xs → IsDistinct bytes_eq (map str_to_ascii_lowercase xs)
unfolding IsDistinct
lower_distinct [] h = tt
lower_distinct (x ∷ xs) h = (all_lower x xs h.0, lower_distinct xs h.1)

pub distinct_lower : (xs : List (List ℕ)) → IsDistinct bytes_eq (map str_to_ascii_lowercase xs) → IsDistinct is_same_name xs
unfolding IsDistinct
distinct_lower [] h = tt
distinct_lower (x ∷ xs) h = (all_upper x xs h.0, distinct_lower xs h.1)

-- ---- the files of a lot

-- whether the second lot has a file of the first
abbrev pub shares : Lot → Lot → Bool
shares one other = list_any (λ file. list_any (λ again. is_same_name again file) (files_of other)) (files_of one)

abbrev pub has_twins : Lot → Bool
has_twins lot = repeats_earlier [] (map str_to_ascii_lowercase (files_of lot))

shared : (lots : List Lot) (lot : Lot) → list_any (λ x. list_any (bytes_eq x) (lower_files lots)) (map str_to_ascii_lowercase (files_of lot)) ≡ list_any (λ (l : Lot). shares l lot) lots
shared lots lot =
    any_map (λ x. list_any (bytes_eq x) (lower_files lots)) str_to_ascii_lowercase (files_of lot)
    ∙ (any_same _ _ (λ f. any_map (bytes_eq (str_to_ascii_lowercase f)) str_to_ascii_lowercase (flat_map files_of lots)) (files_of lot)
    ∙ (any_exchange (λ (f g : List ℕ). is_same_name f g) (files_of lot) (flat_map files_of lots)
    ∙ any_flat (λ g. list_any (λ f. is_same_name f g) (files_of lot)) files_of lots))

pub file_repeats : (lots : List Lot) (lot : Lot) → repeats_file lots lot ≡ (list_any (λ (l : Lot). shares l lot) lots || has_twins lot)
file_repeats lots lot = repeats_cut (lower_files lots) (map str_to_ascii_lowercase (files_of lot)) ∙ ap (λ b. b || has_twins lot) (shared lots lot)

pub no_twins : (lot : Lot) → has_twins lot ≡ false → IsDistinct is_same_name (files_of lot)
no_twins lot e = distinct_lower (files_of lot) (distinct_bytes (map str_to_ascii_lowercase (files_of lot)) e)

pub twins : (lot : Lot) → has_twins lot ≡ true → ¬ (IsDistinct is_same_name (files_of lot))
twins lot e h = both_ways _ (bytes_distinct (map str_to_ascii_lowercase (files_of lot)) (lower_distinct (files_of lot) h)) e
