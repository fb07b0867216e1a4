-- Lists with repeats_earlier.
use Rattle.std.proofs.Common.{Some, None, cond, ◌≡◌, ℕ, suc, ◌+◌, ◌<◌, Bool, true, false, ◌||◌, List, [], ◌∷◌, ◌++◌, length, map, get_or, take, drop, refl, sym, ap, ◌∙◌}
use Rattle.std.specs.List.{list_any}
use Rattle.std.specs.Str.{bytes_eq, str_to_ascii_lowercase}
use Rattle.std.proofs.Math.Seq.{drop-cons}
use Rattle.std.proofs.lemmas.List.{append_assoc, append-nil, take-append-drop, map-append, take_more}
use Rattle.std.proofs.lemmas.Bool.{or_left, or_right}
use Rattle.edi_line.specs.inner.Refusal.{first_broken}
use Rattle.edi_line.proofs.Truths.{or_false, or_assoc}
use Rattle.edi_delivery.specs.Lots.{files_of}
use Rattle.edi_delivery.specs.inner.Steps.{repeats_earlier}
use Rattle.edi_delivery.specs.inner.Noted.{lower_name, lower_files, repeats_name, repeats_file, take_tests}
use Rattle.edi_delivery.specs.declared.lot.Lot.{Lot}

pub any_map : {X Y : Type 0} (test : Y → Bool) (f : X → Y) (xs : List X) → list_any test (map f xs) ≡ list_any (λ x. test (f x)) xs
any_map test f [] = refl
any_map test f (x ∷ xs) = ap (λ b. test (f x) || b) (any_map test f xs)

repeats_snoc : (ks xs : List (List ℕ)) (x : List ℕ) → repeats_earlier ks (xs ++ x ∷ []) ≡ (repeats_earlier ks xs || list_any (bytes_eq x) (ks ++ xs))
repeats_snoc ks [] x = or_false (list_any (bytes_eq x) ks) ∙ ap (list_any (bytes_eq x)) (sym (append-nil ks))
repeats_snoc ks (y ∷ xs) x =
    ap (λ b. list_any (bytes_eq y) ks || b) (repeats_snoc (ks ++ y ∷ []) xs x ∙ ap (λ t. repeats_earlier (ks ++ y ∷ []) xs || list_any (bytes_eq x) t) (append_assoc ks (y ∷ []) xs))
    ∙ sym (or_assoc (list_any (bytes_eq y) ks) (repeats_earlier (ks ++ y ∷ []) xs) (list_any (bytes_eq x) (ks ++ y ∷ xs)))

repeats_at : (ks xs : List (List ℕ)) (x : List ℕ) (ys : List (List ℕ)) → list_any (bytes_eq x) (ks ++ xs) ≡ true → repeats_earlier ks (xs ++ x ∷ ys) ≡ true
repeats_at ks [] x ys e = or_left _ _ (ap (list_any (bytes_eq x)) (sym (append-nil ks)) ∙ e)
repeats_at ks (y ∷ xs) x ys e = or_right _ _ (repeats_at (ks ++ y ∷ []) xs x ys (ap (list_any (bytes_eq x)) (append_assoc ks (y ∷ []) xs) ∙ e))

-- ---- steps of the loop over the files of a lot

abbrev lower : List (List ℕ) → List (List ℕ)
lower xs = map str_to_ascii_lowercase xs

-- the next file is new
pub apart_more : (ks keys files : List (List ℕ)) (i : ℕ) (d : List ℕ) → i < length files → keys ≡ ks ++ lower (take i files) → repeats_earlier ks (lower (take i files)) ≡ false
    → list_any (bytes_eq (str_to_ascii_lowercase (get_or files i d))) keys ≡ false → repeats_earlier ks (lower (take (i + 1) files)) ≡ false
apart_more ks keys files i d below noted apart new =
    let more : lower (take (i + 1) files) ≡ lower (take i files) ++ str_to_ascii_lowercase (get_or files i d) ∷ [] = ap lower (take_more files i d below) ∙ map-append str_to_ascii_lowercase (take i files) (get_or files i d ∷ []) in
    let here : list_any (bytes_eq (str_to_ascii_lowercase (get_or files i d))) (ks ++ lower (take i files)) ≡ false = ap (list_any (bytes_eq (str_to_ascii_lowercase (get_or files i d)))) (sym noted) ∙ new in
    ap (repeats_earlier ks) more ∙ (repeats_snoc ks (lower (take i files)) (str_to_ascii_lowercase (get_or files i d)) ∙ rw (apart, here) refl)

-- and it is noted
pub noted_more : (ks keys new files : List (List ℕ)) (i : ℕ) (d value : List ℕ) → i < length files → keys ≡ ks ++ lower (take i files) → value ≡ str_to_ascii_lowercase (get_or files i d)
    → list_any (bytes_eq value) keys ≡ false → new ≡ cond (list_any (bytes_eq value) keys) keys (keys ++ value ∷ []) → new ≡ ks ++ lower (take (i + 1) files)
noted_more ks keys new files i d value below noted is none put =
    let more : lower (take (i + 1) files) ≡ lower (take i files) ++ value ∷ [] =
    ap lower (take_more files i d below) ∙ (map-append str_to_ascii_lowercase (take i files) (get_or files i d ∷ []) ∙ ap (λ t. lower (take i files) ++ t ∷ []) (sym is)) in
    put ∙ (ap (λ b. cond b keys (keys ++ value ∷ [])) none ∙ (ap (λ t. t ++ value ∷ []) noted ∙ (append_assoc ks (lower (take i files)) (value ∷ []) ∙ ap (λ t. ks ++ t) (sym more))))

-- the next file is there already
pub again_here : (ks keys files : List (List ℕ)) (i : ℕ) (d : List ℕ) → i < length files → keys ≡ ks ++ lower (take i files)
    → list_any (bytes_eq (str_to_ascii_lowercase (get_or files i d))) keys ≡ true → repeats_earlier ks (lower files) ≡ true
again_here ks keys files i d below noted old =
    let cut : files ≡ take i files ++ get_or files i d ∷ drop (suc i) files = sym (take-append-drop i files) ∙ ap (λ t. take i files ++ t) (drop-cons files i d below) in
    ap (λ t. repeats_earlier ks (lower t)) cut
    ∙ (ap (repeats_earlier ks) (map-append str_to_ascii_lowercase (take i files) (get_or files i d ∷ drop (suc i) files))
    ∙ repeats_at ks (lower (take i files)) (str_to_ascii_lowercase (get_or files i d)) (lower (drop (suc i) files)) (ap (list_any (bytes_eq (str_to_ascii_lowercase (get_or files i d)))) (sym noted) ∙ old))

-- ---- the name of a lot

pub name_again : (keys : List (List ℕ)) (lots : List Lot) (lot : Lot) → keys ≡ map lower_name lots → repeats_name lots lot ≡ list_any (bytes_eq (str_to_ascii_lowercase lot.name)) keys
name_again keys lots lot noted = sym (ap (list_any (bytes_eq (str_to_ascii_lowercase lot.name))) noted ∙ any_map (bytes_eq (str_to_ascii_lowercase lot.name)) lower_name lots)

pub file_again : (keys : List (List ℕ)) (lots : List Lot) (lot : Lot) → keys ≡ lower_files lots → repeats_file lots lot ≡ repeats_earlier keys (lower (files_of lot))
file_again keys lots lot noted = ap (λ ks. repeats_earlier ks (lower (files_of lot))) (sym noted)

pub least_709 : (lots : List Lot) (lot : Lot) → repeats_name lots lot ≡ true → first_broken (take_tests lots lot) ≡ Some 709
least_709 lots lot e = rw e refl

pub least_710 : (lots : List Lot) (lot : Lot) (rule : ℕ) → rule ≡ 710 → repeats_name lots lot ≡ false → repeats_file lots lot ≡ true → first_broken (take_tests lots lot) ≡ Some rule
least_710 lots lot rule is e f = rw (e, f, is) refl

pub both_new : (lots : List Lot) (lot : Lot) → repeats_name lots lot ≡ false → repeats_file lots lot ≡ false → first_broken (take_tests lots lot) ≡ None
both_new lots lot e f = rw (e, f) refl
