-- Lines on files.
use Rattle.std.proofs.Common.{◌≡◌, ◌∙◌, ℕ, ◌+◌, ◌<◌, Bool, true, false, List, [], ◌∷◌, ◌++◌, Some, append_assoc, append-nil, ap, get_or, length, map, refl, sym, take, option_to_list, codes}
use Rattle.std.specs.Prelude.{filter, flat_map, if◌then◌else◌}
use Rattle.std.specs.Path.{path_join, with_separator}
use Rattle.edi_delivery.specs.Lots.{files_of}
use Rattle.edi_delivery.specs.declared.lot.Lot.{Lot}
use Rattle.edi_answers.specs.Hashes.{escaped_name, named_line}
use Rattle.edi_files.specs.Reasons.{reason_line}
use Rattle.edi_files.specs.declared.reason.Reason.TheVariants.{NoFile}
use Rattle.edi_deliveries.specs.Deliveries.{found_name, found_names, missing_line}
use Rattle.edi_deliveries.proofs.Steps.{flat_push, take_at}

pub join_nothing : (base : List ℕ) → path_join base [] ≡ with_separator base
unfolding path_join
join_nothing base = append-nil (with_separator base)

-- the names that are found in one lot more
pub found_more : (names : List (List ℕ)) (lots : List Lot) (i : ℕ) (lot : Lot) (a b : List (List ℕ)) → i < length lots → lot ≡ get_or lots i lot
    → a ≡ found_names names (take i lots) → b ≡ a ++ flat_map (λ file. option_to_list (found_name names file)) (files_of lot)
    → b ≡ found_names names (take (i + 1) lots)
found_more names lots i lot a b h is so_far more =
    let of_lot = λ (l : Lot). flat_map (λ file. option_to_list (found_name names file)) (files_of l) in
    more ∙ (ap (λ l. l ++ of_lot lot) so_far ∙ (ap (λ l. found_names names (take i lots) ++ of_lot l) is
    ∙ sym (ap (found_names names) (take_at lots i lot h) ∙ flat_push of_lot (take i lots) (get_or lots i lot))))

-- the lines on a file that is missing, behind others
pub missing_more : (old named new path given name : List ℕ) → given ≡ path → named ≡ old ++ named_line given (codes "cannot read") → name ≡ escaped_name path
    → new ≡ named ++ reason_line name (Some NoFile) → new ≡ old ++ missing_line path
missing_more old named new path given name is first shown last =
    last ∙ (ap (λ l. l ++ reason_line name (Some NoFile)) (first ∙ ap (λ p. old ++ named_line p (codes "cannot read")) is)
    ∙ (ap (λ n. (old ++ named_line path (codes "cannot read")) ++ reason_line n (Some NoFile)) shown
    ∙ append_assoc old (named_line path (codes "cannot read")) (reason_line (escaped_name path) (Some NoFile))))

pub map_push : {X Y : Type 0} (f : X → Y) (xs : List X) (x : X) → map f (xs ++ x ∷ []) ≡ map f xs ++ f x ∷ []
map_push f [] x = refl
map_push f (y ∷ ys) x = ap (λ l. f y ∷ l) (map_push f ys x)

-- what is kept of a list with one more, from what is kept of the rest
kept_more : {X : Type 0} (b : Bool) (y : X) (more rest last : List X) → more ≡ rest ++ last → (if b then y ∷ more else more) ≡ (if b then y ∷ rest else rest) ++ last
kept_more true y more rest last is = ap (λ l. y ∷ l) is
kept_more false y more rest last is = is

filter_push : {X : Type 0} (p : X → Bool) (xs : List X) (x : X) → filter p (xs ++ x ∷ []) ≡ filter p xs ++ filter p (x ∷ [])
filter_push p [] x = refl
filter_push p (y ∷ ys) x = kept_more (p y) y (filter p (ys ++ x ∷ [])) (filter p ys) (filter p (x ∷ [])) (filter_push p ys x)

-- over the names so far, and one more
module _ {X : Type 0} (text : X → List ℕ) (p : List ℕ → Bool) (f : List ℕ → List ℕ) (xs : List X) (i : ℕ) (x : X) (h : i < length xs) (is : x ≡ get_or xs i x) where
  names_more : filter p (map text (take (i + 1) xs)) ≡ filter p (map text (take i xs)) ++ filter p (text x ∷ [])
  names_more = ap (λ l. filter p (map text l)) (take_at xs i x h) ∙ (ap (filter p) (map_push text (take i xs) (get_or xs i x))
      ∙ (filter_push p (map text (take i xs)) (text (get_or xs i x)) ∙ ap (λ y. filter p (map text (take i xs)) ++ filter p (text y ∷ [])) (sym is)))

  -- one that has a line
  pub one_unnamed_more : (a b : List ℕ) → p (text x) ≡ true → a ≡ flat_map f (filter p (map text (take i xs))) → b ≡ a ++ f (text x)
      → b ≡ flat_map f (filter p (map text (take (i + 1) xs)))
  one_unnamed_more a b e so_far more =
      let one : filter p (text x ∷ []) ≡ text x ∷ [] = ap (λ (t : Bool). if t then text x ∷ [] else []) e in
      more ∙ (ap (λ l. l ++ f (text x)) so_far ∙ sym (ap (flat_map f) (names_more ∙ ap (λ l. filter p (map text (take i xs)) ++ l) one)
      ∙ flat_push f (filter p (map text (take i xs))) (text x)))

  -- one that has none
  pub one_named_more : (a b : List ℕ) → p (text x) ≡ false → a ≡ flat_map f (filter p (map text (take i xs))) → b ≡ a
      → b ≡ flat_map f (filter p (map text (take (i + 1) xs)))
  one_named_more a b e so_far more =
      let none : filter p (text x ∷ []) ≡ [] = ap (λ (t : Bool). if t then text x ∷ [] else []) e in
      more ∙ (so_far ∙ sym (ap (flat_map f) (names_more ∙ (ap (λ l. filter p (map text (take i xs)) ++ l) none ∙ append-nil (filter p (map text (take i xs)))))))

-- over the files so far, and one more
module _ {X : Type 0} (p : X → Bool) (f : X → List ℕ) (xs : List X) (i : ℕ) (x : X) (h : i < length xs) (is : x ≡ get_or xs i x) where
  files_more : filter p (take (i + 1) xs) ≡ filter p (take i xs) ++ filter p (x ∷ [])
  files_more = ap (filter p) (take_at xs i x h) ∙ (filter_push p (take i xs) (get_or xs i x) ∙ ap (λ y. filter p (take i xs) ++ filter p (y ∷ [])) (sym is))

  -- one that has lines
  pub one_missing_more : (a b : List ℕ) → p x ≡ true → a ≡ flat_map f (filter p (take i xs)) → b ≡ a ++ f x → b ≡ flat_map f (filter p (take (i + 1) xs))
  one_missing_more a b e so_far more =
      let one : filter p (x ∷ []) ≡ x ∷ [] = ap (λ (t : Bool). if t then x ∷ [] else []) e in
      more ∙ (ap (λ l. l ++ f x) so_far ∙ sym (ap (flat_map f) (files_more ∙ ap (λ l. filter p (take i xs) ++ l) one) ∙ flat_push f (filter p (take i xs)) x))

  -- one that has none
  pub one_there_more : (a b : List ℕ) → p x ≡ false → a ≡ flat_map f (filter p (take i xs)) → b ≡ a → b ≡ flat_map f (filter p (take (i + 1) xs))
  one_there_more a b e so_far more =
      let none : filter p (x ∷ []) ≡ [] = ap (λ (t : Bool). if t then x ∷ [] else []) e in
      more ∙ (so_far ∙ sym (ap (flat_map f) (files_more ∙ (ap (λ l. filter p (take i xs) ++ l) none ∙ append-nil (filter p (take i xs))))))
