-- The names of paths.
use Rattle.std.proofs.Common.{◌≡◌, ℕ, zero, suc, ◌-◌, ◌<◌, ◌≤◌, List, [], ◌∷◌, ◌++◌, length, map, take, get_or, refl, sym, subst, ◌∙◌, ap, arith, Bor}
use Rattle.edi_outcome.specs.Words.{texts}
use Rattle.edi_answers.specs.Paths.{input_name, names_from, names_of_paths, output_name}

-- the names of inputs
abbrev pub input_names : List (Bor (List ℕ)) → List (List ℕ)
input_names paths = map (λ (path : Bor (List ℕ)). input_name path.now) paths

split_from : (path : Bor (List ℕ)) (paths : List (Bor (List ℕ))) (d : Bor (List ℕ))
    → names_from path.now (texts paths) ≡ input_names (take (length paths) (path ∷ paths)) ++ output_name (get_or (path ∷ paths) (length paths) d).now ∷ []
split_from path [] d = refl
split_from path (next ∷ paths) d = ap (λ names. input_name path.now ∷ names) (split_from next paths d)

-- the last path is the output's, and those before it are inputs'
split_names : (paths : List (Bor (List ℕ))) (d : Bor (List ℕ)) → 0 < length paths
    → names_of_paths (texts paths) ≡ input_names (take (length paths - 1) paths) ++ output_name (get_or paths (length paths - 1) d).now ∷ []
split_names [] d h = absurd (omega (arith, h))
split_names (path ∷ paths) d h =
    let e : length paths ≡ length (path ∷ paths) - 1 = omega arith in
    subst (λ (n : ℕ). names_of_paths (texts (path ∷ paths)) ≡ input_names (take n (path ∷ paths)) ++ output_name (get_or (path ∷ paths) n d).now ∷ []) e (split_from path paths d)

texts-append : (list : List (Bor (List ℕ))) (last : Bor (List ℕ)) → texts (list ++ last ∷ []) ≡ texts list ++ last.now ∷ []
texts-append [] last = refl
texts-append (text ∷ list) last = ap (λ l. text.now ∷ l) (texts-append list last)

all_names : (paths : List (Bor (List ℕ))) (i : ℕ) → length paths ≤ i → input_names (take i paths) ≡ input_names paths
all_names [] zero h = refl
all_names [] (suc i) h = refl
all_names (path ∷ paths) zero h = absurd (omega (arith, h))
all_names (path ∷ paths) (suc i) h = ap (λ l. input_name path.now ∷ l) (all_names paths i (omega (arith, h)))

-- the names of all the inputs, with that of the output
pub with_output : (paths names inputs : List (Bor (List ℕ))) (i : ℕ) (d name : Bor (List ℕ)) → 0 < length paths → inputs ≡ take (length paths - 1) paths
    → length inputs ≤ i → texts names ≡ input_names (take i inputs) → name.now ≡ output_name (get_or paths (length paths - 1) d).now
    → texts (names ++ name ∷ []) ≡ names_of_paths (texts paths)
with_output paths names inputs i d name some is end so_far last =
    texts-append names name ∙ (ap (λ l. l ++ name.now ∷ []) (so_far ∙ (all_names inputs i end ∙ ap input_names is))
    ∙ (ap (λ x. input_names (take (length paths - 1) paths) ++ x ∷ []) last ∙ sym (split_names paths d some)))

length-texts : (list : List (Bor (List ℕ))) → length (texts list) ≡ length list
length-texts [] = refl
length-texts (text ∷ list) = ap suc (length-texts list)

length-names_from : (path : List ℕ) (paths : List (List ℕ)) → length (names_from path paths) ≡ suc (length paths)
length-names_from path [] = refl
length-names_from path (next ∷ paths) = ap suc (length-names_from next paths)

length-names_of_paths : (paths : List (List ℕ)) → length (names_of_paths paths) ≡ length paths
length-names_of_paths [] = refl
length-names_of_paths (path ∷ paths) = length-names_from path paths

-- there are as many names as paths
pub as_many : (names paths : List (Bor (List ℕ))) → texts names ≡ names_of_paths (texts paths) → length paths ≡ length names
as_many names paths is = sym (sym (length-texts names) ∙ (ap length is ∙ (length-names_of_paths (texts paths) ∙ length-texts paths)))
