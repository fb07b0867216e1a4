-- Files that are found lie in the folder.
use Rattle.std.proofs.Common.{◌≡◌, ◌∙◌, ◌&&◌, ◌||◌, ◌+◌, ℕ, Bool, true, false, cond, List, [], ◌∷◌, ◌++◌, Option, Some, None, find, is_some, nat_le, nat_lt, option_map, refl, sym, ap, ap₂, bytes_eq, true≢false, arith}
use Rattle.std.specs.Char.{to_ascii_lowercase}
use Rattle.std.specs.List.{list_all, list_any}
use Rattle.std.specs.Str.{str_to_ascii_lowercase}
use Rattle.std.proofs.lemmas.Bool.Decides.{nat_tests}
use Rattle.std.proofs.lemmas.List.{length-map}
use Rattle.std.proofs.lemmas.Option.{same_Some}
use Rattle.std.proofs.lemmas.Slice.Eq.{bytes_eq-Decides}
use Rattle.edi_delivery.specs.NameParts.{is_file_byte, is_file_name, is_same_name, is_word_byte, most_of_file}
use Rattle.edi_delivery.proofs.InFolder.{in_folder}
use Rattle.edi_deliveries.specs.Deliveries.{found_name, found_path}
use Rattle.edi_deliveries.specs.Laws.{IsPathInFolder}

-- ---- names in lower case

word_lower : (c : ℕ) → is_word_byte (to_ascii_lowercase c) ≡ is_word_byte c
word_lower c = go (nat_lt c 65) refl (nat_lt c 91) refl
  where
    go : (a : Bool) → nat_lt c 65 ≡ a → (b : Bool) → nat_lt c 91 ≡ b → is_word_byte (cond a c (cond b (c + 32) c)) ≡ is_word_byte c
    go true e b f = refl
    go false e false f = refl
    go false e true f =
        let small : is_word_byte (c + 32) ≡ true = grind (arith, nat_tests) in
        let capital : is_word_byte c ≡ true = grind (arith, nat_tests) in
        small ∙ sym capital

file_lower : (c : ℕ) → is_file_byte (to_ascii_lowercase c) ≡ is_file_byte c
file_lower c = go (nat_lt c 65) refl (nat_lt c 91) refl
  where
    go : (a : Bool) → nat_lt c 65 ≡ a → (b : Bool) → nat_lt c 91 ≡ b → is_file_byte (cond a c (cond b (c + 32) c)) ≡ is_file_byte c
    go true e b f = refl
    go false e false f = refl
    go false e true f =
        let small : is_file_byte (c + 32) ≡ true = grind (arith, nat_tests) in
        let capital : is_file_byte c ≡ true = grind (arith, nat_tests) in
        small ∙ sym capital

bytes_lower : (cs : List ℕ) → list_all is_file_byte (str_to_ascii_lowercase cs) ≡ list_all is_file_byte cs
bytes_lower [] = refl
bytes_lower (c ∷ cs) = ap₂ ◌&&◌ (file_lower c) (bytes_lower cs)

name_lower : (name : List ℕ) → is_file_name (str_to_ascii_lowercase name) ≡ is_file_name name
name_lower [] = refl
name_lower (c ∷ cs) = ap₂ ◌&&◌ (word_lower c) (ap₂ ◌&&◌ (bytes_lower cs) (ap (λ n. nat_le n most_of_file) (length-map (c ∷ cs) to_ascii_lowercase)))

same_stays : (file name : List ℕ) → is_file_name file ≡ true → is_same_name file name ≡ true → is_file_name name ≡ true
same_stays file name is same =
    let lower = (bytes_eq-Decides (str_to_ascii_lowercase file) (str_to_ascii_lowercase name)).0 same in
    sym (name_lower name) ∙ (sym (ap is_file_name lower) ∙ (name_lower file ∙ is))

-- ---- what is found

found_among : (file : List ℕ) (names : List (List ℕ)) (name : List ℕ) → found_name names file ≡ Some name → (list_any (bytes_eq name) names ≡ true) × (is_same_name file name ≡ true)
found_among file [] name e = absurd (true≢false (sym (ap is_some e)))
found_among file (n ∷ ns) name e = go (is_same_name file n) refl e (found_among file ns name)
  where
    or_right : (a b : Bool) → b ≡ true → (a || b) ≡ true
    or_right true b h = refl
    or_right false b h = h

    go : (b : Bool) → is_same_name file n ≡ b → cond b (Some n) (find (is_same_name file) ns) ≡ Some name
        → (find (is_same_name file) ns ≡ Some name → (list_any (bytes_eq name) ns ≡ true) × (is_same_name file name ≡ true))
        → (list_any (bytes_eq name) (n ∷ ns) ≡ true) × (is_same_name file name ≡ true)
    go true is k more =
        let own : n ≡ name = same_Some n name k in
        (ap (λ b. b || list_any (bytes_eq name) ns) ((bytes_eq-Decides name n).1 (sym own)), ap (is_same_name file) (sym own) ∙ is)
    go false is k more = let h = more k in (or_right (bytes_eq name n) (list_any (bytes_eq name) ns) h.0, h.1)

pub path_in_folder : (before : List ℕ) (names : List (List ℕ)) (file path : List ℕ) → is_file_name file ≡ true → found_path before names file ≡ Some path
    → IsPathInFolder before names file path
path_in_folder before names file path is found = go (found_name names file) refl found
  where
    go : (o : Option (List ℕ)) → found_name names file ≡ o → option_map (λ name. before ++ name) o ≡ Some path → IsPathInFolder before names file path
    go None e k = absurd (true≢false (sym (ap is_some k)))
    go (Some n) e k =
        let h = found_among file names n e in
        record {
          name = n;
          is = sym (same_Some (before ++ n) path k);
          among = h.0;
          same = h.1;
          stays = in_folder n (same_stays file n is h.1);
        }
