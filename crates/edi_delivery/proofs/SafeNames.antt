-- The name of a file that is made of two parts is the name of a file.
use Rattle.std.proofs.Common.{◌≡◌, ℕ, suc, ◌+◌, ◌≤◌, true, false, List, [], ◌∷◌, ◌++◌, length, length-append, refl, arith}
use Rattle.std.specs.List.{list_all}
use Rattle.std.proofs.lemmas.Bool.{and_parts, leb-true, le-leb, and_from}
use Rattle.edi_delivery.specs.NameParts.{is_word_byte, is_part_byte, is_file_byte, is_name_part, is_file_name, extension_text, file_name}
use Rattle.edi_delivery.specs.declared.file_name.Extension.{Extension}
use Rattle.edi_delivery.specs.declared.file_name.Extension.TheVariants.{Scd, Dic, Gen, Geo, Qal, Vec}

part_of_word : (c : ℕ) → is_word_byte c ≡ true → is_part_byte c ≡ true
part_of_word c e = rw e refl

file_of_part : (c : ℕ) → is_part_byte c ≡ true → is_file_byte c ≡ true
file_of_part c e = rw e refl

all_files : (cs : List ℕ) → list_all is_part_byte cs ≡ true → list_all is_file_byte cs ≡ true
all_files [] e = refl
all_files (c ∷ cs) e = let p = and_parts _ _ e in and_from _ _ (file_of_part c p.0) (all_files cs p.1)

all_append : (xs ys : List ℕ) → list_all is_file_byte xs ≡ true → list_all is_file_byte ys ≡ true → list_all is_file_byte (xs ++ ys) ≡ true
all_append [] ys e f = f
all_append (x ∷ xs) ys e f = let p = and_parts _ _ e in and_from _ _ p.0 (all_append xs ys p.1 f)

pub extension_bytes : (extension : Extension) → list_all is_file_byte (extension_text extension) ≡ true
extension_bytes Scd = refl
extension_bytes Dic = refl
extension_bytes Gen = refl
extension_bytes Geo = refl
extension_bytes Qal = refl
extension_bytes Vec = refl

pub extension_length : (extension : Extension) → length (extension_text extension) ≡ 4
extension_length Scd = refl
extension_length Dic = refl
extension_length Gen = refl
extension_length Geo = refl
extension_length Qal = refl
extension_length Vec = refl

part_bytes : (text : List ℕ) → is_name_part text ≡ true → list_all is_file_byte text ≡ true
part_bytes [] e = refl
part_bytes (c ∷ cs) e = let p = and_parts _ _ e in and_from _ _ (file_of_part c (part_of_word c p.0)) (all_files cs (and_parts _ _ p.1).0)

part_length : (text : List ℕ) → is_name_part text ≡ true → length text ≤ 125
part_length [] e = omega arith
part_length (c ∷ cs) e = leb-true _ _ (and_parts _ _ (and_parts _ _ e).1).1

pub made_of_parts : (lot own : List ℕ) (extension : Extension) → is_name_part lot ≡ true → is_name_part own ≡ true → is_file_name (file_name lot extension own) ≡ true
made_of_parts [] own extension e f = let no : false ≡ true = e in absurd cc
made_of_parts (c ∷ cs) own extension e f =
    let p = and_parts _ _ e in
    let behind : list_all is_file_byte ((cs ++ own) ++ extension_text extension) ≡ true =
    all_append (cs ++ own) (extension_text extension) (all_append cs own (all_files cs (and_parts _ _ p.1).0) (part_bytes own f)) (extension_bytes extension) in
    let long = length-append (cs ++ own) (extension_text extension) in
    let fits : length (c ∷ ((cs ++ own) ++ extension_text extension)) ≤ 255 =
    few (length ((cs ++ own) ++ extension_text extension)) (length (cs ++ own)) (length cs) (length own) (length (extension_text extension)) long (length-append cs own) (extension_length extension) (part_length (c ∷ cs) e) (part_length own f) in
    and_from _ _ p.0 (and_from _ _ behind (le-leb _ _ fits))
  where
    few : (all front cs own ext : ℕ) → all ≡ front + ext → front ≡ cs + own → ext ≡ 4 → suc cs ≤ 125 → own ≤ 125 → suc all ≤ 255
    few all front cs own ext a b d g h = omega arith
