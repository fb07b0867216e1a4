-- Names of files lead out of no folder.
use Rattle.std.proofs.Common.{◌≡◌, ◌≢◌, ℕ, zero, suc, ◌<◌, Bool, true, false, ◌&&◌, List, [], ◌∷◌, All, codes, refl, sym, ap, ◌∙◌, arith}
use Rattle.std.specs.List.{list_all}
use Rattle.std.proofs.lemmas.Bool.{and_parts, leb-true}
use Rattle.std.proofs.lemmas.Bool.Decides.{nat_tests}
use Rattle.edi_delivery.specs.NameParts.{is_word_byte, is_file_byte, is_file_name}
use Rattle.edi_delivery.specs.Laws.{StaysInFolder}

file_of_word : (c : ℕ) → is_word_byte c ≡ true → is_file_byte c ≡ true
file_of_word c e = rw e refl

printed : (c : ℕ) → is_file_byte c ≡ true → (32 < c) × (c < 127)
printed c e = (grind (arith, nat_tests), grind (arith, nat_tests))

no_slash : (c : ℕ) → is_file_byte c ≡ true → c ≢ 47
no_slash c e same = let no : false ≡ true = ap is_file_byte (sym same) ∙ e in absurd cc

no_backslash : (c : ℕ) → is_file_byte c ≡ true → c ≢ 92
no_backslash c e same = let no : false ≡ true = ap is_file_byte (sym same) ∙ e in absurd cc

all_bytes : (P : ℕ → Type 0) → ((c : ℕ) → is_file_byte c ≡ true → P c) → (cs : List ℕ) → list_all is_file_byte cs ≡ true → All P cs
all_bytes P to [] e k d below = absurd (omega arith)
all_bytes P to (c ∷ cs) e zero d below = to c (and_parts _ _ e).0
all_bytes P to (c ∷ cs) e (suc k) d below = all_bytes P to cs (and_parts _ _ e).1 k d (omega arith)

pub in_folder : (name : List ℕ) → is_file_name name ≡ true → StaysInFolder name
in_folder [] e = let no : false ≡ true = e in absurd cc
in_folder (c ∷ cs) e =
    let first = (and_parts (is_word_byte c) _ e).0 in
    let rest = (and_parts (is_word_byte c) _ e).1 in
    let bytes : list_all is_file_byte (c ∷ cs) ≡ true = both _ _ (file_of_word c first) (and_parts _ _ rest).0 in
    record {
      some = λ same. absurd cc;
      short = leb-true _ _ (and_parts _ _ rest).1;
      printed = all_bytes (λ b. (32 < b) × (b < 127)) printed (c ∷ cs) bytes;
      no_slash = all_bytes (λ b. b ≢ 47) no_slash (c ∷ cs) bytes;
      no_backslash = all_bytes (λ b. b ≢ 92) no_backslash (c ∷ cs) bytes;
      not_here = no_point (codes ".") refl;
      not_above = no_point (codes "..") refl;
    }
  where
    both : (a b : Bool) → a ≡ true → b ≡ true → (a && b) ≡ true
    both a b p q = rw (p, q) refl

    no_point : (text : List ℕ) → is_file_name text ≡ false → c ∷ cs ≢ text
    no_point text f same = let no : false ≡ true = sym f ∙ (ap is_file_name (sym same) ∙ e) in absurd cc
