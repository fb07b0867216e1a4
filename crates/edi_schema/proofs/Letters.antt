-- The letters of the classes that records state are A to Z.
use Rattle.std.proofs.Common.{◌≡◌, ℕ, Bool, true, false, cond, ◌&&◌, nat_le, List, [], ◌∷◌, Option, Some, None, refl, subst, arith, sym}
use Rattle.std.specs.List.{AllByRecursion, AllZip}
use Rattle.std.proofs.lemmas.Bool.{leb-true, and_parts}
use Rattle.std.proofs.lemmas.List.Elements.{recursion_from_All, All-from_recursion}
use Rattle.std.proofs.lemmas.List.Sorted.{All-permutation}
use Rattle.edi_line.specs.ZoneData.{ZoneData}
use Rattle.edi_record.specs.declared.name.Name.{Name}
use Rattle.edi_schema.specs.Roles.{KindCodes}
use Rattle.edi_schema.specs.Classes.{Classes, IsLetter}
use Rattle.edi_schema.specs.SchemaOf.{Words, letter_read, StatesClass, IsSchemaOf}
use Rattle.edi_schema.specs.declared.class.Class.{Class}

is_letter : (word_type : Option (List ℕ)) → IsLetter (letter_read word_type)
is_letter None = (omega arith, omega arith)
is_letter (Some []) = (omega arith, omega arith)
is_letter (Some (c ∷ [])) = go (nat_le 65 c && nat_le c 90) refl
  where
    go : (b : Bool) → (nat_le 65 c && nat_le c 90) ≡ b → IsLetter (cond b c 65)
    go true e = let both = and_parts (nat_le 65 c) (nat_le c 90) e in (leb-true 65 c both.0, leb-true c 90 both.1)
    go false e = (omega arith, omega arith)
is_letter (Some (c ∷ d ∷ cs)) = (omega arith, omega arith)

stated_letters : (kinds : KindCodes) (words : Words) (groups : List (List ZoneData)) (stated : Classes) → AllZip (StatesClass kinds words) groups stated → AllByRecursion (λ (e : Name × Class). IsLetter e.1.letter) stated
stated_letters kinds words [] [] all = tt
stated_letters kinds words [] (e ∷ es) all = absurd all
stated_letters kinds words (g ∷ gs) [] all = absurd all
stated_letters kinds words (g ∷ gs) (e ∷ es) all = (subst IsLetter (sym all.0.letter) (is_letter all.0.typ), stated_letters kinds words gs es all.1)

pub all_letters : (classes entries : List (List ZoneData)) (kinds : KindCodes) (s : Classes) → IsSchemaOf classes entries kinds s → AllByRecursion (λ (e : Name × Class). IsLetter e.1.letter) s
all_letters classes entries kinds s is =
    recursion_from_All (λ (e : Name × Class). IsLetter e.1.letter) s (All-permutation (λ (e : Name × Class). IsLetter e.1.letter) is.stated s is.same
    (All-from_recursion (λ (e : Name × Class). IsLetter e.1.letter) is.stated (stated_letters kinds is.words classes is.stated is.each_class)))
