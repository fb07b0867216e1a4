-- Where the names of classes rise, a class is found by its name where it stands.
use Rattle.std.proofs.Common.{◌≡◌, ℕ, zero, suc, List, [], ◌∷◌, Some, option_map, position, slice_get, ap, ◌∙◌, Less}
use Rattle.std.specs.Map.{keys_of}
use Rattle.std.proofs.lemmas.Option.{same_Some, none-some}
use Rattle.edi_record.specs.declared.name.Name.{Name}
use Rattle.edi_schema.specs.Classes.{Classes, IsSchema, is_name, name_cmp, class_name_at, place_of}
use Rattle.edi_schema.specs.Sorted.{AlwaysRises}
use Rattle.edi_schema.proofs.Names.{name_itself, other_name}
use Rattle.edi_schema.proofs.Noted.{position-here, position-later}
use Rattle.edi_schema.proofs.Ordered.{all_at}

in_place : (names : List Name) → AlwaysRises name_cmp names → (k : ℕ) (n : Name) → slice_get names k ≡ Some n → position (is_name n) names ≡ Some k
in_place [] up k n there = absurd (none-some n there)
in_place (x ∷ xs) up zero n there = position-here (is_name n) x xs (ap (is_name n) (same_Some x n there) ∙ name_itself n)
in_place (x ∷ xs) up (suc k) n there =
    position-later (is_name n) x xs (other_name x n (all_at (λ y. name_cmp x y ≡ Less) xs up.0 k n there)) ∙ ap (option_map suc) (in_place xs up.1 k n there)

pub found_in_place : (s : Classes) → IsSchema s → (k : ℕ) (name : Name) → class_name_at s k ≡ Some name → place_of s name ≡ Some k
found_in_place s keeps = in_place (keys_of s) keeps.in_order
