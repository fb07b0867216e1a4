-- The steps over what is read of the records, as the code takes them.
use Rattle.std.proofs.Common.{◌≡◌, ℕ, ◌+◌, ◌≤◌, Bool, List, [], ◌∷◌, length, map, position, Option, Some, None, option_map, refl, sym, ap, ◌∙◌, arith}
use Rattle.std.specs.Map.{keys_of}
use Rattle.std.specs.List.{position_or_len}
use Rattle.std.proofs.lemmas.List.{length-map}
use Rattle.std.proofs.lemmas.List.Sorted.{length_permutation}
use Rattle.edi_record.specs.declared.name.Name.{Name}
use Rattle.edi_schema.specs.Roles.{KindCodes}
use Rattle.edi_schema.specs.Classes.{Classes}
use Rattle.edi_schema.specs.inner.Drafts.{Said, definition_said, class_in, class_by, type_by}
use Rattle.edi_schema.specs.inner.Steps.{IfEntry, AreIdentified, IsFirstUnidentified, names_said, AreStated}
use Rattle.edi_schema.specs.declared.class.Class.{Class}
use Rattle.edi_schema.specs.declared.definition.Definition.{Definition}
use Rattle.edi_schema.specs.declared.fault.Source.{Source}
use Rattle.edi_schema.specs.declared.fault.SchemaFault.{SchemaFault}
use Rattle.edi_schema.specs.declared.fault.SchemaFault.TheVariants.{Memory, Line, Entry, Kinds}
use Rattle.edi_schema.proofs.WordFound.{position-map}

-- a fault of one step is one at which the steps stop
pub if_stops : (P Q : Source → ℕ → ℕ → Type 0) (fault : SchemaFault) → IfEntry P fault → ((file : Source) (rule at : ℕ) → P file rule at → Q file rule at) → IfEntry Q fault
if_stops P Q (Memory e) h to = tt
if_stops P Q (Line file rule at) h to = absurd h
if_stops P Q (Entry file rule at) h to = to file rule at h
if_stops P Q Kinds h to = absurd h

abbrev unidentified : Said → Bool
unidentified s = s.lacks_identifier

map_twice : {X Y Z : Type 0} (f : X → Y) (g : Y → Z) (xs : List X) → map g (map f xs) ≡ map (λ x. g (f x)) xs
map_twice f g [] = refl
map_twice f g (x ∷ xs) = ap (λ t. g (f x) ∷ t) (map_twice f g xs)

said_position : (ds : List Definition) → position unidentified (map definition_said ds) ≡ position (λ d. d.lacks_identifier) ds
said_position ds =
    ap (λ n. Rattle.std.proofs.Common.cond (Rattle.std.proofs.Common.ltb n (length (map definition_said ds))) (Some n) None) (position-map definition_said unidentified ds)
    ∙ ap (λ n. Rattle.std.proofs.Common.cond (Rattle.std.proofs.Common.ltb (position_or_len (λ d. unidentified (definition_said d)) ds) n) (Some (position_or_len (λ d. unidentified (definition_said d)) ds)) None) (length-map ds definition_said)

pub all_identified : (ds : List Definition) → position (λ d. d.lacks_identifier) ds ≡ None → AreIdentified (map definition_said ds)
all_identified ds e = said_position ds ∙ e

pub one_unidentified : (ds : List Definition) (at : ℕ) → ((place : ℕ) × (at ≡ place + 1) × (position (λ d. d.lacks_identifier) ds ≡ Some place)) → IsFirstUnidentified (map definition_said ds) at
one_unidentified ds at h = record { place = h.0; at_is = h.1; here = said_position ds ∙ h.2 }

pub names_again : (ds : List Definition) → map (λ d. (definition_said d).name) ds ≡ names_said (map definition_said ds)
names_again ds = sym (map_twice definition_said (λ s. s.name) ds)

-- each class has the name of its record
own_name : (kinds : KindCodes) (words : List Said) (s : Said) (p : Name × Class) → class_in kinds words s ≡ Some p → p.0 ≡ s.name
own_name kinds words s p e = go (type_by words s.word) e
  where
    go : (o : Option (Option (List ℕ))) → option_map (λ t. (s.name, class_by kinds s t)) o ≡ Some p → p.0 ≡ s.name
    go None e = absurd cc
    go (Some t) e = ap (λ q. q.0) (sym (Rattle.std.proofs.lemmas.Option.same_Some _ p e))

pub same_keys : (kinds : KindCodes) (words ss : List Said) (es : Classes) → map (class_in kinds words) ss ≡ map Some es → keys_of es ≡ names_said ss
same_keys kinds words [] [] e = refl
same_keys kinds words [] (x ∷ es) e = absurd cc
same_keys kinds words (s ∷ ss) [] e = absurd cc
same_keys kinds words (s ∷ ss) (x ∷ es) e =
    let here : class_in kinds words s ≡ Some x = cc in
    let rest : map (class_in kinds words) ss ≡ map Some es = cc in
    ap (λ n. n ∷ keys_of es) (own_name kinds words s x here) ∙ ap (λ t. s.name ∷ t) (same_keys kinds words ss es rest)

pub few_classes : (kinds : KindCodes) (words ss : List Said) (s : Classes) → length ss ≤ 9999999 → AreStated ss words kinds s → length s ≤ 9999999
few_classes kinds words ss s few are =
    let counts : length ss ≡ length are.stated = sym (length-map ss (class_in kinds words)) ∙ (ap length are.each ∙ length-map are.stated Some) in
    omega (arith, few, counts, length_permutation are.stated s are.same)
