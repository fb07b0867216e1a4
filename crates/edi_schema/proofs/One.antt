-- Two schemas of the same files and codes are one.
use Rattle.std.proofs.Common.{◌≡◌, ◌⊎◌, inl, inr, ℕ, zero, suc, List, [], ◌∷◌, slice_get, IsPermutation, Option, Some, option_map, codes, refl, sym, ap, ◌∙◌, subst, Less, Equal, Greater}
use Rattle.std.specs.List.{AllZip}
use Rattle.std.specs.Map.{lookup, keys_of}
use Rattle.std.specs.Ordering.{ordering_reverse}
use Rattle.std.proofs.lemmas.Cmp.{tied_itself}
use Rattle.std.proofs.lemmas.Option.{same_Some, none-some, slice_get-map, slice_get_within, get_or_from_slice_get, slice_get-get_or}
use Rattle.std.proofs.lemmas.List.Sorted.{IsPermutation-sym, IsPermutation-trans, Contains-permutation}
use Rattle.edi_line.specs.ZoneData.{ZoneData}
use Rattle.edi_line.specs.Zones.{groups_of}
use Rattle.edi_line.proofs.ZonesFound.{zones_of}
use Rattle.edi_line.proofs.Said.{file_said}
use Rattle.edi_record.specs.declared.name.Name.{Name}
use Rattle.edi_record.specs.Records.{values, first}
use Rattle.edi_record.specs.inner.Texts.{class_of}
use Rattle.edi_record.proofs.StatesSaid.{points_read}
use Rattle.edi_schema.specs.Roles.{KindCodes, role_by}
use Rattle.edi_schema.specs.Classes.{Classes, is_name, name_cmp}
use Rattle.edi_schema.specs.SchemaOf.{IsGroupsOf, Words, StatesWord, HasType, StatesClass, IsSchemaOf, letter_read, is_number_type}
use Rattle.edi_schema.specs.SchemaOf.HasType.{none, some}
use Rattle.edi_schema.specs.SchemaRefusal.{IsGoodSchema}
use Rattle.edi_schema.specs.Sorted.{AlwaysRises}
use Rattle.edi_schema.specs.declared.class.Class.{Class}
use Rattle.edi_record.proofs.FewGroups.{zones_are}
use Rattle.edi_schema.proofs.Led.{named_so}
use Rattle.edi_schema.proofs.Ordered.{all_at, name_total}

groups_one : (b : List ℕ) (groups : List (List ZoneData)) → IsGroupsOf b groups → groups ≡ groups_of (zones_of b)
groups_one b groups h = sym (file_said h.0 h.1 groups h.3).1 ∙ ap groups_of (zones_are b h.0 h.2)

pair_same : {A B : Type 0} (p q : A × B) → p.0 ≡ q.0 → p.1 ≡ q.1 → p ≡ q
pair_same p q e f = λ j. (e j, f j)

words_one : (gs : List (List ZoneData)) (ws vs : Words) → AllZip StatesWord gs ws → AllZip StatesWord gs vs → ws ≡ vs
words_one [] [] [] h g = refl
words_one [] [] (v ∷ vs) h g = absurd g
words_one [] (w ∷ ws) vs h g = absurd h
words_one (x ∷ xs) [] vs h g = absurd h
words_one (x ∷ xs) (w ∷ ws) [] h g = absurd g
words_one (x ∷ xs) (w ∷ ws) (v ∷ vs) h g =
    let same : w ≡ v = pair_same w v (named_so x w.0 h.0.0 ∙ sym (named_so x v.0 g.0.0)) (h.0.1 ∙ sym g.0.1) in
    ap (λ y. y ∷ ws) same ∙ ap (λ t. v ∷ t) (words_one xs ws vs h.1 g.1)

type_one : (words : Words) (g : List ZoneData) (s t : Option (List ℕ)) → HasType words g s → HasType words g t → s ≡ t
type_one words g s t (none e) (none f) = refl
type_one words g s t (none e) (some f points found) = absurd (none-some _ (sym (ap first e) ∙ f))
type_one words g s t (some f points found) (none e) = absurd (none-some _ (sym (ap first e) ∙ f))
type_one words g s t (some {text} {name} f points found) (some {text = text2} {name = name2} f2 points2 found2) =
    let texts : text ≡ text2 = same_Some _ _ (sym f ∙ f2) in
    let names : name ≡ name2 = same_Some _ _ (sym (points_read text name points) ∙ (ap class_of texts ∙ points_read text2 name2 points2)) in
    same_Some _ _ (sym found ∙ (ap (λ n. lookup (is_name n) words) names ∙ found2))

class_same : (a b : Class) → a.role ≡ b.role → a.letter ≡ b.letter → a.is_number ≡ b.is_number → a ≡ b
class_same a b e f g = λ j. record { role = e j; letter = f j; is_number = g j }

entry_one : (kinds : KindCodes) (words : Words) (g : List ZoneData) (p q : Name × Class) → StatesClass kinds words g p → StatesClass kinds words g q → p ≡ q
entry_one kinds words g p q h k =
    let name : p.0 ≡ q.0 = named_so g p.0 h.named ∙ sym (named_so g q.0 k.named) in
    let typ : h.typ ≡ k.typ = type_one words g h.typ k.typ h.has_type k.has_type in
    pair_same p q name (class_same p.1 q.1
    (h.role ∙ (ap (λ n. role_by kinds (first (values (codes "KND") g)) n.rid) name ∙ sym k.role))
    (h.letter ∙ (ap letter_read typ ∙ sym k.letter))
    (h.number ∙ (ap is_number_type typ ∙ sym k.number)))

classes_one : (kinds : KindCodes) (words : Words) (gs : List (List ZoneData)) (ps qs : Classes) → AllZip (StatesClass kinds words) gs ps → AllZip (StatesClass kinds words) gs qs → ps ≡ qs
classes_one kinds words [] [] [] h k = refl
classes_one kinds words [] [] (q ∷ qs) h k = absurd k
classes_one kinds words [] (p ∷ ps) qs h k = absurd h
classes_one kinds words (g ∷ gs) [] qs h k = absurd h
classes_one kinds words (g ∷ gs) (p ∷ ps) [] h k = absurd k
classes_one kinds words (g ∷ gs) (p ∷ ps) (q ∷ qs) h k =
    ap (λ x. x ∷ ps) (entry_one kinds words g p q h.0 k.0) ∙ ap (λ t. q ∷ t) (classes_one kinds words gs ps qs h.1 k.1)

-- ---- two lists of the same entries that rise

abbrev In : Name × Class → Classes → Type 0
In x s = (k : ℕ) × (slice_get s k ≡ Some x)

-- the first, or one with a greater name
first_or_later : (x y : Name × Class) (ys : Classes) → AlwaysRises name_cmp (keys_of (y ∷ ys)) → In x (y ∷ ys) → (x ≡ y) ⊎ (name_cmp y.0 x.0 ≡ Less)
first_or_later x y ys up (zero, h) = inl (sym (same_Some y x h))
first_or_later x y ys up (suc k, h) = inr (all_at (λ n. name_cmp y.0 n ≡ Less) (keys_of ys) up.0 k x.0 (slice_get-map (λ e. e.0) ys k ∙ ap (option_map (λ e. e.0)) h))

not_both : (a b : Name) → name_cmp a b ≡ Less → name_cmp b a ≡ Less → ⊥
not_both a b e f = let g : Less ≡ Greater = sym f ∙ (name_total.antisymm b a ∙ ap ordering_reverse e) in absurd cc

not_itself : (a : Name) → name_cmp a a ≡ Less → ⊥
not_itself a e = let g : Less ≡ Equal = sym e ∙ tied_itself name_total a in absurd cc

rising_one : (s t : Classes) → AlwaysRises name_cmp (keys_of s) → AlwaysRises name_cmp (keys_of t) → ((x : Name × Class) → In x s → In x t) → ((x : Name × Class) → In x t → In x s) → s ≡ t
rising_one [] [] up down to back = refl
rising_one [] (y ∷ ys) up down to back = absurd (none-some y (back y (0, refl)).1)
rising_one (x ∷ xs) [] up down to back = absurd (none-some x (to x (0, refl)).1)
rising_one (x ∷ xs) (y ∷ ys) up down to back =
    let same : x ≡ y = heads (first_or_later x y ys down (to x (0, refl))) (first_or_later y x xs up (back y (0, refl))) in
    ap (λ e. e ∷ xs) same ∙ ap (λ t. y ∷ t) (rising_one xs ys up.1 down.1
    (λ z h. tail z y ys (later z x xs up h) same (to z (suc h.0, h.1)))
    (λ z h. tail z x xs (later z y ys down h) (sym same) (back z (suc h.0, h.1))))
  where
    heads : (x ≡ y) ⊎ (name_cmp y.0 x.0 ≡ Less) → (y ≡ x) ⊎ (name_cmp x.0 y.0 ≡ Less) → x ≡ y
    heads (inl e) o = e
    heads (inr e) (inl f) = sym f
    heads (inr e) (inr f) = absurd (not_both x.0 y.0 f e)

    later : (z w : Name × Class) (ws : Classes) → AlwaysRises name_cmp (keys_of (w ∷ ws)) → In z ws → name_cmp w.0 z.0 ≡ Less
    later z w ws rises h = all_at (λ n. name_cmp w.0 n ≡ Less) (keys_of ws) rises.0 h.0 z.0 (slice_get-map (λ e. e.0) ws h.0 ∙ ap (option_map (λ e. e.0)) h.1)

    tail : (z w : Name × Class) (ws : Classes) → {v : Name × Class} → name_cmp v.0 z.0 ≡ Less → v ≡ w → In z (w ∷ ws) → In z ws
    tail z w ws less same (zero, h) = absurd (not_itself z.0 (ap (λ n. name_cmp n z.0) (ap (λ e. e.0) (sym (same_Some w z h) ∙ sym same)) ∙ less))
    tail z w ws less same (suc k, h) = (k, h)

moved_in : (s t : Classes) → IsPermutation s t → (x : Name × Class) → In x s → In x t
moved_in s t moved x h =
    let there = Contains-permutation s t x moved (h.0, slice_get_within s h.0 x h.1, get_or_from_slice_get s h.0 x x h.1) in
    (there.0, slice_get-get_or t there.0 x there.1 ∙ ap Some there.2)

schema_one : (kinds : KindCodes) (cs ws : List (List ZoneData)) (s t : Classes) → IsSchemaOf cs ws kinds s → IsSchemaOf cs ws kinds t → s ≡ t
schema_one kinds cs ws s t h k =
    let words : h.words ≡ k.words = words_one ws h.words k.words h.each_word k.each_word in
    let stated : h.stated ≡ k.stated = classes_one kinds k.words cs h.stated k.stated (subst (λ w. AllZip (StatesClass kinds w) cs h.stated) words h.each_class) k.each_class in
    let moved : IsPermutation h.stated t = subst (λ x. IsPermutation x t) (sym stated) k.same in
    let to = IsPermutation-trans s h.stated t (IsPermutation-sym h.stated s h.same) moved in
    rising_one s t h.in_order k.in_order (moved_in s t to) (moved_in t s (IsPermutation-sym s t to))

pub schemas_one : (scd dic : List ℕ) (kinds : KindCodes) (s t : Classes) → IsGoodSchema scd dic kinds s → IsGoodSchema scd dic kinds t → s ≡ t
schemas_one scd dic kinds s t h k =
    let cs : h.classes ≡ k.classes = groups_one scd h.classes h.records.0 ∙ sym (groups_one scd k.classes k.records.0) in
    let ws : h.entries ≡ k.entries = groups_one dic h.entries h.records.1 ∙ sym (groups_one dic k.entries k.records.1) in
    schema_one kinds k.classes k.entries s t (subst (λ x. IsSchemaOf k.classes x kinds s) ws (subst (λ x. IsSchemaOf x h.entries kinds s) cs h.is)) k.is
