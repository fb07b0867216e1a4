-- Files that state the same classes have one schema.
use Rattle.std.proofs.Common.{◌≡◌, ℕ, zero, suc, Bool, true, false, [], ◌∷◌, Option, Some, None, option_map, slice_get, IsPermutation, refl, sym, ap, ◌∙◌, subst}
use Rattle.std.specs.Map.{keys_of}
use Rattle.std.proofs.lemmas.List.Sorted.{Contains-permutation, IsPermutation-sym, IsPermutation-trans}
use Rattle.std.proofs.lemmas.Option.{get_or_from_slice_get, none-some, same_Some, slice_get-get_or, slice_get-map, slice_get_within}
use Rattle.edi_record.specs.declared.name.Name.{Name}
use Rattle.edi_schema.proofs.Names.{name_itself, other_name, same_name}
use Rattle.edi_schema.proofs.Ordered.{all_at}
use Rattle.edi_schema.specs.Classes.{Classes, class_named, is_name, name_cmp}
use Rattle.edi_schema.specs.Sorted.{AlwaysRises}
use Rattle.edi_schema.specs.declared.class.Class.{Class}
use Rattle.edi_schema_text.proofs.Sorted.{one_list}
use Rattle.edi_schema_text.specs.Laws.{OneStatementOneText}
use Rattle.edi_schema_text.specs.SchemaText.{text_of_schema}

-- the entry stands somewhere
abbrev pub In : Name × Class → Classes → Type 0
In x s = (k : ℕ) × (slice_get s k ≡ Some x)

-- the class at a name is there
named_in : (s : Classes) (n : Name) (c : Class) → class_named s n ≡ Some c → In (n, c) s
named_in [] n c h = absurd (none-some c h)
named_in (e ∷ s) n c h = go (is_name n e.0) refl h (named_in s n c)
  where
    go : (b : Bool) → is_name n e.0 ≡ b → class_named (e ∷ s) n ≡ Some c → (class_named s n ≡ Some c → In (n, c) s) → In (n, c) (e ∷ s)
    go true same h more =
        let class : e.1 ≡ c = same_Some e.1 c (rw same at h) in
        let name : e.0 ≡ n = sym (same_name n e.0 same) in
        (0, λ i. Some (name i, class i))
    go false other h more = let found = more (rw other at h) in (suc found.0, found.1)

-- and what is there is the class at its name, in a list that rises
pub in_named : (s : Classes) → AlwaysRises name_cmp (keys_of s) → (x : Name × Class) → In x s → class_named s x.0 ≡ Some x.1
in_named [] up x h = absurd (none-some x h.1)
in_named (e ∷ s) up x (zero, h) = let same = same_Some e x h in subst (λ y. class_named (e ∷ s) y.0 ≡ Some y.1) same (rw (name_itself e.0) refl)
in_named (e ∷ s) up x (suc k, h) =
    let less = all_at (λ m. name_cmp e.0 m ≡ Rattle.std.proofs.Common.Less) (keys_of s) up.0 k x.0 (slice_get-map (λ y. y.0) s k ∙ ap (option_map (λ y. y.0)) h) in
    rw (other_name e.0 x.0 less) (in_named s up.1 x (k, h))

moved : (s t : Classes) → IsPermutation s t → (x : Name × Class) → In x s → In x t
moved s t same x h =
    let there = Contains-permutation s t x same (h.0, slice_get_within s h.0 x h.1, get_or_from_slice_get s h.0 x x h.1) in
    (there.0, slice_get-get_or t there.0 x there.1 ∙ ap Some there.2)

one_name : (s t : Classes) → AlwaysRises name_cmp (keys_of s) → AlwaysRises name_cmp (keys_of t) → IsPermutation s t → (n : Name) → class_named s n ≡ class_named t n
one_name s t up down same n = go (class_named s n) (class_named t n) refl refl
  where
    go : (o p : Option Class) → class_named s n ≡ o → class_named t n ≡ p → class_named s n ≡ class_named t n
    go None None ho hp = ho ∙ sym hp
    go (Some c) p ho hp = ho ∙ sym (in_named t down (n, c) (moved s t same (n, c) (named_in s n c ho)))
    go None (Some d) ho hp = in_named s up (n, d) (moved t s (IsPermutation-sym s t same) (n, d) (named_in t n d hp)) ∙ sym hp

pub one_statement : OneStatementOneText
one_statement scd dic scd' dic' kinds kinds' s t first second same =
    let h = first.is in
    let g = second.is in
    let whole : IsPermutation s t = IsPermutation-trans s h.stated t (IsPermutation-sym h.stated s h.same) (IsPermutation-trans h.stated g.stated t same g.same) in
    ap text_of_schema (one_list s t h.in_order g.in_order (one_name s t h.in_order g.in_order whole))
