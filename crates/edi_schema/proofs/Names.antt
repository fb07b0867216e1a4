-- Names, compared and ordered.
use Rattle.std.proofs.Common.{◌≡◌, Bool, true, false, ◌&&◌, List, [], ◌∷◌, ◌++◌, None, refl, sym, ap, ◌∙◌, Ordering, Less, Equal, Greater}
use Rattle.std.specs.Prelude.{bytes_eq}
use Rattle.std.specs.Ordering.{is_eq, is_lt, ordering_then, ordering_reverse}
use Rattle.std.specs.List.{AllByRecursion}
use Rattle.std.specs.Map.{lookup, keys_of}
use Rattle.std.proofs.lemmas.Map.Text.{is_eq-slice_cmp}
use Rattle.std.proofs.lemmas.Cmp.{tied_itself}
use Rattle.std.proofs.lemmas.Slice.Eq.{bytes_eq-Decides}
use Rattle.std.proofs.lemmas.Bool.{and_parts}
use Rattle.edi_record.specs.declared.name.Name.{Name}
use Rattle.edi_record.specs.Orders.{bytes_cmp}
use Rattle.edi_schema.specs.Classes.{is_name, name_cmp}
use Rattle.edi_schema.specs.Sorted.{AlwaysRises}
use Rattle.edi_schema.proofs.Ordered.{name_total}

pub same_name : (a b : Name) → is_name a b ≡ true → a ≡ b
same_name a b e =
    let parts = and_parts _ _ e in
    let rty : a.rty ≡ b.rty = (bytes_eq-Decides a.rty b.rty).0 parts.0 in
    let rid : a.rid ≡ b.rid = (bytes_eq-Decides a.rid b.rid).0 parts.1 in
    λ j. record { rty = rty j; rid = rid j }

pub name_itself : (a : Name) → is_name a a ≡ true
name_itself a = rw ((bytes_eq-Decides a.rty a.rty).1 refl, (bytes_eq-Decides a.rid a.rid).1 refl) refl

is_eq_then : (x y : Ordering) → is_eq (ordering_then x y) ≡ (is_eq x && is_eq y)
is_eq_then Less y = refl
is_eq_then Equal y = refl
is_eq_then Greater y = refl

pub ties_name : (a b : Name) → is_eq (name_cmp a b) ≡ is_name a b
ties_name a b = is_eq_then (bytes_cmp a.rty b.rty) (bytes_cmp a.rid b.rid) ∙ (ap (λ x. x && is_eq (bytes_cmp a.rid b.rid)) (is_eq-slice_cmp a.rty b.rty) ∙ ap (λ x. bytes_eq a.rty b.rty && x) (is_eq-slice_cmp a.rid b.rid))

-- a lesser name is another, either way
pub other_name : (a b : Name) → name_cmp a b ≡ Less → is_name b a ≡ false
other_name a b less = go (is_name b a) refl
  where
    go : (t : Bool) → is_name b a ≡ t → t ≡ false
    go false e = refl
    go true e =
        let same : b ≡ a = same_name b a e in
        let tied : name_cmp a b ≡ Equal = ap (name_cmp a) same ∙ tied_itself name_total a in
        let no : Less ≡ Equal = sym less ∙ tied in absurd cc

-- of two names in order that differ, the first is less
pub less_name : (a b : Name) → is_lt (name_cmp b a) ≡ false → is_name a b ≡ false → name_cmp a b ≡ Less
less_name a b up apart = go (name_cmp a b) refl
  where
    go : (o : Ordering) → name_cmp a b ≡ o → o ≡ Less
    go Less e = refl
    go Equal e =
        let t : true ≡ false = ap is_eq (sym e) ∙ (ties_name a b ∙ apart) in absurd cc
    go Greater e =
        let back : name_cmp b a ≡ Less = name_total.antisymm b a ∙ ap ordering_reverse e in
        let t : true ≡ false = ap is_lt (sym back) ∙ up in absurd cc

-- the names before one of a list that rises are others
before_less : (front : List Name) (n : Name) (more : List Name) → AlwaysRises name_cmp (front ++ n ∷ more) → AllByRecursion (λ m. is_name n m ≡ false) front
before_less [] n more up = tt
before_less (m ∷ ms) n more up = (other_name m n (at_middle ms up.0), before_less ms n more up.1)
  where
    at_middle : (front : List Name) → AllByRecursion (λ y. name_cmp m y ≡ Less) (front ++ n ∷ more) → name_cmp m n ≡ Less
    at_middle [] all = all.0
    at_middle (x ∷ xs) all = at_middle xs all.1

none_looked_up : {X : Type 0} (n : Name) (es : List (Name × X)) → AllByRecursion (λ m. is_name n m ≡ false) (keys_of es) → lookup (is_name n) es ≡ None
none_looked_up n [] all = refl
none_looked_up n (e ∷ es) all = rw all.0 (none_looked_up n es all.1)

pub absent_before : {X : Type 0} (front : List (Name × X)) (n : Name) (more : List Name) → AlwaysRises name_cmp (keys_of front ++ n ∷ more) → lookup (is_name n) front ≡ None
absent_before front n more up = none_looked_up n front (before_less (keys_of front) n more up)
