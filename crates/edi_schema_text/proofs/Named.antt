-- What a schema says at a name, and what it means there.
use Rattle.std.proofs.Common.{◌≡◌, ℕ, Bool, true, false, true≢false, List, [], ◌∷◌, Option, Some, None, option_map, codes, bytes_eq, refl, sym, ap, ◌∙◌}
use Rattle.std.specs.List.{list_any}
use Rattle.std.proofs.lemmas.List.Folds.{list_any_none}
use Rattle.std.proofs.lemmas.Option.{none-some, same_Some}
use Rattle.std.proofs.lemmas.Slice.Eq.{bytes_eq-Decides}
use Rattle.std.proofs.lemmas.Bool.{false_from_ne_true}
use Rattle.edi_record.specs.Texts.{HasNoSemicolon, is_semicolon}
use Rattle.edi_record.specs.declared.name.Name.{Name}
use Rattle.edi_schema.proofs.Names.{same_name}
use Rattle.edi_schema.proofs.ReadNames.{whole_text}
use Rattle.edi_schema.specs.Classes.{Classes, class_named, is_name, role_named}
use Rattle.edi_schema.specs.declared.class.Class.{Class}
use Rattle.edi_schema_text.specs.SchemaText.{AgreeOn, MeanSame}
use Rattle.edi_schema_text.proofs.Meaning.{meaning, settled}

-- a name that a pointer can have isn't that of a class that no pointer can name
pub name_apart : (n m : Name) → list_any is_semicolon n.rty ≡ false → list_any is_semicolon m.rty ≡ true → is_name n m ≡ false
name_apart n m none some = false_from_ne_true (is_name n m) (λ same. true≢false (sym some ∙ (ap (λ x. list_any is_semicolon x.rty) (sym (same_name n m same)) ∙ none)))

-- at such a name the schema means what it says, settled
pub named_in : (s : Classes) (n : Name) → list_any is_semicolon n.rty ≡ false → class_named (meaning s) n ≡ option_map (settled n.rty) (class_named s n)
named_in [] n none = refl
named_in (e ∷ s) n none = go (list_any is_semicolon e.0.rty) refl (named_in s n none)
  where
    here : (b : Bool) → is_name n e.0 ≡ b → list_any is_semicolon e.0.rty ≡ false → class_named (meaning s) n ≡ option_map (settled n.rty) (class_named s n)
        → class_named (meaning (e ∷ s)) n ≡ option_map (settled n.rty) (class_named (e ∷ s) n)
    here true same plain more = rw (plain, same) (ap (λ m. Some (settled m.rty e.1)) (sym (same_name n e.0 same)))
    here false other plain more = rw (plain, other) more

    go : (b : Bool) → list_any is_semicolon e.0.rty ≡ b → class_named (meaning s) n ≡ option_map (settled n.rty) (class_named s n)
        → class_named (meaning (e ∷ s)) n ≡ option_map (settled n.rty) (class_named (e ∷ s) n)
    go true some more = rw (some, name_apart n e.0 none some) more
    go false plain more = here (is_name n e.0) refl plain more

-- at each other name it means nothing
pub named_none : (s : Classes) (n : Name) → list_any is_semicolon n.rty ≡ true → class_named (meaning s) n ≡ None
named_none [] n some = refl
named_none (e ∷ s) n some = go (list_any is_semicolon e.0.rty) refl (named_none s n some)
  where
    other : list_any is_semicolon e.0.rty ≡ false → is_name n e.0 ≡ false
    other plain = false_from_ne_true (is_name n e.0) (λ same. true≢false (sym some ∙ (ap (λ x. list_any is_semicolon x.rty) (same_name n e.0 same) ∙ plain)))

    go : (b : Bool) → list_any is_semicolon e.0.rty ≡ b → class_named (meaning s) n ≡ None → class_named (meaning (e ∷ s)) n ≡ None
    go true h more = rw h more
    go false h more = rw (h, other h) more

-- ---- what is settled

pub settled_role : (rty : List ℕ) (c : Class) → (settled rty c).role ≡ c.role
settled_role rty c = go (bytes_eq rty (codes "ATT")) refl
  where
    go : (b : Bool) → bytes_eq rty (codes "ATT") ≡ b → (settled rty c).role ≡ c.role
    go true h = rw h refl
    go false h = rw h refl

pub settled_same : (rty : List ℕ) (c : Class) → rty ≡ codes "ATT" → settled rty c ≡ c
settled_same rty c is = rw ((bytes_eq-Decides rty (codes "ATT")).1 is) refl

mapped_role : (rty : List ℕ) (o : Option Class) → option_map (λ c. c.role) (option_map (settled rty) o) ≡ option_map (λ c. c.role) o
mapped_role rty None = refl
mapped_role rty (Some c) = ap Some (settled_role rty c)

pub mapped_same : (rty : List ℕ) (o : Option Class) → rty ≡ codes "ATT" → option_map (settled rty) o ≡ o
mapped_same rty None is = refl
mapped_same rty (Some c) is = ap Some (settled_same rty c is)

pub role_kept : (s : Classes) (n : Name) → list_any is_semicolon n.rty ≡ false → role_named (meaning s) n ≡ role_named s n
role_kept s n none = ap (option_map (λ c. c.role)) (named_in s n none) ∙ mapped_role n.rty (class_named s n)

pub attribute_kept : (s : Classes) (n : Name) → list_any is_semicolon n.rty ≡ false → n.rty ≡ codes "ATT" → class_named (meaning s) n ≡ class_named s n
attribute_kept s n none is = named_in s n none ∙ mapped_same n.rty (class_named s n) is

-- ---- two schemas

pub no_semicolon : (text : List ℕ) → HasNoSemicolon text → list_any is_semicolon text ≡ false
no_semicolon text h = list_any_none is_semicolon text h

-- two that mean one schema mean the same
pub mean_same : (s t : Classes) → meaning s ≡ meaning t → MeanSame s t
mean_same s t e = λ n plain.
    let none = no_semicolon n.rty plain in
    record {
      kind = sym (role_kept s n none) ∙ (ap (λ u. role_named u n) e ∙ role_kept t n none);
      letter = λ is. ap (option_map (λ c. c.letter)) (sym (attribute_kept s n none is) ∙ (ap (λ u. class_named u n) e ∙ attribute_kept t n none is));
      numbers = λ is. ap (option_map (λ c. c.is_number)) (sym (attribute_kept s n none is) ∙ (ap (λ u. class_named u n) e ∙ attribute_kept t n none is));
    }

settled_told : (rty : List ℕ) (c d : Class) → c.role ≡ d.role → (rty ≡ codes "ATT" → c.letter ≡ d.letter) → (rty ≡ codes "ATT" → c.is_number ≡ d.is_number) → settled rty c ≡ settled rty d
settled_told rty c d role letter number = go (bytes_eq rty (codes "ATT")) refl
  where
    go : (b : Bool) → bytes_eq rty (codes "ATT") ≡ b → settled rty c ≡ settled rty d
    go true h =
        let is : rty ≡ codes "ATT" = (bytes_eq-Decides rty (codes "ATT")).0 h in
        let l : c.letter ≡ d.letter = letter is in
        let v : c.is_number ≡ d.is_number = number is in
        rw h (λ j. record { role = role j; letter = l j; is_number = v j })
    go false h = rw h (λ j. record { role = role j; letter = 65; is_number = false })

both_told : (rty : List ℕ) (o p : Option Class) → option_map (λ c. c.role) o ≡ option_map (λ c. c.role) p → (rty ≡ codes "ATT" → option_map (λ c. c.letter) o ≡ option_map (λ c. c.letter) p)
    → (rty ≡ codes "ATT" → option_map (λ c. c.is_number) o ≡ option_map (λ c. c.is_number) p) → option_map (settled rty) o ≡ option_map (settled rty) p
both_told rty None None role letter number = refl
both_told rty None (Some d) role letter number = absurd (none-some d.role role)
both_told rty (Some c) None role letter number = absurd (none-some c.role (sym role))
both_told rty (Some c) (Some d) role letter number =
    ap Some (settled_told rty c d (same_Some c.role d.role role) (λ is. same_Some c.letter d.letter (letter is)) (λ is. same_Some c.is_number d.is_number (number is)))

-- and two that mean the same mean one class at each name
pub one_meaning : (s t : Classes) → MeanSame s t → (n : Name) → class_named (meaning s) n ≡ class_named (meaning t) n
one_meaning s t same n = go (list_any is_semicolon n.rty) refl
  where
    go : (b : Bool) → list_any is_semicolon n.rty ≡ b → class_named (meaning s) n ≡ class_named (meaning t) n
    go true some = named_none s n some ∙ sym (named_none t n some)
    go false none =
        let agree : AgreeOn s t n = same n (whole_text n.rty none) in
        named_in s n none ∙ (both_told n.rty (class_named s n) (class_named t n) agree.kind agree.letter agree.numbers ∙ sym (named_in t n none))
