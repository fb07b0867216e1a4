-- The lines of classes, one after the other.
use Rattle.std.proofs.Common.{◌≡◌, ℕ, ◌+◌, ◌<◌, Bool, true, false, List, [], ◌∷◌, ◌++◌, append_assoc, length, take, get_or, filter, Some, option_map, slice_get, refl, sym, ap, ◌∙◌}
use Rattle.std.specs.List.{flat_map}
use Rattle.std.proofs.lemmas.Grind.{flat_map-append}
use Rattle.std.proofs.lemmas.List.{append-nil, take_more}
use Rattle.std.proofs.lemmas.List.Elements.{filter-append}
use Rattle.std.proofs.lemmas.Option.{same_Some, slice_get-get_or, slice_get-map}
use Rattle.edi_record.specs.declared.name.Name.{Name}
use Rattle.edi_schema.proofs.Paired.{role_there}
use Rattle.edi_schema.specs.Classes.{Classes, class_at, class_name_at, role_of}
use Rattle.edi_schema.specs.declared.class.Class.{Class}
use Rattle.edi_schema.specs.declared.role.Role.{Role}
use Rattle.edi_schema.specs.declared.role.Role.TheVariants.{Plain}
use Rattle.edi_schema_text.specs.SchemaText.{class_lines, is_nameable, line_of_class}

-- the parts of a line, joined one by one
pub joined : (t0 t1 t2 t3 t4 t5 t6 t7 t8 a b v k : List ℕ) → t1 ≡ t0 ++ a → t2 ≡ t1 ++ 59 ∷ [] → t3 ≡ t2 ++ b → t4 ≡ t3 ++ 59 ∷ [] → t5 ≡ t4 ++ v → t6 ≡ t5 ++ 59 ∷ [] → t7 ≡ t6 ++ k → t8 ≡ t7 ++ 10 ∷ []
    → t8 ≡ t0 ++ (a ++ 59 ∷ (b ++ 59 ∷ (v ++ 59 ∷ (k ++ 10 ∷ []))))
joined t0 t1 t2 t3 t4 t5 t6 t7 t8 a b v k e1 e2 e3 e4 e5 e6 e7 e8 = rw (e8, e7, e6, e5, e4, e3, e2, e1) (simp append_assoc)

-- a class that no pointer can name has no line, and each other has its own
pub no_line : (e : Name × Class) → is_nameable e ≡ false → class_lines (e ∷ []) ≡ []
no_line e h = rw h refl

pub own_line : (e : Name × Class) → is_nameable e ≡ true → class_lines (e ∷ []) ≡ line_of_class e
own_line e h = rw h (append-nil (line_of_class e))

-- one class more
pub lines_more : (s : Classes) (i : ℕ) (d : Name × Class) → i < length s → class_lines (take (i + 1) s) ≡ class_lines (take i s) ++ class_lines (get_or s i d ∷ [])
lines_more s i d h =
    ap class_lines (take_more s i d h)
    ∙ (ap (flat_map line_of_class) (filter-append is_nameable (take i s) (get_or s i d ∷ []))
    ∙ flat_map-append line_of_class (filter is_nameable (take i s)) (filter is_nameable (get_or s i d ∷ [])))

-- what the schema says at a place
pub said_is : (s : Classes) (k : ℕ) (e : Name × Class) (name : Name) (role : Role) (letter : ℕ) (is_number : Bool) → slice_get s k ≡ Some e → Some name ≡ class_name_at s k
    → role ≡ role_of s k → Some letter ≡ option_map (λ c. c.letter) (class_at s k) → Some is_number ≡ option_map (λ c. c.is_number) (class_at s k)
    → (name, record { role = role; letter = letter; is_number = is_number }) ≡ e
said_is s k e name role letter is_number h n r l b =
    let names : name ≡ e.0 = same_Some name e.0 (n ∙ (slice_get-map (λ x. x.0) s k ∙ ap (option_map (λ x. x.0)) h)) in
    let roles : role ≡ e.1.role = r ∙ role_there s k e h in
    let letters : letter ≡ e.1.letter = same_Some letter e.1.letter (l ∙ ap (λ o. option_map (λ c. c.letter) (option_map (λ x. x.1) o)) h) in
    let numbers : is_number ≡ e.1.is_number = same_Some is_number e.1.is_number (b ∙ ap (λ o. option_map (λ c. c.is_number) (option_map (λ x. x.1) o)) h) in
    λ j. (names j, record { role = roles j; letter = letters j; is_number = numbers j })

-- the name at a place
pub name_is : (s : Classes) (k : ℕ) (e : Name × Class) (name : Name) → slice_get s k ≡ Some e → Some name ≡ class_name_at s k → name ≡ e.0
name_is s k e name h n = same_Some name e.0 (n ∙ (slice_get-map (λ x. x.0) s k ∙ ap (option_map (λ x. x.0)) h))

-- what stands past the last class
pub no_class : Name × Class
no_class = (record { rty = []; rid = [] }, record { role = Plain; letter = 0; is_number = false })

-- the lines of one class more, where what is put behind a text is the lines of that class
pub put_more : (s : Classes) (i : ℕ) (head before after : List ℕ) → i < length s → before ≡ head ++ class_lines (take i s)
    → ((e : Name × Class) → slice_get s i ≡ Some e → after ≡ before ++ class_lines (e ∷ [])) → after ≡ head ++ class_lines (take (i + 1) s)
put_more s i head before after h e put =
    put (get_or s i no_class) (slice_get-get_or s i no_class h)
    ∙ (ap (λ t. t ++ class_lines (get_or s i no_class ∷ [])) e
    ∙ (append_assoc head (class_lines (take i s)) (class_lines (get_or s i no_class ∷ []))
    ∙ ap (λ t. head ++ t) (sym (lines_more s i no_class h))))
