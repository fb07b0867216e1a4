-- One text begins with the line of one class.
use Rattle.std.proofs.Common.{◌≡◌, ℕ, Bool, true, false, ◌||◌, true≢false, List, [], ◌∷◌, ◌++◌, append_assoc, map, codes, bytes_eq, if◌then◌else◌, ◌==◌, refl, sym, ap, ◌∙◌, arith}
use Rattle.std.specs.List.{AllByRecursion, flat_map, list_any}
use Rattle.std.proofs.lemmas.Bool.{or_parts}
use Rattle.edi_line.specs.Bytes.{line_feed, semicolon}
use Rattle.edi_record.specs.Texts.{is_semicolon}
use Rattle.edi_record.specs.declared.name.Name.{Name}
use Rattle.edi_schema.specs.Classes.{Classes, IsLetter}
use Rattle.edi_schema.specs.declared.class.Class.{Class}
use Rattle.edi_schema.specs.declared.role.Role.{Role}
use Rattle.edi_schema.specs.declared.role.Role.TheVariants.{Initial, Final, Left, Right, Plain}
use Rattle.edi_schema_text.specs.SchemaText.{kind_text, line_of_class, values_text, values_word}
use Rattle.edi_schema_text.proofs.Meaning.{meaning_of, settled}

-- ---- cutting

same_head : (c d : ℕ) (x y : List ℕ) → c ∷ x ≡ d ∷ y → c ≡ d
same_head c d x y h = cc

same_tail : (c d : ℕ) (x y : List ℕ) → c ∷ x ≡ d ∷ y → x ≡ y
same_tail c d x y h = cc

-- two texts that hold no such byte, before one
cut : (test : ℕ → Bool) (c : ℕ) → test c ≡ true → (p q x y : List ℕ) → list_any test p ≡ false → list_any test q ≡ false → p ++ c ∷ x ≡ q ++ c ∷ y → (p ≡ q) × (x ≡ y)
cut test c is [] [] x y hp hq e = (refl, same_tail c c x y e)
cut test c is [] (b ∷ q) x y hp hq e = absurd (true≢false (sym is ∙ (ap test (same_head c b x (q ++ c ∷ y) e) ∙ (or_parts (test b) (list_any test q) hq).0)))
cut test c is (a ∷ p) [] x y hp hq e = absurd (true≢false (sym is ∙ (ap test (sym (same_head a c (p ++ c ∷ x) y e)) ∙ (or_parts (test a) (list_any test p) hp).0)))
cut test c is (a ∷ p) (b ∷ q) x y hp hq e =
    let more = cut test c is p q x y (or_parts (test a) (list_any test p) hp).1 (or_parts (test b) (list_any test q) hq).1 (same_tail a b (p ++ c ∷ x) (q ++ c ∷ y) e) in
    (λ i. same_head a b (p ++ c ∷ x) (q ++ c ∷ y) e i ∷ more.0 i, more.1)

never_empty : (p x : List ℕ) (c : ℕ) → [] ≡ p ++ c ∷ x → ⊥
never_empty [] x c e = cc
never_empty (a ∷ p) x c e = cc

-- ---- the fields of a line

letter_field : Bool → ℕ → List ℕ
letter_field true letter = letter ∷ []
letter_field false letter = codes "-"

values_field : Bool → Bool → List ℕ
values_field true is_number = values_word is_number
values_field false is_number = codes "-"

is_feed : ℕ → Bool
is_feed c = c == line_feed

-- what the parts of a line hold
pub record IsSayable (e : Name × Class) : Type 0 where
  pub rty : list_any is_semicolon e.0.rty ≡ false
  pub rid : list_any is_semicolon e.0.rid ≡ false
  pub letter : IsLetter e.1.letter

values_parts : (e : Name × Class) (rest : List ℕ) (b : Bool) → bytes_eq e.0.rty (codes "ATT") ≡ b
    → values_text e ++ semicolon ∷ rest ≡ letter_field b e.1.letter ++ semicolon ∷ (values_field b e.1.is_number ++ semicolon ∷ rest)
unfolding letter_field values_field
values_parts e rest true h = rw h refl
values_parts e rest false h = rw h refl

line_is : (e : Name × Class) (rest : List ℕ) → line_of_class e ++ rest ≡ e.0.rty ++ semicolon ∷ (e.0.rid ++ semicolon ∷
    (letter_field (bytes_eq e.0.rty (codes "ATT")) e.1.letter ++ semicolon ∷ (values_field (bytes_eq e.0.rty (codes "ATT")) e.1.is_number ++ semicolon ∷ (kind_text e.1.role ++ line_feed ∷ rest))))
unfolding line_of_class
line_is e rest =
    append_assoc e.0.rty (semicolon ∷ (e.0.rid ++ semicolon ∷ (values_text e ++ semicolon ∷ (kind_text e.1.role ++ line_feed ∷ [])))) rest
    ∙ ap (λ t. e.0.rty ++ semicolon ∷ t) (append_assoc e.0.rid (semicolon ∷ (values_text e ++ semicolon ∷ (kind_text e.1.role ++ line_feed ∷ []))) rest
    ∙ ap (λ t. e.0.rid ++ semicolon ∷ t) (append_assoc (values_text e) (semicolon ∷ (kind_text e.1.role ++ line_feed ∷ [])) rest
    ∙ (ap (λ t. values_text e ++ semicolon ∷ t) (append_assoc (kind_text e.1.role) (line_feed ∷ []) rest)
    ∙ values_parts e (kind_text e.1.role ++ line_feed ∷ rest) (bytes_eq e.0.rty (codes "ATT")) refl)))

-- ---- no field holds what ends it

letter_plain : (b : Bool) (letter : ℕ) → IsLetter letter → list_any is_semicolon (letter_field b letter) ≡ false
unfolding letter_field
letter_plain true letter is = go (letter == 59) refl
  where
    go : (t : Bool) → (letter == 59) ≡ t → (t || false) ≡ false
    go false h = refl
    go true h = let e : letter ≡ 59 = Rattle.std.proofs.Common.eqb-true letter 59 h in absurd (omega (arith, e, is.0))
letter_plain false letter is = refl

values_plain : (b is_number : Bool) → list_any is_semicolon (values_field b is_number) ≡ false
unfolding values_field
values_plain true true = refl
values_plain true false = refl
values_plain false is_number = refl

kind_plain : (r : Role) → list_any is_feed (kind_text r) ≡ false
unfolding is_feed
kind_plain Initial = refl
kind_plain Final = refl
kind_plain Left = refl
kind_plain Right = refl
kind_plain Plain = refl

feed_is : is_feed line_feed ≡ true
unfolding is_feed
feed_is = refl

-- ---- what fields tell

kind_read : List ℕ → Role
kind_read [] = Plain
kind_read (c ∷ cs) = if c == 105 then Initial else (if c == 102 then Final else (if c == 108 then Left else (if c == 114 then Right else Plain)))

kind_told : (r : Role) → kind_read (kind_text r) ≡ r
unfolding kind_read
kind_told Initial = refl
kind_told Final = refl
kind_told Left = refl
kind_told Right = refl
kind_told Plain = refl

values_read : List ℕ → Bool
values_read [] = false
values_read (c ∷ cs) = c == 110

values_told : (b : Bool) → values_read (values_word b) ≡ b
unfolding values_read
values_told true = refl
values_told false = refl

-- one settled class has these fields
class_told : (rty : List ℕ) (c d : Class) (b : Bool) → bytes_eq rty (codes "ATT") ≡ b → letter_field b c.letter ≡ letter_field b d.letter → values_field b c.is_number ≡ values_field b d.is_number
    → kind_text c.role ≡ kind_text d.role → settled rty c ≡ settled rty d
unfolding letter_field values_field
class_told rty c d true h l v k =
    let letter : c.letter ≡ d.letter = same_head c.letter d.letter [] [] l in
    let number : c.is_number ≡ d.is_number = sym (values_told c.is_number) ∙ (ap values_read v ∙ values_told d.is_number) in
    let role : c.role ≡ d.role = sym (kind_told c.role) ∙ (ap kind_read k ∙ kind_told d.role) in
    rw h (λ j. record { role = role j; letter = letter j; is_number = number j })
class_told rty c d false h l v k =
    let role : c.role ≡ d.role = sym (kind_told c.role) ∙ (ap kind_read k ∙ kind_told d.role) in
    rw h (λ j. record { role = role j; letter = 65; is_number = false })

-- ---- lines

pub line_apart : (e f : Name × Class) (x y : List ℕ) → IsSayable e → IsSayable f → line_of_class e ++ x ≡ line_of_class f ++ y → (meaning_of e ≡ meaning_of f) × (x ≡ y)
line_apart e f x y he hf h =
    let flag = λ (n : Name). bytes_eq n.rty (codes "ATT") in
    let all = sym (line_is e x) ∙ (h ∙ line_is f y) in
    let one = cut is_semicolon semicolon refl e.0.rty f.0.rty _ _ he.rty hf.rty all in
    let two = cut is_semicolon semicolon refl e.0.rid f.0.rid _ _ he.rid hf.rid one.1 in
    let three = cut is_semicolon semicolon refl (letter_field (flag e.0) e.1.letter) (letter_field (flag f.0) f.1.letter) _ _ (letter_plain (flag e.0) e.1.letter he.letter) (letter_plain (flag f.0) f.1.letter hf.letter) two.1 in
    let four = cut is_semicolon semicolon refl (values_field (flag e.0) e.1.is_number) (values_field (flag f.0) f.1.is_number) _ _ (values_plain (flag e.0) e.1.is_number) (values_plain (flag f.0) f.1.is_number) three.1 in
    let five = cut is_feed line_feed feed_is (kind_text e.1.role) (kind_text f.1.role) x y (kind_plain e.1.role) (kind_plain f.1.role) four.1 in
    let name : e.0 ≡ f.0 = λ j. record { rty = one.0 j; rid = two.0 j } in
    let back : flag f.0 ≡ flag e.0 = ap flag (sym name) in
    let letter : letter_field (flag e.0) e.1.letter ≡ letter_field (flag e.0) f.1.letter = three.0 ∙ ap (λ b. letter_field b f.1.letter) back in
    let values : values_field (flag e.0) e.1.is_number ≡ values_field (flag e.0) f.1.is_number = four.0 ∙ ap (λ b. values_field b f.1.is_number) back in
    let class : settled e.0.rty e.1 ≡ settled f.0.rty f.1 =
    class_told e.0.rty e.1 f.1 (flag e.0) refl letter values five.0 ∙ ap (λ t. settled t f.1) one.0 in
    (λ j. (name j, class j), five.1)

line_some : (e : Name × Class) (x : List ℕ) → [] ≡ line_of_class e ++ x → ⊥
line_some e x h = never_empty _ _ semicolon (h ∙ line_is e x)

-- one text is of one list of classes, as sheets see them
pub lines_apart : (xs ys : Classes) → AllByRecursion IsSayable xs → AllByRecursion IsSayable ys → flat_map line_of_class xs ≡ flat_map line_of_class ys → map meaning_of xs ≡ map meaning_of ys
lines_apart [] [] hx hy h = refl
lines_apart [] (f ∷ ys) hx hy h = absurd (line_some f (flat_map line_of_class ys) h)
lines_apart (e ∷ xs) [] hx hy h = absurd (line_some e (flat_map line_of_class xs) (sym h))
lines_apart (e ∷ xs) (f ∷ ys) hx hy h =
    let first = line_apart e f (flat_map line_of_class xs) (flat_map line_of_class ys) hx.0 hy.0 h in
    let more = lines_apart xs ys hx.1 hy.1 first.1 in
    λ j. first.0 j ∷ more j
