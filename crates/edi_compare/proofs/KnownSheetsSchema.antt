-- That known classes are a schema, by computing.
use Rattle.std.proofs.Common.{◌≡◌, refl, ℕ, Bool, true, false, ◌&&◌, List, [], ◌∷◌, arith, true≢false, eqb-true}
use Rattle.std.proofs.lemmas.Bool.{leb-true, and_parts}
use Rattle.std.specs.Prelude.{nat_le, length, nat_eq, count_by}
use Rattle.std.specs.List.{list_all, list_any}
use Rattle.std.specs.Map.{keys_of}
use Rattle.std.specs.Ordering.{is_lt}
use Rattle.std.specs.declared.cmp.Ordering.TheVariants.{Less}
use Rattle.edi_line.proofs.Truths.{less_is}
use Rattle.edi_record.specs.declared.name.Name.{Name}
use Rattle.edi_schema.specs.Classes.{Classes, IsSchema, IsLetter, IsReadName, name_cmp, has_role, is_pointable}
use Rattle.edi_schema.specs.Roles.{is_plain, exchanged}
use Rattle.edi_schema.specs.Sorted.{AlwaysRises}
use Rattle.edi_schema.specs.declared.class.Class.{Class}
use Rattle.edi_schema.specs.declared.role.Role.{Role}
use Rattle.edi_schema.specs.declared.role.Role.TheVariants.{Initial, Final, Left, Right, Plain}
use Rattle.edi_compare.specs.Known.{arc_classes}
use Rattle.edi_compare.proofs.KnownSheetsTests.{all_said, has_none, none_is, is_same, same_said}

abbrev rises : List Name → Bool
rises [] = true
rises (x ∷ xs) = list_all (λ y. is_lt (name_cmp x y)) xs && rises xs

always_rises : (names : List Name) → rises names ≡ true → AlwaysRises name_cmp names
always_rises [] e = tt
always_rises (x ∷ xs) e =
    let both = and_parts (list_all (λ y. is_lt (name_cmp x y)) xs) (rises xs) e in
    (all_said (λ y. name_cmp x y ≡ Less) (λ y. is_lt (name_cmp x y)) (λ y h. less_is (name_cmp x y) h) xs both.0, always_rises xs both.1)

abbrev is_readable : Name × Class → Bool
is_readable e = has_none 10 e.0.rty && (has_none 10 e.0.rid && has_none 59 e.0.rid)

is_read : (e : Name × Class) → is_readable e ≡ true → IsReadName e.0
is_read e h =
    let rty = and_parts (has_none 10 e.0.rty) (has_none 10 e.0.rid && has_none 59 e.0.rid) h in
    let rid = and_parts (has_none 10 e.0.rid) (has_none 59 e.0.rid) rty.1 in
    (none_is 10 e.0.rty rty.0, none_is 10 e.0.rid rid.0, none_is 59 e.0.rid rid.1)

abbrev is_letter : Name × Class → Bool
is_letter e = nat_eq e.1.letter 65

-- a test of each of the four kinds
abbrev each_kind : (Role → Bool) → Bool
each_kind test = test Initial && (test Final && (test Left && test Right))

kind_true : (test : Role → Bool) → each_kind test ≡ true → (role : Role) → is_plain role ≡ false → test role ≡ true
kind_true test e role h = go role h
  where
    first : (test Initial ≡ true) × (test Final && (test Left && test Right) ≡ true)
    first = and_parts (test Initial) (test Final && (test Left && test Right)) e

    second : (test Final ≡ true) × (test Left && test Right ≡ true)
    second = and_parts (test Final) (test Left && test Right) first.1

    third : (test Left ≡ true) × (test Right ≡ true)
    third = and_parts (test Left) (test Right) second.1

    go : (role : Role) → is_plain role ≡ false → test role ≡ true
    go Initial h = first.0
    go Final h = second.0
    go Left h = third.0
    go Right h = third.1
    go Plain h = absurd (true≢false h)

module _ (s : Classes) where
  abbrev count_of : Role → ℕ
  count_of role = count_by (has_role role) s

  abbrev some_of : Role → Bool
  some_of role = list_any (is_pointable role) s

  pub record AreTested : Type 0 where
    pub few : nat_le (length s) 9999999 ≡ true
    pub letters : list_all is_letter s ≡ true
    pub in_order : rises (keys_of s) ≡ true
    pub one : each_kind (λ role. nat_le (count_of role) 1) ≡ true
    pub both : each_kind (λ role. nat_eq (count_of role) (count_of (exchanged role))) ≡ true
    pub pointable : each_kind (λ role. is_same (some_of role) (some_of (exchanged role))) ≡ true
    pub readable : list_all is_readable s ≡ true

  pub schema_as : AreTested → IsSchema s
  schema_as e = record {
    few = leb-true (length s) 9999999 e.few;
    letters = all_said (λ e. IsLetter e.1.letter) is_letter (λ e h. let is = eqb-true e.1.letter 65 h in (omega (arith, is), omega (arith, is))) s e.letters;
    in_order = always_rises (keys_of s) e.in_order;
    one = λ role h. leb-true (count_of role) 1 (kind_true (λ role. nat_le (count_of role) 1) e.one role h);
    both = λ role h. eqb-true (count_of role) (count_of (exchanged role)) (kind_true (λ role. nat_eq (count_of role) (count_of (exchanged role))) e.both role h);
    pointable = λ role h. same_said (some_of role) (some_of (exchanged role)) (kind_true (λ role. is_same (some_of role) (some_of (exchanged role))) e.pointable role h);
    readable = all_said (λ e. IsReadName e.0) is_readable is_read s e.readable;
  }

pub arc_schema : IsSchema arc_classes
arc_schema = schema_as arc_classes (record { few = refl; letters = refl; in_order = refl; one = refl; both = refl; pointable = refl; readable = refl })
