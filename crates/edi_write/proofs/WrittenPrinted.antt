-- What is written of a plan that was read can be printed.
use Rattle.std.proofs.Common.{◌≡◌, ℕ, suc, ◌+◌, ◌-◌, ◌<◌, ◌≤◌, ◌^◌, ℤ, Bool, true, false, cond, not, ◌&&◌, eqb, true≢false, List, [], ◌∷◌, ◌++◌, length, map, reverse, length-append, Option, Some, None, option_map, unwrap_or, slice_get, position, refl, sym, ap, ap₂, ◌∙◌, subst, arith, nat_lt, IsPermutation, inl}
use Rattle.std.specs.Prelude.{codes, decimal, All, IfSome, bytes_eq}
use Rattle.std.specs.List.{AllByRecursion, AllZip, position_or_len}
use Rattle.std.specs.Map.{keys_of, lookup}
use Rattle.std.proofs.lemmas.Bool.{ltb-true, le-leb, ne_eqb}
use Rattle.std.proofs.lemmas.Fmt.{decimal_is_IsNumeral, length-decimal-le}
use Rattle.std.proofs.lemmas.List.{length-map}
use Rattle.std.proofs.lemmas.List.Elements.{All-from_recursion, All-cons}
use Rattle.std.proofs.lemmas.List.Folds.{list_any_none}
use Rattle.std.proofs.lemmas.List.Sorted.{length_permutation, IsPermutation-reverse}
use Rattle.std.proofs.lemmas.Option.{same_Some, none-some, slice_get_within, get_or_from_slice_get}
use Rattle.std.proofs.lemmas.Slice.Eq.{bytes_eq-Decides}
use Rattle.edi_line.specs.Spelling.{Reading, AreReadings}
use Rattle.edi_line.specs.Zones.{IsZonesIn}
use Rattle.edi_line.proofs.Readings.{readings_are}
use Rattle.edi_line.proofs.ZonesSaid.{zones_are}
use Rattle.edi_record.proofs.StatesSaid.{states_unique, all_said}
use Rattle.edi_plan.proofs.Built.{value_found}
use Rattle.edi_write.specs.Laws.{LayoutHasPlan, LayoutPreservesReferences, LayoutIsSound}
use Rattle.edi_line.specs.ZoneData.{ZoneData}
use Rattle.edi_line.proofs.ZonesFound.{zones_of, zones_in}
use Rattle.edi_line.specs.inner.Number.{number}
use Rattle.edi_line.specs.Printing.{IsOneLine}
use Rattle.edi_line.specs.Refusal.{IsUnbroken}
use Rattle.edi_line.proofs.NumberRead.{number_is, number_lacks, digits_lack}
use Rattle.edi_line.proofs.Numbers.{number_in_range}
use Rattle.edi_line.proofs.Spelled.{plain_text_read}
use Rattle.edi_record.specs.CanonicalZones.{value_text}
use Rattle.edi_record.specs.RecordLayout.{HasPrintableLetters, settled_record, IsRecord, IsLineRecord, FollowsRules, IsName, IsPoint, IsExtra, IsLineName, IsLineAttribute, IsLineEnd, IsLineExtra}
use Rattle.edi_record.specs.Readable.{IsPrintableSheet}
use Rattle.edi_record.specs.RecordRules.{is_identifier, BreaksRecordRule}
use Rattle.edi_record.specs.Records.{has_points, is_link, StatesSheet, States, SheetData}
use Rattle.edi_record.specs.inner.Records.{value_of}
use Rattle.edi_record.specs.Shapes.{kind_code, may_have_points, may_have_ends}
use Rattle.edi_record.specs.Texts.{is_semicolon}
use Rattle.edi_record.specs.declared.name.Name.{Name}
use Rattle.edi_record.specs.declared.record.Kind.{Kind}
use Rattle.edi_record.specs.declared.record.Kind.TheVariants.{Pno, Par, Pfe, Fea, Lnk}
use Rattle.edi_record.specs.LinkEnds.{EndData}
use Rattle.edi_record.specs.declared.record.Point.{Point}
use Rattle.edi_record.specs.declared.record.Attribute.{Attribute}
use Rattle.edi_record.specs.declared.record.Record.{Record}
use Rattle.edi_record.specs.declared.record.Value.TheVariants.{Number, Bytes}
use Rattle.edi_schema.specs.Classes.{IsLetter, Classes, IsSchema, is_name, partner_of, place_of, role_of}
use Rattle.edi_schema.specs.Roles.{is_plain}
use Rattle.edi_schema.proofs.Names.{same_name}
use Rattle.edi_record.proofs.Printable.{sheet_printable}
use Rattle.edi_record.proofs.SheetStated.{sheet_again}
use Rattle.edi_record.proofs.Sound.{sheet_sound}
use Rattle.edi_line.specs.LineRules.{BreaksLineRule, IsZonesOf}
use Rattle.edi_line.specs.Spelling.{is_printable}
use Rattle.edi_line.proofs.EachElement.{each_from_places, each_in_any_order, each_from_found, each_weaker}
use Rattle.edi_schema.specs.declared.class.Class.{Class}
use Rattle.edi_plan.specs.Agreeing.{Agrees}
use Rattle.edi_plan.specs.ReferenceRules.{BreaksReferenceRule}
use Rattle.edi_plan.specs.ReferenceRules.BreaksReferenceRule.{lacks_attribute_class}
use Rattle.edi_plan.specs.PlanOf.{IsPlanOf, StatesPlanAttribute, StatesPlanEnd, StatesPlanRecord}
use Rattle.edi_plan.specs.Plans.{PlanData, IsPlace, record_at, blank}
use Rattle.edi_plan.specs.Whole.{IsWholePlan}
use Rattle.edi_plan.specs.declared.record.PlanRecord.{PlanRecord}
use Rattle.edi_plan.specs.declared.record.PlanAttribute.{PlanAttribute}
use Rattle.edi_plan.specs.declared.record.PlanEnd.{PlanEnd}
use Rattle.edi_plan.proofs.Resolved.{role_there}
use Rattle.edi_rank.specs.Same.{Carries, CarriesRecord, Same, class_after, directed, has_turned_arc, moved}
use Rattle.edi_rank.proofs.ArrangedUnder.{directed_long}
use Rattle.edi_rank.proofs.SameLaws.{ends_moved}
use Rattle.edi_plan.proofs.Built.{zip_at, zip_length, zip_one}
use Rattle.edi_write.specs.Layout.{class_name_of, no_name, identifier, kind_letter, layout, number_in}
use Rattle.edi_write.proofs.Naming.{number_few}
use Rattle.edi_write.proofs.WrittenRecords.{none_there, written_at, written_count, written_layout, written_plan}
use Rattle.edi_write.proofs.WrittenReferences.{written_references}
use Rattle.edi_write.specs.Written.{letters, written_attribute, written_end, written_record, written_records, HasAttributeClasses, HasPrintableKinds, IsPrintableName, CanBePrinted}

-- ---- the name of a class that was read

found_name : (n : Name) (names : List Name) → position_or_len (is_name n) names < length names → slice_get names (position_or_len (is_name n) names) ≡ Some n
found_name n [] h = absurd (omega arith)
found_name n (x ∷ xs) h = go (is_name n x) refl (found_name n xs) h
  where
    go : (b : Bool) → is_name n x ≡ b → (position_or_len (is_name n) xs < length xs → slice_get xs (position_or_len (is_name n) xs) ≡ Some n)
        → cond (not b) (1 + position_or_len (is_name n) xs) 0 < length (x ∷ xs) → slice_get (x ∷ xs) (cond (not b) (1 + position_or_len (is_name n) xs) 0) ≡ Some n
    go true e more h = ap Some (sym (same_name n x e))
    go false e more h = rw Rattle.std.proofs.Common.one-add (more (omega arith))

position_some : {X : Type 0} (test : X → Bool) (xs : List X) (k : ℕ) → position test xs ≡ Some k → (position_or_len test xs ≡ k) × (position_or_len test xs < length xs)
position_some test xs k h = go (nat_lt (position_or_len test xs) (length xs)) refl h
  where
    go : (b : Bool) → nat_lt (position_or_len test xs) (length xs) ≡ b → cond b (Some (position_or_len test xs)) None ≡ Some k → (position_or_len test xs ≡ k) × (position_or_len test xs < length xs)
    go true e g = (same_Some _ _ g, ltb-true _ _ e)
    go false e g = absurd (none-some k g)

name_is : (s : Classes) (n : Name) (c : ℕ) → place_of s n ≡ Some c → class_name_of s c ≡ n
name_is s n c h =
    let at = position_some (is_name n) (keys_of s) c h in
    ap (λ o. unwrap_or o no_name) (ap (slice_get (keys_of s)) (sym at.0) ∙ found_name n (keys_of s) at.1)

-- ---- the texts that are written

value_line : (may : Bool) (text : List ℕ) → IsOneLine text → IsOneLine (value_text (value_of may text))
value_line false text h = h
value_line true text h = go (number text) refl
  where
    plain : (m : ℤ) → number text ≡ Some m → IsOneLine (value_text (Number m))
    plain m e = number_lacks 10 (λ c low high. ne_eqb c 10 (λ e. omega arith)) refl refl refl _ m (plain_text_read m (number_in_range text m ((number_is text m).0 e)))

    go : (o : Option ℤ) → number text ≡ o → IsOneLine (value_text (unwrap_or (option_map Number o) (Bytes text)))
    go (Some m) e = plain m e
    go None e = h

abbrev Lacks : ℕ → List ℕ → Type 0
Lacks c text = All (λ x. eqb x c ≡ false) text

-- what no letter of a type is
letter_lacks : (c : ℕ) → eqb 78 c ≡ false → eqb 65 c ≡ false → eqb 70 c ≡ false → eqb 79 c ≡ false → eqb 76 c ≡ false → (kind : Kind) (digits : List ℕ) → Lacks c digits → Lacks c (kind_letter kind ++ digits)
letter_lacks c n a f o l Pno digits all = All-cons (λ x. eqb x c ≡ false) 78 digits n all
letter_lacks c n a f o l Par digits all = All-cons (λ x. eqb x c ≡ false) 65 digits a all
letter_lacks c n a f o l Pfe digits all = All-cons (λ x. eqb x c ≡ false) 70 digits f all
letter_lacks c n a f o l Fea digits all = All-cons (λ x. eqb x c ≡ false) 79 digits o all
letter_lacks c n a f o l Lnk digits all = All-cons (λ x. eqb x c ≡ false) 76 digits l all

decimal_lacks : (c number : ℕ) → ((x : ℕ) → 48 ≤ x → x ≤ 57 → eqb x c ≡ false) → number < 2 ^ 64 → Lacks c (decimal number)
decimal_lacks c number apart few = digits_lack c apart (decimal number) (decimal_is_IsNumeral number few).0.1

identifier_line : (kind : Kind) (number : ℕ) → number < 2 ^ 64 → IsOneLine (identifier kind number)
identifier_line kind number few = letter_lacks 10 refl refl refl refl refl kind (decimal number) (decimal_lacks 10 number (λ c low high. ne_eqb c 10 (λ e. omega arith)) few)

identifier_part : (kind : Kind) (number : ℕ) → number < 2 ^ 64 → Lacks 59 (identifier kind number)
identifier_part kind number few = letter_lacks 59 refl refl refl refl refl kind (decimal number) (decimal_lacks 59 number (λ c low high. ne_eqb c 59 (λ e. omega arith)) few)

one_letter : (kind : Kind) → length (kind_letter kind) ≡ 1
one_letter Pno = refl
one_letter Par = refl
one_letter Pfe = refl
one_letter Fea = refl
one_letter Lnk = refl

identifier_good : (kind : Kind) (number : ℕ) → number < 2 ^ 64 → is_identifier (identifier kind number) ≡ true
identifier_good kind number few =
    let short : length (decimal number) ≤ 20 = length-decimal-le 20 number (omega arith) (omega (arith, few)) few in
    let long : length (identifier kind number) ≡ length (kind_letter kind) + length (decimal number) = length-append (kind_letter kind) (decimal number) in
    let one = one_letter kind in
    let low = le-leb 1 (length (identifier kind number)) (omega (arith, long, one)) in
    let high = le-leb (length (identifier kind number)) 255 (omega (arith, long, one, short)) in
    let none = list_any_none is_semicolon (identifier kind number) (identifier_part kind number few) in
    ap₂ ◌&&◌ low (ap₂ ◌&&◌ high (ap not none))

code_lacks : (kind : Kind) → Lacks 10 (kind_code kind) × Lacks 59 (kind_code kind)
code_lacks Pno = (All-from_recursion (λ x. eqb x 10 ≡ false) (kind_code Pno) (refl, (refl, (refl, tt))), All-from_recursion (λ x. eqb x 59 ≡ false) (kind_code Pno) (refl, (refl, (refl, tt))))
code_lacks Par = (All-from_recursion (λ x. eqb x 10 ≡ false) (kind_code Par) (refl, (refl, (refl, tt))), All-from_recursion (λ x. eqb x 59 ≡ false) (kind_code Par) (refl, (refl, (refl, tt))))
code_lacks Pfe = (All-from_recursion (λ x. eqb x 10 ≡ false) (kind_code Pfe) (refl, (refl, (refl, tt))), All-from_recursion (λ x. eqb x 59 ≡ false) (kind_code Pfe) (refl, (refl, (refl, tt))))
code_lacks Fea = (All-from_recursion (λ x. eqb x 10 ≡ false) (kind_code Fea) (refl, (refl, (refl, tt))), All-from_recursion (λ x. eqb x 59 ≡ false) (kind_code Fea) (refl, (refl, (refl, tt))))
code_lacks Lnk = (All-from_recursion (λ x. eqb x 10 ≡ false) (kind_code Lnk) (refl, (refl, (refl, tt))), All-from_recursion (λ x. eqb x 59 ≡ false) (kind_code Lnk) (refl, (refl, (refl, tt))))

-- ---- the ends that are written

end_names : (s : Classes) (q : PlanData) → IsWholePlan q → (es : List PlanEnd) → AllByRecursion (λ e. IsName e.target) (map (written_end s q) es)
end_names s q whole [] = tt
end_names s q whole (e ∷ es) =
    let kind = (record_at q e.target).kind in
    (record { rty = (code_lacks kind).1; rid = identifier_part kind (number_in s q e.target) (number_few s q whole e.target) }, end_names s q whole es)

end_lines : (s : Classes) (q : PlanData) → IsWholePlan q → (es : List PlanEnd) → AllByRecursion (λ e. IfSome e.sns IsOneLine) es → AllByRecursion IsLineEnd (map (written_end s q) es)
end_lines s q whole [] lines = tt
end_lines s q whole (e ∷ es) lines =
    let kind = (record_at q e.target).kind in (
      record { target = record { rty = (code_lacks kind).0; rid = identifier_line kind (number_in s q e.target) (number_few s q whole e.target) }; sns = lines.0 },
      end_lines s q whole es lines.1,
    )

-- the SNS of the ends that were read
senses_read : (list : List Record) (ds : List EndData) (es : List PlanEnd) → AllByRecursion IsLineEnd ds → AllZip (StatesPlanEnd list) ds es → AllByRecursion (λ e. IfSome e.sns IsOneLine) es
senses_read list [] [] lines all = tt
senses_read list [] (e ∷ es) lines all = absurd all
senses_read list (d ∷ ds) [] lines all = absurd all
senses_read list (d ∷ ds) (e ∷ es) lines all = (subst (λ t. IfSome t IsOneLine) (sym all.0.sns) lines.0.sns, senses_read list ds es lines.1 all.1)

senses_moved : (to : ℕ → ℕ) (es : List PlanEnd) → AllByRecursion (λ e. IfSome e.sns IsOneLine) es → AllByRecursion (λ e. IfSome e.sns IsOneLine) (map (moved to) es)
senses_moved to [] lines = tt
senses_moved to (e ∷ es) lines = (lines.0, senses_moved to es lines.1)

-- ---- an attribute that is written

-- what an attribute needs to be printed
abbrev Prints : Classes → PlanAttribute → Type 0
Prints s a = IsName (class_name_of s a.atp) × IsLineAttribute (written_attribute s a)

attribute_prints : (s : Classes) (b : Attribute) (a : PlanAttribute) → IsName b.atp → IsLineAttribute b → StatesPlanAttribute s b a → Prints s a
attribute_prints s b a name line states =
    let same : b.atp ≡ class_name_of s a.atp = sym (name_is s b.atp a.atp states.class) in
    let may : (m : Bool) → IsOneLine (value_text (value_of m b.atv)) = λ m. value_line m b.atv line.value in (
      subst IsName same name,
      record {
        class = subst IsLineName same line.class;
        set = subst (λ t. IfSome t IsOneLine) (sym states.set) line.set;
        value = subst (λ v. IsOneLine (value_text v)) (sym (value_found s b.atp b.atv a.value states.value)) (may _);
      },
    )

attributes_print : (s : Classes) (bs : List Attribute) (as' : List PlanAttribute) → AllByRecursion (λ b. IsName b.atp) bs → AllByRecursion IsLineAttribute bs → AllZip (StatesPlanAttribute s) bs as' → AllByRecursion (Prints s) as'
attributes_print s [] [] names lines all = tt
attributes_print s [] (a ∷ xs) names lines all = absurd all
attributes_print s (b ∷ bs) [] names lines all = absurd all
attributes_print s (b ∷ bs) (a ∷ xs) names lines all = (attribute_prints s b a names.0 lines.0 all.0, attributes_print s bs xs names.1 lines.1 all.1)

names_written : (s : Classes) (xs : List PlanAttribute) → AllByRecursion (Prints s) xs → AllByRecursion (λ b. IsName b.atp) (map (written_attribute s) xs)
names_written s [] all = tt
names_written s (a ∷ xs) all = (all.0.0, names_written s xs all.1)

lines_written : (s : Classes) (xs : List PlanAttribute) → AllByRecursion (Prints s) xs → AllByRecursion IsLineAttribute (map (written_attribute s) xs)
lines_written s [] all = tt
lines_written s (a ∷ xs) all = (all.0.1, lines_written s xs all.1)

-- ---- a record that is written

abbrev CanPrint : Record → Type 0
CanPrint r = IsRecord r × IsLineRecord r × FollowsRules r

-- the class after the turns: that which was read, or its partner
class_prints : (s : Classes) → HasPrintableKinds s → (turned : ℕ → Bool) (x : PlanRecord) → x.role ≡ role_of s x.class → IsPrintableName (class_name_of s x.class) → IsPrintableName (class_name_of s (class_after (partner_of s) turned x))
class_prints s kinds turned x role prints = go (is_plain x.role) (has_turned_arc turned x) refl
  where
    go : (a t : Bool) → is_plain x.role ≡ a → IsPrintableName (class_name_of s (cond a x.class (cond t (partner_of s x.class) x.class)))
    go true t e = prints
    go false true e = kinds x.class (ap is_plain (sym role) ∙ e) prints
    go false false e = prints

points_directed : (P : Point → Type 0) (t : Bool) (ps : List Point) → AllByRecursion P ps → AllByRecursion P (directed t ps)
points_directed P true ps all = each_in_any_order P ps (reverse ps) (IsPermutation-reverse ps) all
points_directed P false ps all = all

no_points : (kind : Kind) (ps : List Point) → may_have_points kind (length ps) ≡ true → has_points kind ≡ false → ps ≡ []
no_points Pno ps may none = absurd (true≢false none)
no_points Par ps may none = absurd (true≢false none)
no_points Pfe ps may none = none_there ps may
no_points Fea ps may none = none_there ps may
no_points Lnk ps may none = none_there ps may

no_ends : (s : Classes) (q : PlanData) (kind : Kind) (es : List PlanEnd) → may_have_ends kind (length es) ≡ true → is_link kind ≡ false → map (written_end s q) es ≡ []
no_ends s q Pno es may none = ap (map (written_end s q)) (none_there es may)
no_ends s q Par es may none = ap (map (written_end s q)) (none_there es may)
no_ends s q Pfe es may none = ap (map (written_end s q)) (none_there es may)
no_ends s q Fea es may none = ap (map (written_end s q)) (none_there es may)
no_ends s q Lnk es may none = absurd (true≢false none)

module _ (s : Classes) (kinds : HasPrintableKinds s) (q : PlanData) (whole : IsWholePlan q) where
  -- the record y is the record x, which r states, carried to the place k
  carried_printable : (list : List Record) (r : Record) (x : PlanRecord) (to : ℕ → ℕ) (turned : ℕ → Bool) (i k : ℕ) → IsRecord r → IsLineRecord r → FollowsRules r
      → StatesPlanRecord s list r x → IsPlace q k → CarriesRecord s to turned i x (record_at q k) → CanPrint (written_record s q (number_in s q k) (record_at q k))
  carried_printable list r x to turned i k is line keeps states there c = (
    record {
      class = prints.0;
      points = points;
      no_points = no_points y.kind y.points (whole.points k there);
      ends = end_names s q whole y.ends;
      no_ends = no_ends s q y.kind y.ends (whole.ends k there);
      classes = names_written s y.attributes print;
      extras = subst (λ kind. AllByRecursion (IsExtra kind) y.extras) kind (subst (AllByRecursion (IsExtra r.kind)) extras is.extras);
    },
    record {
      rid = identifier_line y.kind (number_in s q k) (number_few s q whole k);
      class = prints.1;
      points = points;
      ends = end_lines s q whole y.ends senses;
      few = few_attributes line.few;
      few_points = few_points line.few_points;
      few_ends = few_ends line.few_ends;
      attributes = lines_written s y.attributes print;
      extras = subst (AllByRecursion IsLineExtra) extras line.extras;
    },
    record {
      identifier = identifier_good y.kind (number_in s q k) (number_few s q whole k);
      shape = ap₂ ◌&&◌ (whole.points k there) (ap (may_have_ends y.kind) (length-map y.ends (written_end s q)) ∙ whole.ends k there);
      few_attributes = few_attributes keeps.few_attributes;
      few_points = few_points keeps.few_points;
      few_ends = few_ends keeps.few_ends;
      pointers = subst (AllByRecursion (λ e. e.format ≡ 80 → value_text e.value ≡ [])) extras keeps.pointers;
    },
  )
    where
      y : PlanRecord
      y = record_at q k

      kind : r.kind ≡ y.kind
      kind = sym states.kind ∙ sym c.kind

      extras : r.extras ≡ y.extras
      extras = sym states.extras ∙ sym c.extras

      role : x.role ≡ role_of s x.class
      role = same_Some x.role (role_of s x.class) (sym states.role ∙ role_there s r.scp x.class states.class)

      prints : IsPrintableName (class_name_of s y.class)
      prints = subst (λ class. IsPrintableName (class_name_of s class)) (sym c.class)
          (class_prints s kinds turned x role (subst IsPrintableName (sym (name_is s r.scp x.class states.class)) (is.class, line.class)))

      points : AllByRecursion IsPoint y.points
      points = subst (AllByRecursion IsPoint) (sym c.points) (points_directed IsPoint (turned i) x.points (subst (AllByRecursion IsPoint) (sym states.points) is.points))

      print : AllByRecursion (Prints s) y.attributes
      print = each_in_any_order (Prints s) x.attributes y.attributes c.attributes (attributes_print s r.attributes x.attributes is.classes line.attributes states.attributes)

      moved_ends : IsPermutation (map (moved to) x.ends) y.ends
      moved_ends = ends_moved s to turned i x y c

      senses : AllByRecursion (λ e. IfSome e.sns IsOneLine) y.ends
      senses = each_in_any_order (λ e. IfSome e.sns IsOneLine) (map (moved to) x.ends) y.ends moved_ends (senses_moved to x.ends (senses_read list r.ends x.ends line.ends states.ends))

      few_attributes : length r.attributes < 2 ^ 64 → length (map (written_attribute s) y.attributes) < 2 ^ 64
      few_attributes h =
          let a = length-map y.attributes (written_attribute s) in
          let b = length_permutation x.attributes y.attributes c.attributes in
          let d = zip_length (StatesPlanAttribute s) r.attributes x.attributes states.attributes in
          omega (arith, a, b, d, h)

      few_points : length r.points < 2 ^ 64 → length y.points < 2 ^ 64
      few_points h =
          let a = ap length c.points in
          let b = directed_long (turned i) x.points in
          let d = ap length states.points in
          omega (arith, a, b, d, h)

      few_ends : length r.ends < 2 ^ 64 → length (map (written_end s q) y.ends) < 2 ^ 64
      few_ends h =
          let a = length-map y.ends (written_end s q) in
          let b = length_permutation (map (moved to) x.ends) y.ends moved_ends in
          let d = length-map x.ends (moved to) in
          let f = zip_length (StatesPlanEnd list) r.ends x.ends states.ends in
          omega (arith, a, b, d, f, h)

pub record_printable : (s : Classes) (list : List Record) (r : Record) (p q : PlanData) (to : ℕ → ℕ) (turned : ℕ → Bool) (k : ℕ) → HasPrintableKinds s → IsRecord r → IsLineRecord r → FollowsRules r
    → StatesPlanRecord s list r (record_at p k) → Carries s to turned p q → IsWholePlan q → IsPlace p k
    → IsRecord (written_record s q (number_in s q (to k)) (record_at q (to k))) × IsLineRecord (written_record s q (number_in s q (to k)) (record_at q (to k)))
    × FollowsRules (written_record s q (number_in s q (to k)) (record_at q (to k)))
record_printable s list r p q to turned k kinds is line keeps states c whole there =
    carried_printable s kinds q whole list r (record_at p k) to turned k (to k) is line keeps states (c.places.within k there) (c.each k there)

-- ---- the sheet that is written

at_place : {X : Type 0} (P : X → Type 0) (xs : List X) (k : ℕ) (x : X) → slice_get xs k ≡ Some x → AllByRecursion P xs → P x
at_place P xs k x h all = Rattle.edi_schema.proofs.Ordered.all_at P xs all k x h

pub written_printable : (s : Classes) (sheet : SheetData) (p q : PlanData) → HasPrintableKinds s → IsPrintableSheet sheet → IsPlanOf s sheet p → Same s p q → IsWholePlan q
    → CanBePrinted q.cse (written_records s q)
written_printable s sheet p q kinds printable plan same whole = record {
  set = subst (λ c. IfSome c IsOneLine) (sym (c.cse ∙ plan.set)) printable.cse;
  records = each_weaker CanPrint IsRecord (λ r h. h.0) (written_records s q) all;
  lines = each_weaker CanPrint IsLineRecord (λ r h. h.1) (written_records s q) all;
  rules = each_weaker CanPrint FollowsRules (λ r h. h.2) (written_records s q) all;
}
  where
    c : Carries s same.0 same.1 p q
    c = same.2

    at_new : (i : ℕ) → IsPlace p i → CanPrint (written_record s q (number_in s q (same.0 i)) (record_at q (same.0 i)))
    at_new i h =
        let d = zip_at (StatesPlanRecord s sheet.list) sheet.list p.list plan.each i blank h in
        record_printable s sheet.list d.0 p q same.0 same.1 i kinds
        (at_place IsRecord sheet.list i d.0 d.1 printable.records) (at_place IsLineRecord sheet.list i d.0 d.1 printable.lines) (at_place FollowsRules sheet.list i d.0 d.1 printable.rules)
        d.2 c whole h

    all : AllByRecursion CanPrint (written_records s q)
    all = each_from_found CanPrint (written_records s q) each
      where
        each : (k : ℕ) (r : Record) → slice_get (written_records s q) k ≡ Some r → CanPrint r
        each k r e =
            let within = slice_get_within (written_records s q) k r e in
            let there : IsPlace q k = omega (arith, within, written_count s q) in
            let from = c.places.onto k there in
            subst CanPrint (same_Some _ r (sym (written_at s q k there) ∙ e)) (subst (λ j. CanPrint (written_record s q (number_in s q j) (record_at q j))) from.2 (at_new from.0 from.1))

-- ---- the classes of attributes are of type ATT

types_stated : (s : Classes) (bs : List Attribute) (xs : List PlanAttribute) → AllByRecursion (λ b. b.atp.rty ≡ codes "ATT") bs → AllZip (StatesPlanAttribute s) bs xs
    → AllByRecursion (λ a. (class_name_of s a.atp).rty ≡ codes "ATT") xs
types_stated s [] [] types all = tt
types_stated s [] (a ∷ xs) types all = absurd all
types_stated s (b ∷ bs) [] types all = absurd all
types_stated s (b ∷ bs) (a ∷ xs) types all = (ap (λ (n : Name). n.rty) (name_is s b.atp a.atp all.0.class) ∙ types.0, types_stated s bs xs types.1 all.1)

module _ (s : Classes) (sheet : SheetData) (p : PlanData) (unbroken : IsUnbroken (BreaksReferenceRule s sheet.list)) (plan : IsPlanOf s sheet p) where
  type_read : (k : ℕ) (r : Record) → slice_get sheet.list k ≡ Some r → (i : ℕ) (b : Attribute) → slice_get r.attributes i ≡ Some b → b.atp.rty ≡ codes "ATT"
  type_read k r here i b there = go (bytes_eq b.atp.rty (codes "ATT")) refl
    where
      at : (1 ≤ suc k) × (slice_get sheet.list (suc k - 1) ≡ Some r)
      at = (omega arith, (let e : k ≡ suc k - 1 = omega arith in subst (λ j. slice_get sheet.list j ≡ Some r) e here))

      go : (t : Bool) → bytes_eq b.atp.rty (codes "ATT") ≡ t → b.atp.rty ≡ codes "ATT"
      go true e = (bytes_eq-Decides b.atp.rty (codes "ATT")).0 e
      go false e = absurd (unbroken 303 (suc k) (lacks_attribute_class refl
          (r, at, (i, b, slice_get_within r.attributes i b there, get_or_from_slice_get r.attributes i b b there, inl (λ same. true≢false (sym ((bytes_eq-Decides b.atp.rty (codes "ATT")).1 same) ∙ e))))))

  types_at : (k : ℕ) → IsPlace p k → AllByRecursion (λ a. (class_name_of s a.atp).rty ≡ codes "ATT") (record_at p k).attributes
  types_at k h =
      let d = zip_at (StatesPlanRecord s sheet.list) sheet.list p.list plan.each k blank h in
      types_stated s d.0.attributes (record_at p k).attributes (each_from_found (λ b. b.atp.rty ≡ codes "ATT") d.0.attributes (λ i b e. type_read k d.0 d.1 i b e)) d.2.attributes

pub attribute_classes : (s : Classes) (sheet : SheetData) (p q : PlanData) → IsUnbroken (BreaksReferenceRule s sheet.list) → IsPlanOf s sheet p → Same s p q → HasAttributeClasses s q
attribute_classes s sheet p q unbroken plan same = each_from_places (λ r. AllByRecursion (λ a. (class_name_of s a.atp).rty ≡ codes "ATT") r.attributes) q.list blank each
  where
    each : (k : ℕ) → IsPlace q k → AllByRecursion (λ a. (class_name_of s a.atp).rty ≡ codes "ATT") (record_at q k).attributes
    each k h =
        let from = same.2.places.onto k h in
        subst (λ j. AllByRecursion (λ a. (class_name_of s a.atp).rty ≡ codes "ATT") (record_at q j).attributes) from.2
        (each_in_any_order (λ a. (class_name_of s a.atp).rty ≡ codes "ATT") (record_at p from.0).attributes (record_at q (same.0 from.0)).attributes (same.2.each from.0 from.1).attributes (types_at s sheet p unbroken plan from.0 from.1))

-- ---- the layout, read again

one_sheet : (gs : List (List ZoneData)) (rs qs : List Record) → AllZip States gs rs → AllZip States gs qs → rs ≡ qs
one_sheet gs rs qs h g = zip_one States States states_unique gs rs qs h g

read_list : (s : Classes) (q : PlanData) (sheet : SheetData) → IsSchema s → HasPrintableLetters (letters s) → IsWholePlan q → Agrees s q → CanBePrinted q.cse (written_records s q)
    → StatesSheet (zones_of (layout s q)) sheet → (sheet.cse ≡ q.cse) × (sheet.list ≡ map (settled_record (letters s)) (written_records s q))
read_list s q sheet keeps printable whole agrees can states =
    let rs = written_records s q in
    let again = sheet_again (letters s) q.cse rs (sheet_printable (letters s) q.cse rs printable can.set can.records can.lines) can.records in
    let stated = subst (λ bytes. StatesSheet (zones_of bytes) sheet) (written_layout s q keeps whole agrees) states in
    (stated.cse ∙ again.0, one_sheet _ sheet.list (map (settled_record (letters s)) rs) stated.records (all_said _ (map (settled_record (letters s)) rs) again.1))

-- whatever zones the lines of the layout have
zones_same : (s : Classes) (q : PlanData) (readings : List Reading) (zones : List ZoneData) → AreReadings (layout s q) readings → IsZonesIn readings zones → zones ≡ zones_of (layout s q)
zones_same s q readings zones say are = zones_are readings zones are ∙ ap zones_in (readings_are (layout s q) readings say)

pub layout_plan : LayoutHasPlan
layout_plan s q sheet readings zones keeps printable whole agrees can say are states =
    let same = read_list s q sheet keeps printable whole agrees can (subst (λ zs. StatesSheet zs sheet) (zones_same s q readings zones say are) states) in
    written_plan s q sheet keeps whole agrees same.0 same.1

pub layout_references : LayoutPreservesReferences
layout_references s q sheet readings zones keeps printable whole agrees can joined types say are states =
    let same = read_list s q sheet keeps printable whole agrees can (subst (λ zs. StatesSheet zs sheet) (zones_same s q readings zones say are) states) in
    subst (λ rs. IsUnbroken (BreaksReferenceRule s rs)) (sym same.1) (written_references s q keeps whole agrees joined types)

pub layout_sound : LayoutIsSound
layout_sound s q keeps printable whole agrees can =
    let rs = written_records s q in
    let few : length rs ≤ 9999999 = let f = whole.few in omega (arith, f, written_count s q) in
    let sound = sheet_sound (letters s) q.cse rs printable can.set can.records can.lines can.rules few in
    subst (λ bytes. (zones : List ZoneData) × IsZonesOf bytes zones × IsUnbroken (BreaksLineRule bytes) × IsUnbroken (BreaksRecordRule zones))
    (sym (written_layout s q keeps whole agrees)) (sound.zones, sound.are_zones, sound.lines, sound.records)

-- ---- the letters of a schema

letter_found : (n : Name) (s : Classes) → AllByRecursion (λ e. IsLetter e.1.letter) s → is_printable ((letters s).letter n) ≡ true
letter_found n [] all = refl
letter_found n (e ∷ es) all = go (is_name n e.0) (letter_found n es all.1)
  where
    go : (b : Bool) → is_printable (unwrap_or (option_map (λ (c : Class). c.letter) (lookup (is_name n) es)) 65) ≡ true
        → is_printable (unwrap_or (option_map (λ (c : Class). c.letter) (cond b (Some e.1) (lookup (is_name n) es))) 65) ≡ true
    go true more =
        let low = all.0.0 in
        let high = all.0.1 in
        ap₂ ◌&&◌ (le-leb 32 e.1.letter (omega (arith, low))) (le-leb e.1.letter 126 (omega (arith, high)))
    go false more = more

pub letters_printable : (s : Classes) → IsSchema s → HasPrintableLetters (letters s)
letters_printable s keeps n = letter_found n s keeps.letters
