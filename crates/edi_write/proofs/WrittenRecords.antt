-- The records that are written of a plan, and what is read of them.
use Rattle.std.proofs.Common.{◌≡◌, ℕ, zero, suc, ◌+◌, ◌<◌, ℤ, Bool, true, false, cond, true≢false, List, [], ◌∷◌, ◌++◌, length, map, append-nil, Option, Some, None, option_map, unwrap_or, slice_get, get_or, nat_eq, position, refl, sym, ap, ap₂, ◌∙◌, subst, arith, nat_lt, eqb-true}
use Rattle.std.specs.Prelude.{codes, decimal, flat_map, option_to_list}
use Rattle.std.specs.List.{AllByRecursion, AllZip, position_or_len}
use Rattle.std.specs.Map.{keys_of}
use Rattle.std.proofs.lemmas.Bool.{lt-ltb}
use Rattle.std.proofs.lemmas.List.{length-map}
use Rattle.std.proofs.lemmas.Option.{same_Some, none-some, slice_get-get_or, slice_get_within, slice_get-map}
use Rattle.edi_record.specs.Records.{IsValueOf, SheetData}
use Rattle.edi_record.proofs.Passes.{value_said}
use Rattle.edi_record.proofs.StatesSaid.{value_read}
use Rattle.edi_plan.proofs.Built.{value_stated}
use Rattle.edi_line.specs.inner.Number.{number}
use Rattle.edi_line.specs.Printing.{zone_text, printed}
use Rattle.edi_line.proofs.NumberRead.{number_is}
use Rattle.edi_line.proofs.Numbers.{number_in_range}
use Rattle.edi_line.proofs.EachElement.{each_from_places}
use Rattle.edi_record.specs.CanonicalZones.{class_text, value_text, point_zone, set_zone, extra_zone, begin_zone, cse_zone, end_zone}
use Rattle.edi_record.specs.RecordLayout.{settled, settled_record, settled_end, IsOwnValue}
use Rattle.edi_record.specs.RecordLayout as records
use Rattle.edi_record.specs.inner.Records.{value_of}
use Rattle.edi_record.specs.Shapes.{may_have_points, may_have_ends, kind_code}
use Rattle.edi_record.specs.declared.record.Kind.{Kind}
use Rattle.edi_record.specs.declared.record.Kind.TheVariants.{Pno, Par, Pfe, Fea, Lnk}
use Rattle.edi_record.specs.declared.record.Record.{Record}
use Rattle.edi_record.specs.declared.record.Value.{Value}
use Rattle.edi_record.specs.declared.record.Value.TheVariants.{Number, Bytes}
use Rattle.edi_record.proofs.Stated.{own_again}
use Rattle.edi_schema.specs.Classes.{Classes, IsSchema, is_name, place_of, is_number_of}
use Rattle.edi_schema.specs.declared.class.Class.{Class}
use Rattle.edi_schema.proofs.InPlace.{found_in_place}
use Rattle.edi_schema.proofs.Names.{name_itself}
use Rattle.edi_plan.specs.Agreeing.{AttributeAgrees, RecordAgrees, Agrees}
use Rattle.edi_plan.specs.PlanOf.{IsPlanOf, StatesPlanAttribute, StatesPlanEnd, StatesPlanRecord, own_name, place_named}
use Rattle.edi_plan.specs.Plans.{PlanData, IsPlace, record_at, blank}
use Rattle.edi_plan.specs.Whole.{IsWholePlan}
use Rattle.edi_plan.specs.declared.record.PlanRecord.{PlanRecord}
use Rattle.edi_plan.specs.declared.record.PlanAttribute.{PlanAttribute}
use Rattle.edi_plan.specs.declared.record.PlanEnd.{PlanEnd}
use Rattle.edi_plan.proofs.Built.{named_at}
use Rattle.edi_plan.proofs.Resolved.{role_there}
use Rattle.edi_write.specs.Layout.{record_zones, attribute_zones, body_zones, end_zones, zones_from, name_in, number_in, class_letter_of, class_name_of, no_name, identifier, layout}
use Rattle.edi_write.specs.Written.{letters, written_attribute, written_end, written_record, written_from, written_records}
use Rattle.edi_write.proofs.Naming.{names_apart}

-- ---- a class by its name

keys_length : (s : Classes) → length (keys_of s) ≡ length s
keys_length [] = refl
keys_length (e ∷ es) = ap suc (keys_length es)

position_is : {X : Type 0} (test : X → Bool) (xs : List X) (k : ℕ) → position_or_len test xs ≡ k → k < length xs → position test xs ≡ Some k
position_is test xs k e h =
    let less : nat_lt (position_or_len test xs) (length xs) ≡ true = lt-ltb _ _ (omega (arith, e, h)) in
    ap (λ b. cond b (Some (position_or_len test xs)) None) less ∙ ap Some e

name_there : (s : Classes) (c : ℕ) → c < length s → slice_get (keys_of s) c ≡ Some (class_name_of s c)
name_there s c h =
    let there = slice_get-get_or (keys_of s) c no_name (omega (arith, h, keys_length s)) in
    there ∙ ap Some (sym (ap (λ o. unwrap_or o no_name) there))

pub place_there : (s : Classes) → IsSchema s → (c : ℕ) → c < length s → place_of s (class_name_of s c) ≡ Some c
place_there s keeps c h = found_in_place s keeps c (class_name_of s c) (name_there s c h)

letter_there : (s : Classes) → IsSchema s → (c : ℕ) → c < length s → (letters s).letter (class_name_of s c) ≡ class_letter_of s c
letter_there s keeps c h = ap (λ o. unwrap_or (option_map (λ (x : Class). x.letter) o) 65) (named_at s (class_name_of s c) c (place_there s keeps c h)).1

number_there : (s : Classes) → IsSchema s → (c : ℕ) → c < length s → (letters s).is_number (class_name_of s c) ≡ is_number_of s c
number_there s keeps c h = ap (λ o. unwrap_or (option_map (λ (x : Class). x.is_number) o) false) (named_at s (class_name_of s c) c (place_there s keeps c h)).1

-- ---- a value by its text

value_own : (may : Bool) (text : List ℕ) → IsOwnValue may (value_of may text)
value_own false text = λ e. absurd (true≢false (sym e))
value_own true text = go (number text) refl
  where
    go : (o : Option ℤ) → number text ≡ o → IsOwnValue true (unwrap_or (option_map Number o) (Bytes text))
    go None e = λ _. e
    go (Some m) e = (refl, number_in_range text m ((number_is text m).0 e))

again : (may : Bool) (v : Value) (text : List ℕ) → v ≡ value_of may text → value_of may (value_text v) ≡ v
again may v text e = own_again may v (subst (IsOwnValue may) (sym e) (value_own may text))

attribute_again : (s : Classes) → IsSchema s → (a : PlanAttribute) → AttributeAgrees s a → value_of ((letters s).is_number (class_name_of s a.atp)) (value_text a.value) ≡ a.value
attribute_again s keeps a agrees = ap (λ may. value_of may (value_text a.value)) (number_there s keeps a.atp agrees.known) ∙ again (is_number_of s a.atp) a.value agrees.text (value_read (is_number_of s a.atp) agrees.text a.value agrees.value)

-- ---- the zones of what is written

attribute_same : (s : Classes) → IsSchema s → (a : PlanAttribute) → AttributeAgrees s a → attribute_zones s a ≡ records.zones_of_attribute (letters s) (written_attribute s a)
unfolding records.zones_of_attribute
attribute_same s keeps a agrees =
    ap₂ (λ letter text. zone_text (codes "ATP") 67 80 (class_text (class_name_of s a.atp)) ∷ (map set_zone (option_to_list a.tex) ++ zone_text (codes "ATV") 83 letter text ∷ []))
    (sym (letter_there s keeps a.atp agrees.known)) (ap value_text (sym (attribute_again s keeps a agrees)))

attributes_same : (s : Classes) → IsSchema s → (xs : List PlanAttribute) → AllByRecursion (AttributeAgrees s) xs → flat_map (attribute_zones s) xs ≡ flat_map (records.zones_of_attribute (letters s)) (map (written_attribute s) xs)
attributes_same s keeps [] agree = refl
attributes_same s keeps (a ∷ xs) agree = ap₂ ◌++◌ (attribute_same s keeps a agree.0) (attributes_same s keeps xs agree.1)

ends_same : (s : Classes) (p : PlanData) (es : List PlanEnd) → flat_map (end_zones s p) es ≡ flat_map records.zones_of_end (map (written_end s p) es)
unfolding records.zones_of_end
ends_same s p [] = refl
ends_same s p (e ∷ es) = ap (λ zs. end_zones s p e ++ zs) (ends_same s p es)

-- a record with as many points and ends as its type has
abbrev pub IsShaped : PlanRecord → Type 0
IsShaped r = (may_have_points r.kind (length r.points) ≡ true) × (may_have_ends r.kind (length r.ends) ≡ true)

pub none_there : {X : Type 0} (xs : List X) → nat_eq (length xs) 0 ≡ true → xs ≡ []
none_there [] h = refl
none_there (x ∷ xs) h = let e : suc (length xs) ≡ 0 = eqb-true _ _ h in absurd (omega (arith, e))

body_same : (s : Classes) (p : PlanData) (r : PlanRecord) (kind : Kind) → may_have_points kind (length r.points) ≡ true → may_have_ends kind (length r.ends) ≡ true
    → body_zones s p kind r ≡ records.zones_of_body kind r.points (map (written_end s p) r.ends)
unfolding records.zones_of_body
body_same s p r Pno points ends =
    sym (append-nil (map point_zone r.points)) ∙ ap (λ es. map point_zone r.points ++ flat_map records.zones_of_end (map (written_end s p) es)) (sym (none_there r.ends ends))
body_same s p r Par points ends =
    ap (λ zs. zone_text (codes "PTC") 83 78 (decimal (length r.points)) ∷ zs)
    (sym (append-nil (map point_zone r.points)) ∙ ap (λ es. map point_zone r.points ++ flat_map records.zones_of_end (map (written_end s p) es)) (sym (none_there r.ends ends)))
body_same s p r Pfe points ends = ap₂ (λ ps es. map point_zone ps ++ flat_map records.zones_of_end (map (written_end s p) es)) (sym (none_there r.points points)) (sym (none_there r.ends ends))
body_same s p r Fea points ends = ap₂ (λ ps es. map point_zone ps ++ flat_map records.zones_of_end (map (written_end s p) es)) (sym (none_there r.points points)) (sym (none_there r.ends ends))
body_same s p r Lnk points ends =
    ap₂ (λ n zs. zone_text (codes "FTC") 83 78 (decimal n) ∷ zs) (sym (length-map r.ends (written_end s p)))
    (ends_same s p r.ends ∙ ap (λ ps. map point_zone ps ++ flat_map records.zones_of_end (map (written_end s p) r.ends)) (sym (none_there r.points points)))

record_same : (s : Classes) → IsSchema s → (p : PlanData) (number : ℕ) (r : PlanRecord) → RecordAgrees s r → IsShaped r
    → record_zones s p number r ≡ records.zones_of_record (letters s) (written_record s p number r)
unfolding records.zones_of_record
record_same s keeps p number r agrees shaped =
    ap (λ zs. zone_text (codes "RTY") 83 65 (kind_code r.kind) ∷ zone_text (codes "RID") 83 65 (identifier r.kind number) ∷ zone_text (codes "SCP") 67 80 (class_text (class_name_of s r.class)) ∷ zs)
    (ap₂ ◌++◌ (body_same s p r r.kind shaped.0 shaped.1) (ap₂ (λ n zs. zone_text (codes "ATC") 83 78 (decimal n) ∷ (zs ++ map extra_zone r.extras)) (sym (length-map r.attributes (written_attribute s))) (attributes_same s keeps r.attributes agrees.attributes)))

zones_same : (s : Classes) → IsSchema s → (p : PlanData) (place : ℕ) (rs : List PlanRecord) → AllByRecursion (RecordAgrees s) rs → AllByRecursion IsShaped rs
    → zones_from s p place rs ≡ flat_map (records.zones_of_record (letters s)) (written_from s p place rs)
zones_same s keeps p place [] agree shaped = refl
zones_same s keeps p place (r ∷ rs) agree shaped = ap₂ ◌++◌ (record_same s keeps p (number_in s p place) r agree.0 shaped.0) (zones_same s keeps p (place + 1) rs agree.1 shaped.1)

pub all_shaped : (p : PlanData) → IsWholePlan p → AllByRecursion IsShaped p.list
all_shaped p whole = each_from_places IsShaped p.list blank (λ k h. (whole.points k h, whole.ends k h))

pub written_layout : (s : Classes) (p : PlanData) → IsSchema s → IsWholePlan p → Agrees s p → layout s p ≡ records.records_layout (letters s) p.cse (written_records s p)
unfolding layout
written_layout s p keeps whole agrees =
    ap (λ zs. printed (begin_zone ∷ (map cse_zone (option_to_list p.cse) ++ (zs ++ end_zone ∷ [])))) (zones_same s keeps p 0 p.list agrees (all_shaped p whole))

-- ---- the plan of what is read again

states_attribute : (s : Classes) → IsSchema s → (a : PlanAttribute) → AttributeAgrees s a → StatesPlanAttribute s (settled (letters s) (written_attribute s a)) a
states_attribute s keeps a agrees =
    let may = (letters s).is_number (class_name_of s a.atp) in
    let one = attribute_again s keeps a agrees in
    let text = value_text (value_of may (value_text a.value)) in
    record { class = place_there s keeps a.atp agrees.known; set = refl; value = value_stated s (class_name_of s a.atp) may text a.value refl (subst (IsValueOf (may ≡ true) text) (ap (λ v. value_of may (value_text v)) one ∙ one) (value_said may text)) }

states_attributes : (s : Classes) → IsSchema s → (xs : List PlanAttribute) → AllByRecursion (AttributeAgrees s) xs → AllZip (StatesPlanAttribute s) (map (settled (letters s)) (map (written_attribute s) xs)) xs
states_attributes s keeps [] agree = tt
states_attributes s keeps (a ∷ xs) agree = (states_attribute s keeps a agree.0, states_attributes s keeps xs agree.1)

-- what is read of what is written
abbrev pub read_from : Classes → PlanData → ℕ → List PlanRecord → List Record
read_from s p place rs = map (settled_record (letters s)) (written_from s p place rs)

abbrev pub read_records : Classes → PlanData → List Record
read_records s p = read_from s p 0 p.list

abbrev pub read_record : Classes → PlanData → ℕ → Record
read_record s p k = settled_record (letters s) (written_record s p (number_in s p k) (record_at p k))

-- ---- each end finds what it names

first_passing : {X : Type 0} (test : X → Bool) (xs : List X) (k : ℕ) (x : X) → slice_get xs k ≡ Some x → test x ≡ true → ((i : ℕ) (y : X) → i < k → slice_get xs i ≡ Some y → test y ≡ false)
    → position_or_len test xs ≡ k
first_passing test [] k x h is before = absurd (none-some x h)
first_passing test (y ∷ ys) zero x h is before = let here : test y ≡ true = subst (λ z. test z ≡ true) (sym (same_Some y x h)) is in rw here refl
first_passing test (y ∷ ys) (suc k) x h is before =
    let other : test y ≡ false = before 0 y (omega arith) refl in
    let more = first_passing test ys k x h is (λ i z less e. before (suc i) z (omega (arith, less)) e) in
    rw other (omega (arith, more))

written_long : (s : Classes) (p : PlanData) (place : ℕ) (rs : List PlanRecord) → length (written_from s p place rs) ≡ length rs
written_long s p place [] = refl
written_long s p place (r ∷ rs) = ap suc (written_long s p (place + 1) rs)

pub written_count : (s : Classes) (p : PlanData) → length (written_records s p) ≡ length p.list
written_count s p = written_long s p 0 p.list

written_at_from : (s : Classes) (p : PlanData) (place : ℕ) (rs : List PlanRecord) (j : ℕ) → j < length rs → slice_get (written_from s p place rs) j ≡ Some (written_record s p (number_in s p (place + j)) (get_or rs j blank))
written_at_from s p place [] j h = absurd (omega (arith, h))
written_at_from s p place (r ∷ rs) zero h = ap (λ k. Some (written_record s p (number_in s p k) r)) (let z : place ≡ place + 0 = omega arith in z)
written_at_from s p place (r ∷ rs) (suc j) h =
    written_at_from s p (place + 1) rs j (omega (arith, h)) ∙ ap (λ k. Some (written_record s p (number_in s p k) (get_or rs j blank))) (let z : (place + 1) + j ≡ place + suc j = omega arith in z)

pub written_at : (s : Classes) (p : PlanData) (k : ℕ) → IsPlace p k → slice_get (written_records s p) k ≡ Some (written_record s p (number_in s p k) (record_at p k))
written_at s p k h = written_at_from s p 0 p.list k h ∙ ap (λ j. Some (written_record s p (number_in s p j) (record_at p k))) (let z : 0 + k ≡ k = omega arith in z)

-- at each place of the plan a list has a record with the name that is written there
record HasNames (s : Classes) (p : PlanData) (list : List Record) : Type 0 where
  pub long : length list ≡ length p.list
  pub at : (k : ℕ) → IsPlace p k → (r : Record) × (slice_get list k ≡ Some r) × (own_name r ≡ name_in s p k)

named_place : (s : Classes) (p : PlanData) → IsWholePlan p → (list : List Record) → HasNames s p list → (k : ℕ) → IsPlace p k → place_named list (name_in s p k) ≡ Some k
named_place s p whole list names k h =
    let here = names.at k h in
    let long = names.long in
    position_is test list k (first_passing test list k here.0 here.1 (ap (is_name (name_in s p k)) here.2 ∙ name_itself (name_in s p k)) before) (omega (arith, h, long))
  where
    test : Record → Bool
    test r = is_name (name_in s p k) (own_name r)

    before : (i : ℕ) (y : Record) → i < k → slice_get list i ≡ Some y → is_name (name_in s p k) (own_name y) ≡ false
    before i y less e =
        let there : IsPlace p i = omega (arith, less, h) in
        let at = names.at i there in
        let same : y ≡ at.0 = same_Some y at.0 (sym e ∙ at.1) in
        ap (is_name (name_in s p k)) (ap own_name same ∙ at.2) ∙ names_apart s p whole i k there h less

pub written_named : (s : Classes) (p : PlanData) → IsWholePlan p → (k : ℕ) → IsPlace p k → place_named (written_records s p) (name_in s p k) ≡ Some k
written_named s p whole = named_place s p whole (written_records s p) (record { long = written_count s p; at = λ k h. (written_record s p (number_in s p k) (record_at p k), written_at s p k h, refl) })

pub read_at : (s : Classes) (p : PlanData) (k : ℕ) → IsPlace p k → slice_get (read_records s p) k ≡ Some (read_record s p k)
read_at s p k h = slice_get-map (settled_record (letters s)) (written_records s p) k ∙ ap (option_map (settled_record (letters s))) (written_at s p k h)

pub read_count : (s : Classes) (p : PlanData) → length (read_records s p) ≡ length p.list
read_count s p = length-map (written_records s p) (settled_record (letters s)) ∙ written_count s p

pub read_back : (s : Classes) (p : PlanData) (k : ℕ) (r : Record) → slice_get (read_records s p) k ≡ Some r → IsPlace p k × (r ≡ read_record s p k)
read_back s p k r e =
    let within = slice_get_within (read_records s p) k r e in
    let long = read_count s p in
    let there : IsPlace p k = omega (arith, within, long) in
    (there, same_Some r (read_record s p k) (sym e ∙ read_at s p k there))

pub read_named : (s : Classes) (p : PlanData) → IsWholePlan p → (k : ℕ) → IsPlace p k → place_named (read_records s p) (name_in s p k) ≡ Some k
read_named s p whole = named_place s p whole (read_records s p) (record { long = read_count s p; at = λ k h. (read_record s p k, read_at s p k h, refl) })

-- ---- the records that are read

states_ends : (s : Classes) (p : PlanData) (list : List Record) → ((k : ℕ) → IsPlace p k → place_named list (name_in s p k) ≡ Some k) → (es : List PlanEnd) → AllByRecursion (λ e. IsPlace p e.target) es
    → AllZip (StatesPlanEnd list) (map settled_end (map (written_end s p) es)) es
states_ends s p list named [] there = tt
states_ends s p list named (e ∷ es) there = (record { target = named e.target there.0; sns = refl }, states_ends s p list named es there.1)

abbrev EndsThere : PlanData → PlanRecord → Type 0
EndsThere p r = AllByRecursion (λ e. IsPlace p e.target) r.ends

states_record : (s : Classes) → IsSchema s → (p : PlanData) (list : List Record) → ((k : ℕ) → IsPlace p k → place_named list (name_in s p k) ≡ Some k) → (number : ℕ) (r : PlanRecord) → RecordAgrees s r → EndsThere p r
    → StatesPlanRecord s list (settled_record (letters s) (written_record s p number r)) r
states_record s keeps p list named number r agrees there = record {
  kind = refl;
  class = place_there s keeps r.class agrees.known;
  role = role_there s (class_name_of s r.class) r.class (place_there s keeps r.class agrees.known) ∙ ap Some (sym agrees.role);
  points = refl;
  attributes = states_attributes s keeps r.attributes agrees.attributes;
  extras = refl;
  ends = states_ends s p list named r.ends there;
}

states_each : (s : Classes) → IsSchema s → (p : PlanData) (list : List Record) → ((k : ℕ) → IsPlace p k → place_named list (name_in s p k) ≡ Some k) → (place : ℕ) (rs : List PlanRecord) → AllByRecursion (RecordAgrees s) rs → AllByRecursion (EndsThere p) rs
    → AllZip (StatesPlanRecord s list) (read_from s p place rs) rs
states_each s keeps p list named place [] agree there = tt
states_each s keeps p list named place (r ∷ rs) agree there = (states_record s keeps p list named (number_in s p place) r agree.0 there.0, states_each s keeps p list named (place + 1) rs agree.1 there.1)

pub written_plan : (s : Classes) (p : PlanData) (sheet : SheetData) → IsSchema s → IsWholePlan p → Agrees s p
    → sheet.cse ≡ p.cse → sheet.list ≡ map (settled_record (letters s)) (written_records s p) → IsPlanOf s sheet p
written_plan s p sheet keeps whole agrees set list = record {
  set = sym set;
  each = subst (λ rs. AllZip (StatesPlanRecord s rs) rs p.list) (sym list)
      (states_each s keeps p (read_records s p) (read_named s p whole) 0 p.list agrees (each_from_places (EndsThere p) p.list blank whole.there));
}
