-- Zones that break no rule of records state a sheet.
use Rattle.std.proofs.Common.{◌≡◌, ℕ, Bool, true, false, cond, ◌&&◌, inl, inr, List, [], ◌∷◌, map, Option, Some, None, option_map, is_none, is_some, codes, refl, sym, ap, ◌∙◌}
use Rattle.std.specs.List.{AllByRecursion, AllZip, list_any}
use Rattle.std.proofs.lemmas.Bool.{or_parts, false_from_ne_true, not-false}
use Rattle.std.proofs.lemmas.Option.{same_Some}
use Rattle.edi_line.specs.Refusal.{IsUnbroken}
use Rattle.edi_line.specs.ZoneData.{ZoneData, first, has_code}
use Rattle.edi_line.specs.Zones.{begins_group, before_end, groups_of, charset_of}
use Rattle.edi_line.proofs.Truths.{some_is}
use Rattle.edi_record.specs.LinkEnds.{EndData}
use Rattle.edi_record.specs.RecordRules.{BreaksRecordRule, IsOfKind, just_one, is_identifier}
use Rattle.edi_record.specs.Records.{values, has_points, is_link, SheetData, StatesSheet}
use Rattle.edi_record.specs.Shapes.{kind_code}
use Rattle.edi_record.specs.Texts.{PointerText}
use Rattle.edi_record.specs.declared.name.Name.{Name}
use Rattle.edi_record.specs.declared.record.Attribute.{Attribute}
use Rattle.edi_record.specs.declared.record.Kind.{Kind}
use Rattle.edi_record.specs.declared.record.Point.{Point}
use Rattle.edi_record.specs.declared.record.Record.{Record}
use Rattle.edi_record.specs.inner.RecordRules.{kind_in, in_kind, some_no_pointer, has_no_kind, has_no_class, has_bad_attribute}
use Rattle.edi_record.specs.inner.Records.{attributes, ends, extras, ReadsAsRecord}
use Rattle.edi_record.specs.inner.Texts.{pointer, class_of, point_in}
use Rattle.edi_record.proofs.Parts.{attributes_lack, ends_lack}
use Rattle.edi_record.proofs.ReadRecords.{IsKept, all_kept, identifier_kept, point_kept, end_kept}
use Rattle.edi_record.proofs.RulesSaid.{kind_said, records_pass}
use Rattle.edi_record.proofs.StatesSaid.{all_said}

-- ---- a record begins with the one zone of its type

abbrev HasOneType : List ZoneData → Type 0
HasOneType group = (text : List ℕ) × (values (codes "RTY") group ≡ text ∷ [])

none_before : (zones : List ZoneData) → values (codes "RTY") (before_end zones) ≡ []
none_before [] = refl
none_before (z ∷ zs) = go (has_code (codes "RTY") z) refl (has_code (codes "EOM") z) refl (none_before zs)
  where
    go : (a : Bool) → has_code (codes "RTY") z ≡ a → (b : Bool) → has_code (codes "EOM") z ≡ b → values (codes "RTY") (before_end zs) ≡ [] → values (codes "RTY") (before_end (z ∷ zs)) ≡ []
    go true e b f more = rw e refl
    go false e true f more = rw (e, f) refl
    go false e false f more = rw (e, f) (rw e more)

one_type : (z : ZoneData) (zs : List ZoneData) → begins_group z ≡ true → values (codes "RTY") (z ∷ before_end zs) ≡ z.value ∷ []
one_type z zs e = rw e (ap (λ vs. z.value ∷ vs) (none_before zs))

types_once : (zones : List ZoneData) → AllByRecursion HasOneType (groups_of zones)
types_once [] = tt
types_once (z ∷ zs) = go (begins_group z) refl (types_once zs)
  where
    go : (b : Bool) → begins_group z ≡ b → AllByRecursion HasOneType (groups_of zs) → AllByRecursion HasOneType (cond b ((z ∷ before_end zs) ∷ groups_of zs) (groups_of zs))
    go true e more = ((z.value, one_type z zs e), more)
    go false e more = more

-- ---- what is there where a test finds nothing wrong

there : {X : Type 0} (o : Option X) → is_none o ≡ false → (x : X) × (o ≡ Some x)
there (Some x) e = (x, refl)
there None e = absurd cc

all_there : {X : Type 0} (os : List (Option X)) → list_any is_none os ≡ false → (xs : List X) × (os ≡ map Some xs)
all_there [] e = ([], refl)
all_there (o ∷ os) e =
    let split = or_parts (is_none o) (list_any is_none os) e in
    let x = there o split.0 in
    let more = all_there os split.1 in
    (x.0 ∷ more.0, ap (λ t. t ∷ os) x.1 ∙ ap (λ ts. Some x.0 ∷ ts) more.1)

all_found : {X Y : Type 0} (f : X → Option Y) (xs : List X) → list_any (λ x. is_none (f x)) xs ≡ false → (ys : List Y) × (map f xs ≡ map Some ys)
all_found f [] e = ([], refl)
all_found f (x ∷ xs) e =
    let split = or_parts (is_none (f x)) (list_any (λ y. is_none (f y)) xs) e in
    let y = there (f x) split.0 in
    let more = all_found f xs split.1 in
    (y.0 ∷ more.0, ap (λ t. t ∷ map f xs) y.1 ∙ ap (λ ts. Some y.0 ∷ ts) more.1)

the_one : (test : List ℕ → Bool) (texts : List (List ℕ)) → just_one test texts ≡ true → (text : List ℕ) × (texts ≡ text ∷ []) × (test text ≡ true)
the_one test [] e = absurd cc
the_one test (text ∷ []) e = (text, refl, e)
the_one test (text ∷ other ∷ texts) e = absurd cc

-- ---- the record of a group

kind_there : (g : List ZoneData) → IsKept g → (kind : Kind) × (kind_in g ≡ Some kind)
kind_there g kept = there (kind_in g) (false_from_ne_true (has_no_kind g) (λ e. kept 201 (inl (refl, e))))

module _ (g : List ZoneData) (once : HasOneType g) (kept : IsKept g) (kind : Kind) (is : kind_in g ≡ Some kind) where
  type : values (codes "RTY") g ≡ kind_code kind ∷ []
  type =
      let named : IsOfKind g kind = kind_said g kind is in
      let same : once.0 ≡ kind_code kind = same_Some once.0 (kind_code kind) (sym (ap first once.1) ∙ named) in
      once.1 ∙ ap (λ t. t ∷ []) same

  rid_there : (text : List ℕ) × (values (codes "RID") g ≡ text ∷ []) × (is_identifier text ≡ true)
  rid_there = the_one is_identifier (values (codes "RID") g) (not-false _ (identifier_kept g kept))

  class_there : (name : Name) × (map class_of (values (codes "SCP") g) ≡ Some name ∷ [])
  class_there =
      let none : has_no_class g ≡ false = false_from_ne_true (has_no_class g) (λ e. kept 203 (inr (inr (inl (refl, e))))) in
      let one = the_one (λ text. is_some (pointer text)) (values (codes "SCP") g) (not-false _ none) in
      let named = class_named one.0 (some_is (pointer one.0) one.2) in
      (named.0, ap (map class_of) one.1 ∙ ap (λ o. o ∷ []) named.1)
    where
      class_named : (text : List ℕ) → (p : PointerText) × (pointer text ≡ Some p) → (name : Name) × (class_of text ≡ Some name)
      class_named text p = (record { rty = p.0.rty; rid = p.0.rid }, ap (option_map (λ (q : PointerText). (let n : Name = record { rty = q.rty; rid = q.rid } in n))) p.1)

  attributes_there : (as' : List Attribute) × (attributes g ≡ map Some as')
  attributes_there =
      let none : has_bad_attribute g ≡ false = false_from_ne_true (has_bad_attribute g) (λ e. kept 204 (inr (inr (inr (inl (refl, e)))))) in
      all_there (attributes g) (attributes_lack g ∙ (or_parts (some_no_pointer (values (codes "ATP") g)) _ none).0)

  points_there : (ps : List Point) × (cond (has_points kind) (map point_in (values (codes "COR") g)) [] ≡ map Some ps)
  points_there = go (has_points kind) refl
    where
      bad : (in_kind has_points g && list_any (λ text. is_none (point_in text)) (values (codes "COR") g)) ≡ false
      bad = (or_parts (in_kind has_points g && list_any (λ text. is_none (point_in text)) (values (codes "COR") g)) _ (point_kept g kept)).0

      go : (b : Bool) → has_points kind ≡ b → (ps : List Point) × (cond b (map point_in (values (codes "COR") g)) [] ≡ map Some ps)
      go true e = all_found point_in (values (codes "COR") g) (rw (is, e) at bad)
      go false e = ([], refl)

  ends_there : (es : List EndData) × (cond (is_link kind) (ends g) [] ≡ map Some es)
  ends_there = go (is_link kind) refl
    where
      go : (b : Bool) → is_link kind ≡ b → (es : List EndData) × (cond b (ends g) [] ≡ map Some es)
      go true e =
          let bad = rw (is, e) at (end_kept g kept) in
          all_there (ends g) (ends_lack g ∙ (or_parts (some_no_pointer (values (codes "FTP") g)) _ bad).0)
      go false e = ([], refl)

  abbrev read : Record
  read = record {
    kind = kind;
    rid = rid_there.0;
    scp = class_there.0;
    points = points_there.0;
    ends = ends_there.0;
    attributes = attributes_there.0;
    extras = extras kind g;
  }

  reads : ReadsAsRecord g read
  reads = record {
    type = type;
    rid = rid_there.1;
    scp = class_there.1;
    points = points_there.1;
    ends = ends_there.1;
    attributes = attributes_there.1;
    extras = refl;
  }

  record_of : (r : Record) × ReadsAsRecord g r
  record_of = (read, reads)

record_there : (g : List ZoneData) → HasOneType g → IsKept g → (r : Record) × ReadsAsRecord g r
record_there g once kept = let kind = kind_there g kept in record_of g once kept kind.0 kind.1

-- ---- the records of a file

records_there : (groups : List (List ZoneData)) → AllByRecursion HasOneType groups → AllByRecursion IsKept groups → (rs : List Record) × AllZip ReadsAsRecord groups rs
records_there [] once kept = ([], tt)
records_there (g ∷ gs) once kept =
    let r = record_there g once.0 kept.0 in
    let more = records_there gs once.1 kept.1 in
    (r.0 ∷ more.0, (r.1, more.1))

pub sheet_there : (zones : List ZoneData) → IsUnbroken (BreaksRecordRule zones) → (sheet : SheetData) × StatesSheet zones sheet
sheet_there zones unbroken =
    let found = records_there (groups_of zones) (types_once zones) (all_kept zones (records_pass zones unbroken)) in
    (record { cse = option_map (λ (z : ZoneData). z.value) (charset_of zones); list = found.0 }, record { cse = refl; records = all_said (groups_of zones) found.0 found.1 })
