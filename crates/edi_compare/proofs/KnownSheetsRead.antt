-- What a known file states, by computing.
use Rattle.std.proofs.Common.{◌≡◌, sym, subst, ap, refl, ℕ, Bool, true, List, [], ◌∷◌, ◌++◌, length, map, Option, Some, None, option_map, is_none, codes, cond, arith}
use Rattle.std.specs.List.{AllZip, list_all}
use Rattle.std.proofs.lemmas.Bool.{and_parts}
use Rattle.edi_line.specs.ZoneData.{ZoneData}
use Rattle.edi_line.specs.Feeding.{seen_in}
use Rattle.edi_line.specs.Refusal.{IsUnbroken}
use Rattle.edi_line.specs.inner.Refusal.{first_broken}
use Rattle.edi_line.specs.Zones.{groups_of, charset_of}
use Rattle.edi_line.specs.inner.Zones.{readings_of}
use Rattle.edi_line.proofs.ZonesFound.{zones_of}
use Rattle.edi_line.proofs.FirstBroken.{none_broken}
use Rattle.edi_line.proofs.KnownFiles.{first_fault, unbroken_as, zones_as}
use Rattle.edi_record.specs.Records.{States, values, has_points, is_link, SheetData}
use Rattle.edi_record.specs.RecordRules.{BreaksRecordRule}
use Rattle.edi_record.specs.Shapes.{kind_code}
use Rattle.edi_record.specs.declared.name.Name.{Name}
use Rattle.edi_record.specs.declared.record.Attribute.{Attribute}
use Rattle.edi_record.specs.LinkEnds.{EndData}
use Rattle.edi_record.specs.declared.record.Extra.{Extra}
use Rattle.edi_record.specs.declared.record.Kind.{Kind}
use Rattle.edi_record.specs.declared.record.Point.{Point}
use Rattle.edi_record.specs.declared.record.Record.{Record}
use Rattle.edi_record.specs.inner.RecordRules.{record_tests, FailsTest}
use Rattle.edi_record.specs.inner.Records.{ReadsAsRecord, attributes, ends, extras}
use Rattle.edi_record.specs.inner.Texts.{class_of, point_in}
use Rattle.edi_record.proofs.RulesSaid.{records_unbroken}
use Rattle.edi_record.proofs.StatesSaid.{states_said}
use Rattle.edi_schema.specs.Classes.{Classes, place_of, role_named}
use Rattle.edi_schema.specs.declared.role.Role.{Role}
use Rattle.edi_plan.specs.Plans.{PlanData, rest_of}
use Rattle.edi_plan.specs.PlanOf.{place_named, StatesPlanAttribute, StatesPlanEnd, StatesPlanRecord}
use Rattle.edi_plan.specs.declared.record.PlanEnd.{PlanEnd}
use Rattle.edi_plan.specs.declared.record.PlanRecord.{PlanRecord}
use Rattle.edi_plan.proofs.RuleLemmas.{none_is}
use Rattle.edi_compare.specs.PlanOfFile.{IsSheetOf, IsPlanOfFile}
use Rattle.edi_compare.specs.Rules.{RecordsHold}
use Rattle.edi_compare.proofs.Phases.{records_held}

-- ---- lists that are equal

abbrev first_or : {X : Type 0} → X → List X → X
first_or d [] = d
first_or d (x ∷ xs) = x

heads : {X : Type 0} {x y : X} {xs ys : List X} → x ∷ xs ≡ y ∷ ys → x ≡ y
heads {X} {x} e = ap (first_or x) e

rests : {X : Type 0} {x y : X} {xs ys : List X} → x ∷ xs ≡ y ∷ ys → xs ≡ ys
rests e = ap rest_of e

zip_of_maps : {A B C : Type 0} (R : A → B → Type 0) (f : A → C) (g : B → C) → ((a : A) (b : B) → f a ≡ g b → R a b) → (xs : List A) (ys : List B) → map f xs ≡ map g ys → AllZip R xs ys
zip_of_maps R f g by [] [] e = tt
zip_of_maps R f g by [] (y ∷ ys) e = absurd cc
zip_of_maps R f g by (x ∷ xs) [] e = absurd cc
zip_of_maps R f g by (x ∷ xs) (y ∷ ys) e = (by x y (heads e), zip_of_maps R f g by xs ys (rests e))

-- ---- the records that groups of zones state

pub record Parts : Type 0 where
  pub type : List (List ℕ)
  pub rid : List (List ℕ)
  pub scp : List (Option Name)
  pub points : List (Option Point)
  pub ends : List (Option EndData)
  pub attributes : List (Option Attribute)
  pub extras : List Extra

-- what reading finds in a group, and what it is to find for a record
abbrev pub found : Kind → List ZoneData → Parts
found kind group = record {
  type = values (codes "RTY") group;
  rid = values (codes "RID") group;
  scp = map class_of (values (codes "SCP") group);
  points = cond (has_points kind) (map point_in (values (codes "COR") group)) [];
  ends = cond (is_link kind) (Rattle.edi_record.specs.inner.Records.ends group) [];
  attributes = Rattle.edi_record.specs.inner.Records.attributes group;
  extras = Rattle.edi_record.specs.inner.Records.extras kind group;
}

abbrev pub wanted : Record → Parts
wanted r = record {
  type = kind_code r.kind ∷ [];
  rid = r.rid ∷ [];
  scp = Some r.scp ∷ [];
  points = map Some r.points;
  ends = map Some r.ends;
  attributes = map Some r.attributes;
  extras = r.extras;
}

read_as : (group : List ZoneData) (r : Record) → found r.kind group ≡ wanted r → ReadsAsRecord group r
read_as group r e = record {
  type = ap (λ (p : Parts). p.type) e;
  rid = ap (λ (p : Parts). p.rid) e;
  scp = ap (λ (p : Parts). p.scp) e;
  points = ap (λ (p : Parts). p.points) e;
  ends = ap (λ (p : Parts). p.ends) e;
  attributes = ap (λ (p : Parts). p.attributes) e;
  extras = ap (λ (p : Parts). p.extras) e;
}

abbrev pub all_found : List Record → List (List ZoneData) → List Parts
all_found [] groups = []
all_found (r ∷ rs) [] = []
all_found (r ∷ rs) (g ∷ gs) = found r.kind g ∷ all_found rs gs

all_stated : (list : List Record) (groups : List (List ZoneData)) → length groups ≡ length list → all_found list groups ≡ map wanted list → AllZip States groups list
all_stated [] [] n e = tt
all_stated [] (g ∷ gs) n e = absurd (omega (arith, n))
all_stated (r ∷ rs) [] n e = absurd (omega (arith, n))
all_stated (r ∷ rs) (g ∷ gs) n e = (states_said g r (read_as g r (heads e)), all_stated rs gs (omega (arith, n)) (rests e))

-- the number of records, and what is found of them
abbrev pub is_read : List ℕ → List Record → ℕ × List Parts
is_read bytes list = (length (groups_of (zones_of bytes)), all_found list (groups_of (zones_of bytes)))

abbrev pub to_read : List Record → ℕ × List Parts
to_read list = (length list, map wanted list)

pub sheet_as : (bytes : List ℕ) (sheet : SheetData) → first_fault (seen_in []) 1 (readings_of bytes) ≡ None
    → sheet.cse ≡ option_map (λ (e : ZoneData). e.value) (charset_of (zones_of bytes)) → is_read bytes sheet.list ≡ to_read sheet.list → IsSheetOf bytes sheet
sheet_as bytes sheet lines set e = (
  zones_of bytes,
  zones_as bytes (zones_of bytes) lines refl,
  record { cse = set; records = all_stated sheet.list (groups_of (zones_of bytes)) (ap (λ (pair : ℕ × List Parts). pair.0) e) (ap (λ (pair : ℕ × List Parts). pair.1) e) },
)

-- ---- the rules of records

abbrev pub keeps_rules : List ZoneData → Bool
keeps_rules group = is_none (first_broken (record_tests group))

all_at : {X : Type 0} (test : X → Bool) (before : List X) (x : X) (after : List X) → list_all test (before ++ x ∷ after) ≡ true → test x ≡ true
all_at test [] x after e = (and_parts _ _ e).0
all_at test (b ∷ before) x after e = all_at test before x after (and_parts _ _ e).1

groups_unbroken : (zones : List ZoneData) → list_all keeps_rules (groups_of zones) ≡ true → IsUnbroken (BreaksRecordRule zones)
groups_unbroken zones e = records_unbroken zones fails
  where
    fails : (rule place : ℕ) → FailsTest zones rule place → ⊥
    fails rule place h = none_broken (record_tests h.group) (none_is _ (all_at keeps_rules h.before h.group h.after (subst (λ gs. list_all keeps_rules gs ≡ true) h.cut e))) rule h.breaks

pub records_as : (s : Classes) (bytes : List ℕ) → first_fault (seen_in []) 1 (readings_of bytes) ≡ None → list_all keeps_rules (groups_of (zones_of bytes)) ≡ true → RecordsHold s bytes
records_as s bytes lines e =
    records_held s bytes (unbroken_as bytes lines) (zones_of bytes) (zones_as bytes (zones_of bytes) lines refl) (groups_unbroken (zones_of bytes) e)

-- ---- the plan of records without attributes

pub record PlanParts : Type 0 where
  pub kind : Kind
  pub class : Option ℕ
  pub role : Option Role
  pub points : List Point
  pub attributes : ℕ × ℕ
  pub extras : List Extra
  pub ends : List (Option ℕ × Option (List ℕ))

-- what a record is under a schema, and what it is to be in a plan
abbrev pub resolved : Classes → List Record → Record → PlanParts
resolved s list r = record {
  kind = r.kind;
  class = place_of s r.scp;
  role = role_named s r.scp;
  points = r.points;
  attributes = (length r.attributes, 0);
  extras = r.extras;
  ends = map (λ (e : EndData). (place_named list e.target, e.sns)) r.ends;
}

abbrev pub planned : PlanRecord → PlanParts
planned p = record {
  kind = p.kind;
  class = Some p.class;
  role = Some p.role;
  points = p.points;
  attributes = (0, length p.attributes);
  extras = p.extras;
  ends = map (λ (e : PlanEnd). (Some e.target, e.sns)) p.ends;
}

none_zipped : {A B : Type 0} (R : A → B → Type 0) (xs : List A) (ys : List B) → length xs ≡ 0 → 0 ≡ length ys → AllZip R xs ys
none_zipped R [] [] n m = tt
none_zipped R [] (y ∷ ys) n m = absurd (omega (arith, m))
none_zipped R (x ∷ xs) ys n m = absurd (omega (arith, n))

record_planned : (s : Classes) (list : List Record) (r : Record) (p : PlanRecord) → resolved s list r ≡ planned p → StatesPlanRecord s list r p
record_planned s list r p e = record {
  kind = sym (ap (λ (x : PlanParts). x.kind) e);
  class = ap (λ (x : PlanParts). x.class) e;
  role = ap (λ (x : PlanParts). x.role) e;
  points = sym (ap (λ (x : PlanParts). x.points) e);
  attributes = none_zipped (StatesPlanAttribute s) r.attributes p.attributes (ap (λ (x : PlanParts). x.attributes.0) e) (ap (λ (x : PlanParts). x.attributes.1) e);
  extras = sym (ap (λ (x : PlanParts). x.extras) e);
  ends = zip_of_maps (StatesPlanEnd list) (λ (d : EndData). (place_named list d.target, d.sns)) (λ (d : PlanEnd). (Some d.target, d.sns)) end_planned r.ends p.ends (ap (λ (x : PlanParts). x.ends) e);
}
  where
    end_planned : (d : EndData) (t : PlanEnd) → ◌≡◌ {A = Option ℕ × Option (List ℕ)} (place_named list d.target, d.sns) (Some t.target, t.sns) → StatesPlanEnd list d t
    end_planned d t same = record { target = ap (λ (x : Option ℕ × Option (List ℕ)). x.0) same; sns = sym (ap (λ (x : Option ℕ × Option (List ℕ)). x.1) same) }

pub plan_as : (s : Classes) (bytes : List ℕ) (sheet : SheetData) (p : PlanData) → IsSheetOf bytes sheet → p.cse ≡ sheet.cse → map (resolved s sheet.list) sheet.list ≡ map planned p.list → IsPlanOfFile s bytes p
plan_as s bytes sheet p states set e = (sheet, states, record { set = set; each = zip_of_maps (StatesPlanRecord s sheet.list) (resolved s sheet.list) planned (record_planned s sheet.list) sheet.list p.list e })
