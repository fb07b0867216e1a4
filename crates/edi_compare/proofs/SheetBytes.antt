-- What a sheet of bytes states are bytes, and records of bytes are laid out as bytes.
use Rattle.std.proofs.Common.{◌≡◌, ℕ, ◌^◌, ◌<◌, ◌≤◌, Bool, true, false, cond, eqb, ◌||◌, List, [], ◌∷◌, ◌++◌, length, map, filter, Option, Some, None, codes, refl, sym, subst, arith, ℤ}
use Rattle.std.specs.Prelude.{flat_map, decimal, option_to_list, option_map, unwrap_or, IfSome}
use Rattle.std.specs.List.{AllByRecursion, AllZip}
use Rattle.std.proofs.lemmas.Bool.{ne_eqb}
use Rattle.std.proofs.lemmas.Fmt.{decimal_is_IsNumeral}
use Rattle.edi_line.specs.Bytes.{IsBytes}
use Rattle.edi_line.specs.LineRules.{IsZonesOf}
use Rattle.edi_line.specs.Number.{IsNumberText, plain_text, signed_text, size_of, MOST}
use Rattle.edi_line.specs.Printing.{zone_text}
use Rattle.edi_line.specs.ZoneData.{ZoneData, has_code, first}
use Rattle.edi_line.specs.Zones.{begins_group, ends_group, before_end, groups_of, charset_of}
use Rattle.edi_line.specs.inner.Number.{number}
use Rattle.edi_line.proofs.NumberRead.{number_is, number_lacks, digits_lack}
use Rattle.edi_line.proofs.Numbers.{number_in_range}
use Rattle.edi_line.proofs.Spelled.{signed_text_read, plain_text_read}
use Rattle.edi_line.proofs.ZonesSaid.{zones_read}
use Rattle.edi_record.specs.CanonicalZones.{class_text, value_text, point_zone, set_zone, extra_zone, end_text, sns_zone, end_zone, cse_zone}
use Rattle.edi_record.specs.LinkEnds.{EndData}
use Rattle.edi_record.specs.RecordLayout.{Letters, zones_of_attribute, zones_of_end, count_zones, zones_of_body, zones_of_record, zones_of_sheet, IsPoint, IsLineRecord}
use Rattle.edi_record.specs.Records.{is_link, opens, closes, points_at, may_be_number, StatesSheet}
use Rattle.edi_record.specs.Shapes.{kind_code}
use Rattle.edi_record.specs.Texts.{PointerText, pointer_text, third_text, point_text}
use Rattle.edi_record.specs.declared.name.Name.{Name}
use Rattle.edi_record.specs.declared.record.Attribute.{Attribute}
use Rattle.edi_record.specs.declared.record.Extra.{Extra}
use Rattle.edi_record.specs.declared.record.Kind.{Kind}
use Rattle.edi_record.specs.declared.record.Kind.TheVariants.{Pno, Par, Pfe, Fea, Lnk}
use Rattle.edi_record.specs.declared.record.Point.{Point}
use Rattle.edi_record.specs.declared.record.Record.{Record}
use Rattle.edi_record.specs.declared.record.Value.TheVariants.{Number, Bytes}
use Rattle.edi_record.specs.Records.{SheetData}
use Rattle.edi_record.specs.inner.Records.{set_after, value_after, attribute, attributes, sns_after, end_with_sense, ends, Placed, is_open_after, zones_placed, is_extra, value_of, extra, ReadsAsRecord}
use Rattle.edi_record.specs.inner.Texts.{pointer, class_of}
use Rattle.edi_record.proofs.StatesSaid.{all_read}
use Rattle.edi_record.proofs.Stated.{record_is, joined, mapped_each, behind, behind_is}
use Rattle.edi_compare.proofs.PrintedBytes.{class_bytes, known_bytes}
use Rattle.edi_compare.proofs.ReadBytes.{is_bytes, are_bytes, bytes_joined, bytes_by_lack, HasByteValue, zone_values}

-- ---- texts

apart : (c x : ℕ) → 256 ≤ c → x < 256 → eqb x c ≡ false
apart c x big small = ne_eqb x c (λ e. omega (arith, big, small, e))

number_bytes : (t : List ℕ) (m : ℤ) → IsNumberText t m → IsBytes t
number_bytes t m h = bytes_by_lack t (λ c big. number_lacks c (λ x low high. apart c x big (omega (arith, high))) (apart c 46 big (omega arith)) (apart c 43 big (omega arith)) (apart c 45 big (omega arith)) t m h)

pub decimal_bytes : (n : ℕ) → n < 2 ^ 64 → IsBytes (decimal n)
decimal_bytes n few = bytes_by_lack (decimal n) (λ c big. digits_lack c (λ x low high. apart c x big (omega (arith, high))) (decimal n) (decimal_is_IsNumeral n few).0.1)

signed_bytes : (m : ℤ) → size_of m ≤ MOST → IsBytes (signed_text m)
signed_bytes m h = number_bytes (signed_text m) m (signed_text_read m h)

no_bytes : IsBytes []
no_bytes = is_bytes [] tt

pub whole_bytes : (xs ys : List ℕ) → IsBytes xs → IsBytes ys → IsBytes (xs ++ ys)
whole_bytes xs ys h k = is_bytes (xs ++ ys) (bytes_joined xs ys (are_bytes xs h) (are_bytes ys k))

parted : (xs ys : List ℕ) → IsBytes xs → IsBytes ys → IsBytes (xs ++ 59 ∷ ys)
parted xs ys h k = is_bytes (xs ++ 59 ∷ ys) (bytes_joined xs (59 ∷ ys) (are_bytes xs h) (omega arith, are_bytes ys k))

-- the value of a text, as it is written
pub own_bytes : (may : Bool) (text : List ℕ) → IsBytes text → IsBytes (value_text (value_of may text))
own_bytes false text h = h
own_bytes true text h = go (number text) refl
  where
    go : (o : Option ℤ) → number text ≡ o → IsBytes (value_text (unwrap_or (option_map Number o) (Bytes text)))
    go (Some m) e = number_bytes (plain_text m) m (plain_text_read m (number_in_range text m ((number_is text m).0 e)))
    go None e = h

-- ---- what records of zones of bytes have

-- the character set and the value of an attribute
abbrev pub HasBytesOfAttribute : Attribute → Type 0
HasBytesOfAttribute a = IfSome a.tex IsBytes × IsBytes a.atv

abbrev pub HasBytesOfEnd : EndData → Type 0
HasBytesOfEnd e = IfSome e.sns IsBytes

abbrev pub HasBytesOfExtra : Extra → Type 0
HasBytesOfExtra e = IsBytes (value_text e.value)

pub record HasReadBytes (r : Record) : Type 0 where
  pub attributes : AllByRecursion HasBytesOfAttribute r.attributes
  pub ends : AllByRecursion HasBytesOfEnd r.ends
  pub extras : AllByRecursion HasBytesOfExtra r.extras

abbrev pub AreOfBytes : List ZoneData → Type 0
AreOfBytes zones = AllByRecursion HasByteValue zones

set_bytes : (zs : List ZoneData) → AreOfBytes zs → IfSome (set_after zs) IsBytes
unfolding set_after
set_bytes [] h = tt
set_bytes (z ∷ zs) h = go (set_bytes zs h.1) (opens z || closes z) (has_code (codes "TEX") z)
  where
    go : IfSome (set_after zs) IsBytes → (a b : Bool) → IfSome (cond a None (cond b (Some z.value) (set_after zs))) IsBytes
    go more true b = tt
    go more false true = h.0
    go more false false = more

value_bytes : (zs : List ZoneData) → AreOfBytes zs → IsBytes (value_after zs)
unfolding value_after
value_bytes [] h = no_bytes
value_bytes (z ∷ zs) h = go (value_bytes zs h.1) (opens z) (closes z)
  where
    go : IsBytes (value_after zs) → (a b : Bool) → IsBytes (cond a [] (cond b z.value (value_after zs)))
    go more true b = no_bytes
    go more false true = h.0
    go more false false = more

attribute_bytes : (class : List ℕ) (tex : Option (List ℕ)) (atv : List ℕ) → IfSome tex IsBytes → IsBytes atv → IfSome (attribute class tex atv) HasBytesOfAttribute
attribute_bytes class tex atv t v = go (class_of class)
  where
    go : (o : Option Name) → IfSome (option_map (λ (name : Name). (let a : Attribute = record { atp = name; tex = tex; atv = atv } in a)) o) HasBytesOfAttribute
    go None = tt
    go (Some n) = (t, v)

attributes_bytes : (zs : List ZoneData) → AreOfBytes zs → AllByRecursion (λ o. IfSome o HasBytesOfAttribute) (attributes zs)
unfolding attributes
attributes_bytes [] h = tt
attributes_bytes (z ∷ zs) h = go (attributes_bytes zs h.1) (opens z)
  where
    go : AllByRecursion (λ o. IfSome o HasBytesOfAttribute) (attributes zs) → (b : Bool) → AllByRecursion (λ o. IfSome o HasBytesOfAttribute) (cond b (attribute z.value (set_after zs) (value_after zs) ∷ attributes zs) (attributes zs))
    go more true = (attribute_bytes z.value (set_after zs) (value_after zs) (set_bytes zs h.1) (value_bytes zs h.1), more)
    go more false = more

sense_bytes : (zs : List ZoneData) → AreOfBytes zs → IfSome (sns_after zs) IsBytes
unfolding sns_after
sense_bytes [] h = tt
sense_bytes (z ∷ zs) h = go (sense_bytes zs h.1) (points_at z) (has_code (codes "SNS") z)
  where
    go : IfSome (sns_after zs) IsBytes → (a b : Bool) → IfSome (cond a None (cond b (Some z.value) (sns_after zs))) IsBytes
    go more true b = tt
    go more false true = h.0
    go more false false = more

end_bytes : (text : List ℕ) (sns : Option (List ℕ)) → IfSome sns IsBytes → IfSome (end_with_sense text sns) HasBytesOfEnd
end_bytes text sns h = go (pointer text)
  where
    go : (o : Option PointerText) → IfSome (option_map (λ (p : PointerText). (let e : EndData = record { lot = p.lot; subset = p.subset; target = record { rty = p.rty; rid = p.rid }; sns = sns } in e)) o) HasBytesOfEnd
    go None = tt
    go (Some p) = h

ends_bytes : (zs : List ZoneData) → AreOfBytes zs → AllByRecursion (λ o. IfSome o HasBytesOfEnd) (ends zs)
unfolding ends
ends_bytes [] h = tt
ends_bytes (z ∷ zs) h = go (ends_bytes zs h.1) (points_at z)
  where
    go : AllByRecursion (λ o. IfSome o HasBytesOfEnd) (ends zs) → (b : Bool) → AllByRecursion (λ o. IfSome o HasBytesOfEnd) (cond b (end_with_sense z.value (sns_after zs) ∷ ends zs) (ends zs))
    go more true = (end_bytes z.value (sns_after zs) (sense_bytes zs h.1), more)
    go more false = more

abbrev place_made : Bool → ZoneData → Placed
place_made b z = record { open_before = b; zone = z }

extras_bytes : (kind : Kind) (before : Bool) (zs : List ZoneData) → AreOfBytes zs → AllByRecursion HasBytesOfExtra (map (λ (p : Placed). extra p.zone) (filter (is_extra kind) (zones_placed before zs)))
unfolding zones_placed
extras_bytes kind before [] h = tt
extras_bytes kind before (z ∷ zs) h = go (extras_bytes kind (is_open_after before z) zs h.1) (is_extra kind (place_made before z))
  where
    more : List Placed
    more = filter (is_extra kind) (zones_placed (is_open_after before z) zs)

    go : AllByRecursion HasBytesOfExtra (map (λ (p : Placed). extra p.zone) more) → (b : Bool) → AllByRecursion HasBytesOfExtra (map (λ (p : Placed). extra p.zone) (cond b (place_made before z ∷ more) more))
    go rest true = (own_bytes (may_be_number z.format) z.value h.0, rest)
    go rest false = rest

each_there : {X : Type 0} (P : X → Type 0) (os : List (Option X)) (xs : List X) → AllByRecursion (λ o. IfSome o P) os → os ≡ map Some xs → AllByRecursion P xs
each_there P [] [] h e = tt
each_there P [] (x ∷ xs) h e = absurd cc
each_there P (o ∷ os) [] h e = absurd cc
each_there P (None ∷ os) (x ∷ xs) h e = absurd cc
each_there P (Some y ∷ os) (x ∷ xs) h e = let head : y ≡ x = cc in let more : os ≡ map Some xs = cc in (subst P head h.0, each_there P os xs h.1 more)

chosen_each : {X : Type 0} (P : Option X → Type 0) (b : Bool) (os : List (Option X)) → AllByRecursion P os → AllByRecursion P (cond b os [])
chosen_each P true os h = h
chosen_each P false os h = tt

record_bytes : (g : List ZoneData) (r : Record) → AreOfBytes g → ReadsAsRecord g r → HasReadBytes r
record_bytes g r h s = record {
  attributes = each_there HasBytesOfAttribute (attributes g) r.attributes (attributes_bytes g h) s.attributes;
  ends = each_there HasBytesOfEnd (cond (is_link r.kind) (ends g) []) r.ends (chosen_each (λ o. IfSome o HasBytesOfEnd) (is_link r.kind) (ends g) (ends_bytes g h)) s.ends;
  extras = subst (AllByRecursion HasBytesOfExtra) s.extras (extras_bytes r.kind false g h);
}

-- ---- what a sheet of bytes has

before_bytes : (zones : List ZoneData) → AreOfBytes zones → AreOfBytes (before_end zones)
before_bytes [] h = tt
before_bytes (z ∷ zs) h = go (ends_group z) (before_bytes zs h.1)
  where
    go : (b : Bool) → AreOfBytes (before_end zs) → AreOfBytes (cond b [] (z ∷ before_end zs))
    go true more = tt
    go false more = (h.0, more)

pub groups_bytes : (zones : List ZoneData) → AreOfBytes zones → AllByRecursion AreOfBytes (groups_of zones)
groups_bytes [] h = tt
groups_bytes (z ∷ zs) h = go (begins_group z) (groups_bytes zs h.1)
  where
    go : (b : Bool) → AllByRecursion AreOfBytes (groups_of zs) → AllByRecursion AreOfBytes (cond b ((z ∷ before_end zs) ∷ groups_of zs) (groups_of zs))
    go true more = ((h.0, before_bytes zs h.1), more)
    go false more = more

charset_bytes : (zones : List ZoneData) → AreOfBytes zones → IfSome (option_map (λ (z : ZoneData). z.value) (charset_of zones)) IsBytes
charset_bytes [] h = tt
charset_bytes (z ∷ zs) h = go (has_code (codes "CSE") z) (charset_bytes zs h.1)
  where
    go : (b : Bool) → IfSome (option_map (λ (y : ZoneData). y.value) (charset_of zs)) IsBytes → IfSome (option_map (λ (y : ZoneData). y.value) (first (cond b (z ∷ filter (has_code (codes "CSE")) zs) (filter (has_code (codes "CSE")) zs)))) IsBytes
    go true more = h.0
    go false more = more

records_bytes : (groups : List (List ZoneData)) (rs : List Record) → AllByRecursion AreOfBytes groups → AllZip ReadsAsRecord groups rs → AllByRecursion HasReadBytes rs
records_bytes [] [] h s = tt
records_bytes [] (r ∷ rs) h s = absurd s
records_bytes (g ∷ gs) [] h s = tt
records_bytes (g ∷ gs) (r ∷ rs) h s = (record_bytes g r h.0 s.0, records_bytes gs rs h.1 s.1)

pub record HasSheetBytes (sheet : SheetData) : Type 0 where
  pub cse : IfSome sheet.cse IsBytes
  pub records : AllByRecursion HasReadBytes sheet.list

pub sheet_bytes : (b : List ℕ) (zones : List ZoneData) (sheet : SheetData) → IsBytes b → IsZonesOf b zones → StatesSheet zones sheet → HasSheetBytes sheet
sheet_bytes b zones sheet bytes are states =
    let values : AreOfBytes zones = subst AreOfBytes (sym (zones_read b zones are).is) (zone_values b bytes) in
    record {
      cse = subst (λ o. IfSome o IsBytes) (sym states.cse) (charset_bytes zones values);
      records = records_bytes (groups_of zones) sheet.list (groups_bytes zones values) (all_read (groups_of zones) sheet.list states.records);
    }

-- ---- records of bytes, laid out

abbrev pub IsByteName : Name → Type 0
IsByteName n = IsBytes n.rty × IsBytes n.rid

abbrev pub IsByteAttribute : Attribute → Type 0
IsByteAttribute a = IsByteName a.atp × HasBytesOfAttribute a

abbrev pub IsByteEnd : EndData → Type 0
IsByteEnd e = IsByteName e.target × HasBytesOfEnd e

pub record IsByteRecord (r : Record) : Type 0 where
  pub rid : IsBytes r.rid
  pub class : IsByteName r.scp
  pub attributes : AllByRecursion IsByteAttribute r.attributes
  pub ends : AllByRecursion IsByteEnd r.ends
  pub extras : AllByRecursion HasBytesOfExtra r.extras

class_value : (n : Name) → IsByteName n → IsBytes (class_text n)
class_value n h = is_bytes (class_text n) (class_bytes n (record { rty = are_bytes n.rty h.0; rid = are_bytes n.rid h.1 }))

target_value : (n : Name) → IsByteName n → IsBytes (end_text n)
unfolding pointer_text
target_value n h =
    parted (codes "CANON") (codes "S" ++ 59 ∷ (n.rty ++ 59 ∷ n.rid)) (is_bytes (codes "CANON") (known_bytes (codes "CANON") refl))
    (parted (codes "S") (n.rty ++ 59 ∷ n.rid) (is_bytes (codes "S") (known_bytes (codes "S") refl)) (parted n.rty n.rid h.0 h.1))

third_bytes : (z : Option ℤ) → IfSome z (λ n. size_of n ≤ MOST) → IsBytes (third_text z)
third_bytes None h = no_bytes
third_bytes (Some n) h = parted (signed_text n) [] (signed_bytes n h) no_bytes

point_bytes : (p : Point) → IsPoint p → HasByteValue (point_zone p)
unfolding point_text
point_bytes p h = parted (signed_text p.x) _ (signed_bytes p.x h.x) (parted (signed_text p.y) (third_text p.z) (signed_bytes p.y h.y) (third_bytes p.z h.z))

pub kind_bytes : (kind : Kind) → IsBytes (kind_code kind)
kind_bytes Pno = is_bytes (codes "PNO") (known_bytes (codes "PNO") refl)
kind_bytes Par = is_bytes (codes "PAR") (known_bytes (codes "PAR") refl)
kind_bytes Pfe = is_bytes (codes "PFE") (known_bytes (codes "PFE") refl)
kind_bytes Fea = is_bytes (codes "FEA") (known_bytes (codes "FEA") refl)
kind_bytes Lnk = is_bytes (codes "LNK") (known_bytes (codes "LNK") refl)

flat_each : {X : Type 0} (Q : X → Type 0) (f : X → List ZoneData) → ((x : X) → Q x → AreOfBytes (f x)) → (xs : List X) → AllByRecursion Q xs → AreOfBytes (flat_map f xs)
flat_each Q f k [] h = tt
flat_each Q f k (x ∷ xs) h = joined HasByteValue (f x) (flat_map f xs) (k x h.0) (flat_each Q f k xs h.1)

senses_laid : (sns : Option (List ℕ)) → IfSome sns IsBytes → AreOfBytes (map sns_zone (option_to_list sns))
senses_laid None h = tt
senses_laid (Some text) h = (h, tt)

end_laid : (e : EndData) → IsByteEnd e → AreOfBytes (zones_of_end e)
unfolding zones_of_end
end_laid e h = (target_value e.target h.0, senses_laid e.sns h.1)

set_laid : (tex : Option (List ℕ)) → IfSome tex IsBytes → AreOfBytes (map set_zone (option_to_list tex))
set_laid None h = tt
set_laid (Some text) h = (h, tt)

attribute_laid : (s : Letters) (a : Attribute) → IsByteAttribute a → AreOfBytes (zones_of_attribute s a)
unfolding zones_of_attribute
attribute_laid s a h =
    joined HasByteValue (zone_text (codes "ATP") 67 80 (class_text a.atp) ∷ map set_zone (option_to_list a.tex)) _
    (class_value a.atp h.0, set_laid a.tex h.1.0)
    (own_bytes (s.is_number a.atp) a.atv h.1.1, tt)

extras_laid : (xs : List Extra) → AllByRecursion HasBytesOfExtra xs → AreOfBytes (map extra_zone xs)
extras_laid [] h = tt
extras_laid (e ∷ xs) h = (h.0, extras_laid xs h.1)

counts_laid : (kind : Kind) (m n : ℕ) → m < 2 ^ 64 → n < 2 ^ 64 → AreOfBytes (count_zones kind m n)
counts_laid Pno m n h k = tt
counts_laid Par m n h k = (decimal_bytes m h, tt)
counts_laid Pfe m n h k = tt
counts_laid Fea m n h k = tt
counts_laid Lnk m n h k = (decimal_bytes n k, tt)

body_laid : (r : Record) → IsLineRecord r → IsByteRecord r → AreOfBytes (zones_of_body r.kind r.points r.ends)
unfolding zones_of_body
body_laid r line h =
    joined HasByteValue (count_zones r.kind (length r.points) (length r.ends)) _ (counts_laid r.kind (length r.points) (length r.ends) line.few_points line.few_ends)
    (joined HasByteValue (map point_zone r.points) (flat_map zones_of_end r.ends) (mapped_each HasByteValue IsPoint point_zone point_bytes r.points line.points) (flat_each IsByteEnd zones_of_end end_laid r.ends h.ends))

behind_laid : (s : Letters) (r : Record) → IsLineRecord r → IsByteRecord r → AreOfBytes (behind s r)
behind_laid s r line h =
    subst AreOfBytes (sym (behind_is s r)) (
      decimal_bytes (length r.attributes) line.few,
      joined HasByteValue (flat_map (zones_of_attribute s) r.attributes) (map extra_zone r.extras) (flat_each IsByteAttribute (zones_of_attribute s) (attribute_laid s) r.attributes h.attributes) (extras_laid r.extras h.extras),
    )

record_laid : (s : Letters) (r : Record) → IsLineRecord r → IsByteRecord r → AreOfBytes (zones_of_record s r)
record_laid s r line h =
    subst AreOfBytes (sym (record_is s r)) (
      kind_bytes r.kind,
      (h.rid, (class_value r.scp h.class, joined HasByteValue (zones_of_body r.kind r.points r.ends) (behind s r) (body_laid r line h) (behind_laid s r line h))),
    )

records_laid : (s : Letters) (rs : List Record) → AllByRecursion IsLineRecord rs → AllByRecursion IsByteRecord rs → AreOfBytes (flat_map (zones_of_record s) rs)
records_laid s [] line h = tt
records_laid s (r ∷ rs) line h = joined HasByteValue (zones_of_record s r) (flat_map (zones_of_record s) rs) (record_laid s r line.0 h.0) (records_laid s rs line.1 h.1)

set_of_sheet : (cse : Option (List ℕ)) → IfSome cse IsBytes → AreOfBytes (map cse_zone (option_to_list cse))
set_of_sheet None h = tt
set_of_sheet (Some text) h = (h, tt)

pub sheet_laid : (s : Letters) (cse : Option (List ℕ)) (rs : List Record) → IfSome cse IsBytes → AllByRecursion IsLineRecord rs → AllByRecursion IsByteRecord rs → AllByRecursion HasByteValue (zones_of_sheet s cse rs)
sheet_laid s cse rs set line h = (
  is_bytes (codes "CANON.VEC") (known_bytes (codes "CANON.VEC") refl),
  joined HasByteValue (map cse_zone (option_to_list cse)) (flat_map (zones_of_record s) rs ++ end_zone ∷ []) (set_of_sheet cse set)
      (joined HasByteValue (flat_map (zones_of_record s) rs) (end_zone ∷ []) (records_laid s rs line h) (no_bytes, tt)),
)
