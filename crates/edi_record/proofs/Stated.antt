-- A printed record is stated by its zones.
use Rattle.std.proofs.Common.{◌≡◌, ℕ, Bool, true, false, cond, ◌&&◌, inr, List, [], ◌∷◌, ◌++◌, map, length, Option, Some, None, refl, sym, ap, ◌∙◌, append_assoc, eqb, All, ℤ, ◌≤◌}
use Rattle.std.specs.Prelude.{codes, bytes_eq, flat_map, filter, decimal, option_to_list, IfSome}
use Rattle.std.specs.List.{AllByRecursion, list_any}
use Rattle.std.proofs.lemmas.Bool.{or_parts}
use Rattle.std.proofs.lemmas.List.{append-nil}
use Rattle.std.proofs.lemmas.List.Elements.{All-from_recursion, filter-append}
use Rattle.edi_line.specs.ZoneData.{ZoneData, has_code}
use Rattle.edi_line.specs.Number.{plain_text, signed_text, size_of, MOST}
use Rattle.edi_line.specs.inner.Number.{number}
use Rattle.edi_line.specs.Printing.{zone_text}
use Rattle.edi_line.proofs.NumberRead.{number_is}
use Rattle.edi_line.proofs.Spelled.{signed_text_read, plain_text_read}
use Rattle.edi_record.specs.Texts.{PointerText, pointer_text, third_text, point_text}
use Rattle.edi_record.specs.inner.Texts.{pointer, class_of, point_in}
use Rattle.edi_record.specs.Shapes.{kind_code}
use Rattle.edi_record.specs.Records.{values, has_points, is_link, opens, closes, points_at, known_anywhere, known_in, is_known, may_be_number}
use Rattle.edi_record.specs.inner.Records.{set_after, value_after, attributes, sns_after, end_with_sense, ends, Placed, zones_placed, is_extra, value_of, extra, extras, ReadsAsRecord}
use Rattle.edi_record.specs.CanonicalZones.{class_text, value_text, point_zone, set_zone, extra_zone, end_text, sns_zone}
use Rattle.edi_record.specs.RecordLayout.{Letters, zones_of_attribute, zones_of_end, count_zones, zones_of_body, zones_of_record, IsOwnValue, IsExtra, IsName, IsPoint, IsRecord, settled, settled_end, settled_record}
use Rattle.edi_record.specs.declared.name.Name.{Name}
use Rattle.edi_record.specs.declared.record.Kind.{Kind}
use Rattle.edi_record.specs.declared.record.Kind.TheVariants.{Pno, Par, Pfe, Fea, Lnk}
use Rattle.edi_record.specs.declared.record.Record.{Record}
use Rattle.edi_record.specs.declared.record.Attribute.{Attribute}
use Rattle.edi_record.specs.declared.record.Extra.{Extra}
use Rattle.edi_record.specs.declared.record.Value.{Value}
use Rattle.edi_record.specs.declared.record.Value.TheVariants.{Number, Bytes}
use Rattle.edi_record.specs.LinkEnds.{EndData}
use Rattle.edi_record.specs.declared.record.Point.{Point}
use Rattle.edi_record.proofs.TextParts.{pointer_is, place_is}

abbrev IsPart : List ℕ → Type 0
IsPart text = All (λ b. eqb b 59 ≡ false) text

plain_again : (m : ℤ) → size_of m ≤ MOST → number (plain_text m) ≡ Some m
plain_again m h = (number_is (plain_text m) m).1 (plain_text_read m h)

pointer_again : (p : PointerText) → IsPart p.lot → IsPart p.subset → IsPart p.rty → IsPart p.rid → pointer (pointer_text p) ≡ Some p
unfolding pointer_text
pointer_again p lot subset rty rid = (pointer_is (pointer_text p) p).1 (record { is = refl; lot_part = lot; subset_part = subset; rty_part = rty; rid_part = rid })

point_again : (p : Point) → IsPoint p → point_in (point_text p) ≡ Some p
unfolding point_text
point_again p h = by_third p.z h.z
  where
    by_third : (z : Option ℤ) → IfSome z (λ n. size_of n ≤ MOST) → point_in (signed_text p.x ++ 59 ∷ (signed_text p.y ++ 59 ∷ third_text z)) ≡ Some (record { x = p.x; y = p.y; z = z })
    by_third None k = (place_is _ (record { x = p.x; y = p.y; z = None })).1 (record {
      numbers = signed_text p.x ∷ signed_text p.y ∷ [];
      is = inr (sym (append_assoc (signed_text p.x) (59 ∷ signed_text p.y) (59 ∷ [])));
      say = (signed_text_read p.x h.x, (signed_text_read p.y h.y, tt));
    })
    by_third (Some n) k = (place_is _ (record { x = p.x; y = p.y; z = Some n })).1 (record {
      numbers = signed_text p.x ∷ signed_text p.y ∷ signed_text n ∷ [];
      is = inr (simp append_assoc);
      say = (signed_text_read p.x h.x, (signed_text_read p.y h.y, (signed_text_read n k, tt)));
    })

-- ---- values

canon_part : IsPart (codes "CANON")
canon_part = All-from_recursion (λ b. eqb b 59 ≡ false) (codes "CANON") (refl, (refl, (refl, (refl, (refl, tt)))))

sd_part : IsPart (codes "SD")
sd_part = All-from_recursion (λ b. eqb b 59 ≡ false) (codes "SD") (refl, (refl, tt))

class_again : (n : Name) → IsName n → class_of (class_text n) ≡ Some n
class_again n h = rw (pointer_again (record { lot = codes "CANON"; subset = codes "SD"; rty = n.rty; rid = n.rid }) canon_part sd_part h.rty h.rid) refl

pub own_again : (may : Bool) (v : Value) → IsOwnValue may v → value_of may (value_text v) ≡ v
own_again may (Number m) h = rw (h.0, plain_again m h.1) refl
own_again true (Bytes text) h = rw (h refl) refl
own_again false (Bytes text) h = refl

-- ---- what a test finds among the zones of a record

pub any_apart : (p : List ℕ → Bool) (xs : List (List ℕ)) → list_any p xs ≡ false → AllByRecursion (λ x. p x ≡ false) xs
any_apart p [] h = tt
any_apart p (x ∷ xs) h = let parts = or_parts (p x) (list_any p xs) h in (parts.0, any_apart p xs parts.1)

-- the code of an extra is none of those known in every record
abbrev pub IsUnknown : List ℕ → Type 0
IsUnknown code = AllByRecursion (λ known. bytes_eq code known ≡ false) known_anywhere

pub unknown : (rty : Kind) (e : Extra) → IsExtra rty e → IsUnknown e.code
unknown rty e h = any_apart (bytes_eq e.code) known_anywhere (or_parts (list_any (bytes_eq e.code) known_anywhere) (list_any (bytes_eq e.code) (known_in rty)) h.unknown).0

-- ---- what holds of each zone

pub none_found : (p : ZoneData → Bool) (zs : List ZoneData) → AllByRecursion (λ z. p z ≡ false) zs → filter p zs ≡ []
none_found p [] h = refl
none_found p (z ∷ zs) h = rw h.0 (none_found p zs h.1)

pub joined : (P : ZoneData → Type 0) (xs ys : List ZoneData) → AllByRecursion P xs → AllByRecursion P ys → AllByRecursion P (xs ++ ys)
joined P [] ys h k = k
joined P (x ∷ xs) ys h k = (h.0, joined P xs ys h.1 k)

pub mapped : {X : Type 0} (P : ZoneData → Type 0) (f : X → ZoneData) → ((x : X) → P (f x)) → (xs : List X) → AllByRecursion P (map f xs)
mapped P f k [] = tt
mapped P f k (x ∷ xs) = (k x, mapped P f k xs)

pub mapped_each : {X : Type 0} (P : ZoneData → Type 0) (Q : X → Type 0) (f : X → ZoneData) → ((x : X) → Q x → P (f x)) → (xs : List X) → AllByRecursion Q xs → AllByRecursion P (map f xs)
mapped_each P Q f k [] h = tt
mapped_each P Q f k (x ∷ xs) h = (k x h.0, mapped_each P Q f k xs h.1)

pub flat_mapped : {X : Type 0} (P : ZoneData → Type 0) (f : X → List ZoneData) → ((x : X) → AllByRecursion P (f x)) → (xs : List X) → AllByRecursion P (flat_map f xs)
flat_mapped P f k [] = tt
flat_mapped P f k (x ∷ xs) = joined P (f x) (flat_map f xs) (k x) (flat_mapped P f k xs)

-- what holds of zones of points, of ends and of their counts
pub record HoldsInBody (P : ZoneData → Type 0) : Type 0 where
  pub ptc : (text : List ℕ) → P (zone_text (codes "PTC") 83 78 text)
  pub ftc : (text : List ℕ) → P (zone_text (codes "FTC") 83 78 text)
  pub cor : (x : Point) → P (point_zone x)
  pub ftp : (text : List ℕ) → P (zone_text (codes "FTP") 67 80 text)
  pub sns : (text : List ℕ) → P (sns_zone text)

-- of zones of attributes and their count
pub record HoldsBehind (P : ZoneData → Type 0) : Type 0 where
  pub atc : (text : List ℕ) → P (zone_text (codes "ATC") 83 78 text)
  pub atp : (text : List ℕ) → P (zone_text (codes "ATP") 67 80 text)
  pub tex : (text : List ℕ) → P (set_zone text)
  pub atv : (letter : ℕ) (text : List ℕ) → P (zone_text (codes "ATV") 83 letter text)

count_each : (P : ZoneData → Type 0) → HoldsInBody P → (kind : Kind) (m n : ℕ) → AllByRecursion P (count_zones kind m n)
count_each P k Pno m n = tt
count_each P k Par m n = (k.ptc (decimal m), tt)
count_each P k Pfe m n = tt
count_each P k Fea m n = tt
count_each P k Lnk m n = (k.ftc (decimal n), tt)

end_each : (P : ZoneData → Type 0) → HoldsInBody P → (e : EndData) → AllByRecursion P (zones_of_end e)
unfolding zones_of_end
end_each P k e = (k.ftp (end_text e.target), mapped P sns_zone k.sns (option_to_list e.sns))

pub body_each : (P : ZoneData → Type 0) → HoldsInBody P → (kind : Kind) (points : List Point) (ends : List EndData) → AllByRecursion P (zones_of_body kind points ends)
unfolding zones_of_body
body_each P k kind points ends =
    joined P (count_zones kind (length points) (length ends)) _ (count_each P k kind (length points) (length ends))
    (joined P (map point_zone points) _ (mapped P point_zone k.cor points) (flat_mapped P zones_of_end (end_each P k) ends))

attribute_each : (P : ZoneData → Type 0) → HoldsBehind P → (s : Letters) (a : Attribute) → AllByRecursion P (zones_of_attribute s a)
unfolding zones_of_attribute
attribute_each P k s a = joined P (zone_text (codes "ATP") 67 80 (class_text a.atp) ∷ map set_zone (option_to_list a.tex)) _ (k.atp (class_text a.atp), mapped P set_zone k.tex (option_to_list a.tex)) (k.atv (s.letter a.atp) _, tt)

-- the zones behind the body
pub behind : Letters → Record → List ZoneData
behind s r = zone_text (codes "ATC") 83 78 (decimal (length r.attributes)) ∷ (flat_map (zones_of_attribute s) r.attributes ++ map extra_zone r.extras)

pub behind_is : (s : Letters) (r : Record) → behind s r ≡ zone_text (codes "ATC") 83 78 (decimal (length r.attributes)) ∷ (flat_map (zones_of_attribute s) r.attributes ++ map extra_zone r.extras)
unfolding behind
behind_is s r = refl

pub behind_each : (P : ZoneData → Type 0) → HoldsBehind P → (s : Letters) (r : Record) → ((e : Extra) → IsExtra r.kind e → P (extra_zone e)) → IsRecord r → AllByRecursion P (behind s r)
unfolding behind
behind_each P k s r extras h = (
  k.atc (decimal (length r.attributes)),
  joined P (flat_map (zones_of_attribute s) r.attributes) (map extra_zone r.extras)
      (flat_mapped P (zones_of_attribute s) (attribute_each P k s) r.attributes)
      (mapped_each P (IsExtra r.kind) extra_zone extras r.extras h.extras),
)

-- ---- attributes and extras, read from the zones

attribute_again : (s : Letters) (a : Attribute) (rest : List ZoneData) → IsName a.atp → attributes (zones_of_attribute s a ++ rest) ≡ Some (settled s a) ∷ attributes rest
unfolding attributes zones_of_attribute set_after value_after
attribute_again s a rest h = by_set a.tex
  where
    by_set : (tex : Option (List ℕ)) → attributes ((zone_text (codes "ATP") 67 80 (class_text a.atp) ∷ map set_zone (option_to_list tex) ++ zone_text (codes "ATV") 83 (s.letter a.atp) (value_text (value_of (s.is_number a.atp) a.atv)) ∷ []) ++ rest)
        ≡ Some (record { atp = a.atp; tex = tex; atv = value_text (value_of (s.is_number a.atp) a.atv) }) ∷ attributes rest
    by_set None = rw (class_again a.atp h) refl
    by_set (Some text) = rw (class_again a.atp h) refl

attributes_again : (s : Letters) (xs : List Attribute) (rest : List ZoneData) → AllByRecursion (λ a. IsName a.atp) xs → attributes (flat_map (zones_of_attribute s) xs ++ rest) ≡ map Some (map (settled s) xs) ++ attributes rest
attributes_again s [] rest h = refl
attributes_again s (a ∷ xs) rest h =
    ap attributes (append_assoc (zones_of_attribute s a) (flat_map (zones_of_attribute s) xs) rest)
    ∙ attribute_again s a (flat_map (zones_of_attribute s) xs ++ rest) h.0
    ∙ ap (λ t. Some (settled s a) ∷ t) (attributes_again s xs rest h.1)

skip_body : (zs rest : List ZoneData) → AllByRecursion (λ z. opens z ≡ false) zs → attributes (zs ++ rest) ≡ attributes rest
unfolding attributes
skip_body [] rest h = refl
skip_body (z ∷ zs) rest h = rw h.0 (skip_body zs rest h.1)

skip_extras : (rty : Kind) (xs : List Extra) → AllByRecursion (IsExtra rty) xs → attributes (map extra_zone xs) ≡ []
unfolding attributes
skip_extras rty [] h = refl
skip_extras rty (e ∷ xs) h = let u = unknown rty e h.0 in rw u.1.1.1.1.0 (skip_extras rty xs h.1)

picked : Kind → List ZoneData → List Placed
picked rty zs = filter (is_extra rty) (zones_placed false zs)

pub and_false : (b : Bool) → (b && false) ≡ false
and_false true = refl
and_false false = refl

-- a zone that is known in the kind, and neither opens nor closes an attribute
record IsPlain (kind : Kind) (z : ZoneData) : Type 0 where
  known : is_known kind z.code ≡ true
  opens_none : opens z ≡ false
  closes_none : closes z ≡ false

pick_plain : (kind : Kind) (zs rest : List ZoneData) → AllByRecursion (IsPlain kind) zs → picked kind (zs ++ rest) ≡ picked kind rest
unfolding picked zones_placed
pick_plain kind [] rest h = refl
pick_plain kind (z ∷ zs) rest h = rw (and_false (has_code (codes "TEX") z), h.0.known, h.0.opens_none, h.0.closes_none) (pick_plain kind zs rest h.1)

plain_points : (kind : Kind) → is_known kind (codes "COR") ≡ true → (xs : List Point) → AllByRecursion (IsPlain kind) (map point_zone xs)
plain_points kind e xs = mapped (IsPlain kind) point_zone (λ x. record { known = e; opens_none = refl; closes_none = refl }) xs

plain_ends : (xs : List EndData) → AllByRecursion (IsPlain Lnk) (flat_map zones_of_end xs)
unfolding zones_of_end
plain_ends xs = flat_mapped (IsPlain Lnk) zones_of_end (λ e. (record { known = refl; opens_none = refl; closes_none = refl }, mapped (IsPlain Lnk) sns_zone (λ t. record { known = refl; opens_none = refl; closes_none = refl }) (option_to_list e.sns))) xs

plain_body : (kind : Kind) (points : List Point) (ends : List EndData) → (has_points kind ≡ false → points ≡ []) → (is_link kind ≡ false → ends ≡ []) → AllByRecursion (IsPlain kind) (zones_of_body kind points ends)
unfolding zones_of_body
plain_body Pno points ends p e = rw (e refl) (joined (IsPlain Pno) (map point_zone points) [] (plain_points Pno refl points) tt)
plain_body Par points ends p e = rw (e refl) (record { known = refl; opens_none = refl; closes_none = refl }, joined (IsPlain Par) (map point_zone points) [] (plain_points Par refl points) tt)
plain_body Pfe points ends p e = rw (p refl, e refl) tt
plain_body Fea points ends p e = rw (p refl, e refl) tt
plain_body Lnk points ends p e = rw (p refl) (record { known = refl; opens_none = refl; closes_none = refl }, plain_ends ends)

pick_attribute : (s : Letters) (rty : Kind) (a : Attribute) (rest : List ZoneData) → picked rty (zones_of_attribute s a ++ rest) ≡ picked rty rest
unfolding picked zones_placed zones_of_attribute
pick_attribute s rty a rest = by_set a.tex
  where
    by_set : (tex : Option (List ℕ)) → picked rty ((zone_text (codes "ATP") 67 80 (class_text a.atp) ∷ map set_zone (option_to_list tex) ++ zone_text (codes "ATV") 83 (s.letter a.atp) (value_text (value_of (s.is_number a.atp) a.atv)) ∷ []) ++ rest) ≡ picked rty rest
    by_set None = refl
    by_set (Some text) = refl

pick_attributes : (s : Letters) (rty : Kind) (xs : List Attribute) (rest : List ZoneData) → picked rty (flat_map (zones_of_attribute s) xs ++ rest) ≡ picked rty rest
pick_attributes s rty [] rest = refl
pick_attributes s rty (a ∷ xs) rest =
    ap (picked rty) (append_assoc (zones_of_attribute s a) (flat_map (zones_of_attribute s) xs) rest)
    ∙ pick_attribute s rty a (flat_map (zones_of_attribute s) xs ++ rest) ∙ pick_attributes s rty xs rest

pub record_is : (s : Letters) (r : Record) → zones_of_record s r ≡ zone_text (codes "RTY") 83 65 (kind_code r.kind) ∷ zone_text (codes "RID") 83 65 r.rid ∷ zone_text (codes "SCP") 67 80 (class_text r.scp) ∷ (zones_of_body r.kind r.points r.ends ++ behind s r)
unfolding zones_of_record behind
record_is s r = refl

-- the extras among the zones of a record are those that it prints last
pub picked_extras : (s : Letters) (r : Record) → IsRecord r → filter (is_extra r.kind) (zones_placed false (zones_of_record s r)) ≡ filter (is_extra r.kind) (zones_placed false (map extra_zone r.extras))
unfolding picked zones_placed behind
picked_extras s r h =
    ap (picked r.kind) (record_is s r)
    ∙ pick_plain r.kind (zones_of_body r.kind r.points r.ends) (behind s r) (plain_body r.kind r.points r.ends h.no_points h.no_ends) ∙ pick_attributes s r.kind r.attributes (map extra_zone r.extras)

extra_again : (rty : Kind) (e : Extra) → IsExtra rty e → extra (extra_zone e) ≡ e
extra_again rty e h = ap (λ v. let x : Extra = record { code = e.code; nature = e.nature; format = e.format; value = v } in x) (own_again (may_be_number e.format) e.value h.own)

extras_again : (rty : Kind) (xs : List Extra) → AllByRecursion (IsExtra rty) xs → map (λ (p : Placed). extra p.zone) (picked rty (map extra_zone xs)) ≡ xs
unfolding picked zones_placed
extras_again rty [] h = refl
extras_again rty (e ∷ xs) h =
    let u = unknown rty e h.0 in
    rw (h.0.unknown, and_false (bytes_eq e.code (codes "TEX")), u.1.1.1.1.0, u.1.1.1.1.1.0) (rw (extra_again rty e h.0, extras_again rty xs h.1) refl)

-- ---- ends

s_part : IsPart (codes "S")
s_part = All-from_recursion (λ b. eqb b 59 ≡ false) (codes "S") (refl, tt)

target_again : (e : EndData) → IsName e.target → end_with_sense (end_text e.target) e.sns ≡ Some (settled_end e)
target_again e h = rw (pointer_again (record { lot = codes "CANON"; subset = codes "S"; rty = e.target.rty; rid = e.target.rid }) canon_part s_part h.rty h.rid) refl

-- a zone that is no end and no SNS
IsNoEnd : ZoneData → Type 0
IsNoEnd z = (points_at z ≡ false) × (has_code (codes "SNS") z ≡ false)

no_sns : (zs : List ZoneData) → AllByRecursion IsNoEnd zs → sns_after zs ≡ None
unfolding sns_after IsNoEnd
no_sns [] h = refl
no_sns (z ∷ zs) h = rw (h.0.0, h.0.1) (no_sns zs h.1)

no_ends_in : (zs : List ZoneData) → AllByRecursion IsNoEnd zs → ends zs ≡ []
unfolding ends IsNoEnd
no_ends_in [] h = refl
no_ends_in (z ∷ zs) h = rw h.0.0 (no_ends_in zs h.1)

next_sns : (xs : List EndData) (rest : List ZoneData) → AllByRecursion IsNoEnd rest → sns_after (flat_map zones_of_end xs ++ rest) ≡ None
unfolding sns_after zones_of_end
next_sns [] rest h = no_sns rest h
next_sns (x ∷ xs) rest h = refl

end_again : (e : EndData) (rest : List ZoneData) → IsName e.target → sns_after rest ≡ None → ends (zones_of_end e ++ rest) ≡ Some (settled_end e) ∷ ends rest
unfolding ends zones_of_end sns_after
end_again e rest h none = by_sns e.sns (target_again e h)
  where
    by_sns : (sns : Option (List ℕ)) → end_with_sense (end_text e.target) sns ≡ Some (record { lot = codes "CANON"; subset = codes "S"; target = e.target; sns = sns })
        → ends ((zone_text (codes "FTP") 67 80 (end_text e.target) ∷ map sns_zone (option_to_list sns)) ++ rest) ≡ Some (record { lot = codes "CANON"; subset = codes "S"; target = e.target; sns = sns }) ∷ ends rest
    by_sns None t = rw (none, t) refl
    by_sns (Some text) t = rw t refl

ends_again : (xs : List EndData) (rest : List ZoneData) → AllByRecursion (λ e. IsName e.target) xs → AllByRecursion IsNoEnd rest → ends (flat_map zones_of_end xs ++ rest) ≡ map Some (map settled_end xs)
ends_again [] rest h k = no_ends_in rest k
ends_again (x ∷ xs) rest h k =
    ap ends (append_assoc (zones_of_end x) (flat_map zones_of_end xs) rest)
    ∙ end_again x (flat_map zones_of_end xs ++ rest) h.0 (next_sns xs rest k)
    ∙ ap (λ t. Some (settled_end x) ∷ t) (ends_again xs rest h.1 k)

-- ---- the whole record

-- a code that no zone of the body or behind it has
nothing_found : (s : Letters) (r : Record) (code : List ℕ) → HoldsInBody (λ z. has_code code z ≡ false) → HoldsBehind (λ z. has_code code z ≡ false) → ((e : Extra) → IsExtra r.kind e → bytes_eq e.code code ≡ false) → IsRecord r
    → map (λ (z : ZoneData). z.value) (filter (has_code code) (zones_of_body r.kind r.points r.ends ++ behind s r)) ≡ []
nothing_found s r code body back apart h =
    ap (map (λ (z : ZoneData). z.value)) (none_found (has_code code) (zones_of_body r.kind r.points r.ends ++ behind s r)
    (joined (λ z. has_code code z ≡ false) (zones_of_body r.kind r.points r.ends) (behind s r) (body_each (λ z. has_code code z ≡ false) body r.kind r.points r.ends) (behind_each (λ z. has_code code z ≡ false) back s r apart h)))

all_points : (xs : List Point) → filter (has_code (codes "COR")) (map point_zone xs) ≡ map point_zone xs
all_points [] = refl
all_points (x ∷ xs) = ap (λ t. point_zone x ∷ t) (all_points xs)

no_count : (kind : Kind) (m n : ℕ) → filter (has_code (codes "COR")) (count_zones kind m n) ≡ []
no_count Pno m n = refl
no_count Par m n = refl
no_count Pfe m n = refl
no_count Fea m n = refl
no_count Lnk m n = refl

no_end_cor : (xs : List EndData) → filter (has_code (codes "COR")) (flat_map zones_of_end xs) ≡ []
unfolding zones_of_end
no_end_cor xs = none_found (has_code (codes "COR")) (flat_map zones_of_end xs) (flat_mapped (λ z. has_code (codes "COR") z ≡ false) zones_of_end (λ e. (refl, mapped (λ z. has_code (codes "COR") z ≡ false) sns_zone (λ t. refl) (option_to_list e.sns))) xs)

cor_found : (kind : Kind) (points : List Point) (ends : List EndData) → filter (has_code (codes "COR")) (zones_of_body kind points ends) ≡ map point_zone points
unfolding zones_of_body
cor_found kind points ends =
    filter-append (has_code (codes "COR")) (count_zones kind (length points) (length ends)) _
    ∙ rw (no_count kind (length points) (length ends), filter-append (has_code (codes "COR")) (map point_zone points) (flat_map zones_of_end ends), all_points points, no_end_cor ends) (append-nil (map point_zone points))

points_again : (xs : List Point) → AllByRecursion IsPoint xs → map point_in (map (λ (z : ZoneData). z.value) (map point_zone xs)) ≡ map Some xs
points_again [] h = refl
points_again (x ∷ xs) h = rw (point_again x h.0, points_again xs h.1) refl

-- the code of an extra is none of those known in its kind
pub known_apart : (kind : Kind) (e : Extra) → IsExtra kind e → AllByRecursion (λ known. bytes_eq e.code known ≡ false) (known_in kind)
known_apart kind e h = any_apart (bytes_eq e.code) (known_in kind) (or_parts (list_any (bytes_eq e.code) known_anywhere) (list_any (bytes_eq e.code) (known_in kind)) h.unknown).1

cor_apart : (kind : Kind) → has_points kind ≡ true → (e : Extra) → IsExtra kind e → bytes_eq e.code (codes "COR") ≡ false
cor_apart Pno t e h = (known_apart Pno e h).0
cor_apart Par t e h = (known_apart Par e h).0
cor_apart Pfe t e h = absurd cc
cor_apart Fea t e h = absurd cc
cor_apart Lnk t e h = absurd cc

no_end_apart : (kind : Kind) → is_link kind ≡ true → (e : Extra) → IsExtra kind e → IsNoEnd (extra_zone e)
unfolding IsNoEnd
no_end_apart Lnk t e h = let a = known_apart Lnk e h in (a.1.0, a.1.1.0)
no_end_apart Pno t e h = absurd cc
no_end_apart Par t e h = absurd cc
no_end_apart Pfe t e h = absurd cc
no_end_apart Fea t e h = absurd cc

points_stated : (s : Letters) (r : Record) → IsRecord r → cond (has_points r.kind) (map point_in (values (codes "COR") (zones_of_record s r))) [] ≡ map Some r.points
points_stated s r h = go (has_points r.kind) refl
  where
    go : (t : Bool) → has_points r.kind ≡ t → cond t (map point_in (values (codes "COR") (zones_of_record s r))) [] ≡ map Some r.points
    go true t =
        let none = none_found (has_code (codes "COR")) (behind s r) (behind_each (λ z. has_code (codes "COR") z ≡ false) (record { atc = λ _. refl; atp = λ _. refl; tex = λ _. refl; atv = λ _ _. refl }) s r (cor_apart r.kind t) h) in
        let all : filter (has_code (codes "COR")) (zones_of_body r.kind r.points r.ends ++ behind s r) ≡ map point_zone r.points = filter-append (has_code (codes "COR")) (zones_of_body r.kind r.points r.ends) (behind s r) ∙ rw (none, cor_found r.kind r.points r.ends) (append-nil (map point_zone r.points)) in
        ap (λ zs. map point_in (values (codes "COR") zs)) (record_is s r) ∙ ap (λ (zs : List ZoneData). map point_in (map (λ z. z.value) zs)) all ∙ points_again r.points h.points
    go false t = rw (h.no_points t) refl

skip_count : (points : List Point) (xs : List EndData) (rest : List ZoneData) → points ≡ [] → ends (zones_of_body Lnk points xs ++ rest) ≡ ends (flat_map zones_of_end xs ++ rest)
unfolding zones_of_body ends
skip_count points xs rest e = rw e refl

no_end_behind : HoldsBehind IsNoEnd
unfolding IsNoEnd
no_end_behind = record { atc = λ _. (refl, refl); atp = λ _. (refl, refl); tex = λ _. (refl, refl); atv = λ _ _. (refl, refl) }

ends_stated : (s : Letters) (r : Record) → IsRecord r → cond (is_link r.kind) (ends (zones_of_record s r)) [] ≡ map Some (map settled_end r.ends)
unfolding ends behind
ends_stated s r h = go r.kind refl
  where
    go : (kind : Kind) → r.kind ≡ kind → cond (is_link kind) (ends (zones_of_record s r)) [] ≡ map Some (map settled_end r.ends)
    go Lnk t =
        let link : is_link r.kind ≡ true = rw t refl in
        let none = h.no_points (rw t refl) in
        let after = behind_each IsNoEnd no_end_behind s r (no_end_apart r.kind link) h in
        ap ends (record_is s r) ∙ rw t (skip_count r.points r.ends (behind s r) none) ∙ ends_again r.ends (behind s r) h.ends after
    go Pno t = rw (h.no_ends (rw t refl)) refl
    go Par t = rw (h.no_ends (rw t refl)) refl
    go Pfe t = rw (h.no_ends (rw t refl)) refl
    go Fea t = rw (h.no_ends (rw t refl)) refl

opens_none_behind : HoldsInBody (λ z. opens z ≡ false)
opens_none_behind = record { ptc = λ _. refl; ftc = λ _. refl; cor = λ _. refl; ftp = λ _. refl; sns = λ _. refl }

attributes_stated : (s : Letters) (r : Record) → IsRecord r → attributes (zones_of_record s r) ≡ map Some (map (settled s) r.attributes)
unfolding attributes behind
attributes_stated s r h =
    ap attributes (record_is s r)
    ∙ skip_body (zones_of_body r.kind r.points r.ends) (behind s r) (body_each (λ z. opens z ≡ false) opens_none_behind r.kind r.points r.ends)
    ∙ attributes_again s r.attributes (map extra_zone r.extras) h.classes
    ∙ rw (skip_extras r.kind r.extras h.extras) (append-nil (map Some (map (settled s) r.attributes)))

extras_stated : (s : Letters) (r : Record) → IsRecord r → extras r.kind (zones_of_record s r) ≡ r.extras
unfolding picked zones_placed behind
extras_stated s r h =
    ap (λ zs. extras r.kind zs) (record_is s r)
    ∙ ap (map (λ (p : Placed). extra p.zone)) (pick_plain r.kind (zones_of_body r.kind r.points r.ends) (behind s r) (plain_body r.kind r.points r.ends h.no_points h.no_ends) ∙ pick_attributes s r.kind r.attributes (map extra_zone r.extras))
    ∙ extras_again r.kind r.extras h.extras

-- The zones of a record state it, with its ends and values as they are written.
pub record_again : (s : Letters) (r : Record) → IsRecord r → ReadsAsRecord (zones_of_record s r) (settled_record s r)
record_again s r h = record {
  type = ap (values (codes "RTY")) (record_is s r) ∙ ap (λ t. kind_code r.kind ∷ t) (nothing_found s r (codes "RTY") (record { ptc = λ _. refl; ftc = λ _. refl; cor = λ _. refl; ftp = λ _. refl; sns = λ _. refl }) (record { atc = λ _. refl; atp = λ _. refl; tex = λ _. refl; atv = λ _ _. refl }) (λ e k. (unknown r.kind e k).0) h);
  rid = ap (values (codes "RID")) (record_is s r) ∙ ap (λ t. r.rid ∷ t) (nothing_found s r (codes "RID") (record { ptc = λ _. refl; ftc = λ _. refl; cor = λ _. refl; ftp = λ _. refl; sns = λ _. refl }) (record { atc = λ _. refl; atp = λ _. refl; tex = λ _. refl; atv = λ _ _. refl }) (λ e k. (unknown r.kind e k).1.0) h);
  scp = ap (λ zs. map class_of (values (codes "SCP") zs)) (record_is s r) ∙ rw (class_again r.scp h.class) (ap (λ t. Some r.scp ∷ map class_of t) (nothing_found s r (codes "SCP") (record { ptc = λ _. refl; ftc = λ _. refl; cor = λ _. refl; ftp = λ _. refl; sns = λ _. refl }) (record { atc = λ _. refl; atp = λ _. refl; tex = λ _. refl; atv = λ _ _. refl }) (λ e k. (unknown r.kind e k).1.1.0) h));
  points = points_stated s r h;
  ends = ends_stated s r h;
  attributes = attributes_stated s r h;
  extras = extras_stated s r h;
}
