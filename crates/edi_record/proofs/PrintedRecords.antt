-- Printed records break no rule of records.
use Rattle.std.proofs.Common.{◌≡◌, ℕ, suc, ◌^◌, ◌<◌, Bool, true, false, cond, not, ◌&&◌, ◌||◌, eqb, ltb, leb, List, [], ◌∷◌, ◌++◌, length, map, filter, Option, Some, None, codes, bytes_eq, refl, sym, ap, ◌∙◌, arith, append_assoc, eq-eqb, lt-ltb}
use Rattle.std.specs.Prelude.{flat_map, decimal, option_to_list}
use Rattle.std.specs.List.{AllByRecursion, list_any}
use Rattle.std.specs.Str.{all_ascii_digits}
use Rattle.std.specs.Str.Parse.{AllDigits}
use Rattle.std.proofs.lemmas.Bool.{or_from, and_parts, eqb-true, leb-true}
use Rattle.std.proofs.lemmas.List.{append-nil, length-map}
use Rattle.std.proofs.lemmas.List.Elements.{filter-append}
use Rattle.std.proofs.lemmas.Fmt.{decimal_is_IsNumeral}
use Rattle.std.proofs.lemmas.Str.Parse.{numerals_by_value, tells_all_ascii_digits}
use Rattle.edi_line.specs.ZoneData.{ZoneData, has_code}
use Rattle.edi_line.specs.Refusal.{test}
use Rattle.edi_line.specs.inner.Refusal.{first_broken}
use Rattle.edi_line.specs.Printing.{zone_text}
use Rattle.edi_record.specs.inner.Texts.{count, point_in}
use Rattle.edi_record.specs.Shapes.{kind_code, may_have_ends}
use Rattle.edi_record.specs.Records.{values, has_points, is_link, opens, closes, points_at}
use Rattle.edi_record.specs.inner.Records.{attributes, ends, Placed, zones_placed, is_extra, value_of, ReadsAsRecord}
use Rattle.edi_record.specs.RecordRules.{has_no_identifier}
use Rattle.edi_record.specs.inner.RecordRules.{kind_in, in_kind, is_arc_kind, count_until, repeats_code, counts_right, counts_wrong, has_no_kind, has_no_class, has_bad_attribute, has_wrong_count, has_bad_point, has_bad_end, is_unknown_pointer, has_unknown_pointer, record_tests}
use Rattle.edi_record.specs.CanonicalZones.{class_text, value_text, point_zone, set_zone, extra_zone, end_text, sns_zone}
use Rattle.edi_record.specs.RecordLayout.{Letters, zones_of_attribute, zones_of_end, zones_of_body, zones_of_record, IsExtra, IsRecord, settled, settled_end, settled_record, FollowsRules}
use Rattle.edi_record.specs.declared.record.Kind.{Kind}
use Rattle.edi_record.specs.declared.record.Kind.TheVariants.{Pno, Par, Pfe, Fea, Lnk}
use Rattle.edi_record.specs.declared.record.Record.{Record}
use Rattle.edi_record.specs.declared.record.Attribute.{Attribute}
use Rattle.edi_record.specs.declared.record.Extra.{Extra}
use Rattle.edi_record.specs.LinkEnds.{EndData}
use Rattle.edi_record.specs.declared.record.Point.{Point}
use Rattle.edi_record.proofs.Stated.{record_again, record_is, unknown, known_apart, joined, mapped, mapped_each, flat_mapped, HoldsInBody, HoldsBehind, body_each, behind, behind_is, behind_each, none_found, and_false, picked_extras}
use Rattle.edi_record.proofs.Passes.{kind_is, has_kind, has_identifier, has_class}
use Rattle.edi_record.specs.inner.Stored.{is_stray, has_stray}
use Rattle.edi_record.proofs.Loops.{stray_skips, stray_end, stray_sns_goes_on}
use Rattle.edi_record.proofs.Parts.{same_length, good_attributes, right_points, ends_count, good_ends}

-- ---- the zones before the attributes, and those from them on

abbrev count_zone : Record → ZoneData
count_zone r = zone_text (codes "ATC") 83 78 (decimal (length r.attributes))

abbrev front : Letters → Record → List ZoneData
front s r =
    zone_text (codes "RTY") 83 65 (kind_code r.kind) ∷ zone_text (codes "RID") 83 65 r.rid ∷ zone_text (codes "SCP") 67 80 (class_text r.scp) ∷ (zones_of_body r.kind r.points r.ends ++ count_zone r ∷ [])

abbrev rest : Letters → Record → List ZoneData
rest s r = flat_map (zones_of_attribute s) r.attributes ++ map extra_zone r.extras

split : (s : Letters) (r : Record) → zones_of_record s r ≡ front s r ++ rest s r
split s r =
    record_is s r
    ∙ ap (λ t. zone_text (codes "RTY") 83 65 (kind_code r.kind) ∷ zone_text (codes "RID") 83 65 r.rid ∷ zone_text (codes "SCP") 67 80 (class_text r.scp) ∷ t)
    (ap (λ t. zones_of_body r.kind r.points r.ends ++ t) (behind_is s r) ∙ sym (append_assoc (zones_of_body r.kind r.points r.ends) (count_zone r ∷ []) (rest s r)))

-- a zone that neither opens nor closes an attribute
abbrev IsApart : ZoneData → Type 0
IsApart z = (opens z ≡ false) × (closes z ≡ false)

apart_in_body : HoldsInBody IsApart
apart_in_body = record { ptc = λ _. (refl, refl); ftc = λ _. (refl, refl); cor = λ _. (refl, refl); ftp = λ _. (refl, refl); sns = λ _. (refl, refl) }

front_apart : (s : Letters) (r : Record) → AllByRecursion IsApart (front s r)
front_apart s r = (
  (refl, refl),
  ((refl, refl), ((refl, refl), joined IsApart (zones_of_body r.kind r.points r.ends) (count_zone r ∷ []) (body_each IsApart apart_in_body r.kind r.points r.ends) ((refl, refl), tt))),
)

extra_apart : (kind : Kind) (e : Extra) → IsExtra kind e → IsApart (extra_zone e)
extra_apart kind e h = let u = unknown kind e h in (u.1.1.1.1.0, u.1.1.1.1.1.0)

extras_apart : (kind : Kind) (xs : List Extra) → AllByRecursion (IsExtra kind) xs → AllByRecursion IsApart (map extra_zone xs)
extras_apart kind xs h = mapped_each IsApart (IsExtra kind) extra_zone (extra_apart kind) xs h

-- ---- 204

stray_past : (b : Bool) (zs more : List ZoneData) → AllByRecursion IsApart zs → list_any is_stray (zones_placed b (zs ++ more)) ≡ list_any is_stray (zones_placed b more)
stray_past b [] more h = refl
stray_past b (z ∷ zs) more h = stray_skips b z (zs ++ more) h.0.0 h.0.1 ∙ stray_past b zs more h.1

none_stray : (b : Bool) (zs : List ZoneData) → AllByRecursion IsApart zs → list_any is_stray (zones_placed b zs) ≡ false
none_stray b [] h = stray_end b
none_stray b (z ∷ zs) h = stray_skips b z zs h.0.0 h.0.1 ∙ none_stray b zs h.1

stray_attribute : (b : Bool) (s : Letters) (a : Attribute) (more : List ZoneData) → list_any is_stray (zones_placed b (zones_of_attribute s a ++ more)) ≡ list_any is_stray (zones_placed false more)
unfolding zones_placed zones_of_attribute
stray_attribute b s a more = by_set a.tex
  where
    by_set : (tex : Option (List ℕ)) → list_any is_stray (zones_placed b ((zone_text (codes "ATP") 67 80 (class_text a.atp) ∷ map set_zone (option_to_list tex) ++ zone_text (codes "ATV") 83 (s.letter a.atp) (value_text (value_of (s.is_number a.atp) a.atv)) ∷ []) ++ more))
        ≡ list_any is_stray (zones_placed false more)
    by_set None = refl
    by_set (Some text) = refl

stray_attributes : (b : Bool) (s : Letters) (xs : List Attribute) (more : List ZoneData) → ((c : Bool) → list_any is_stray (zones_placed c more) ≡ false) → list_any is_stray (zones_placed b (flat_map (zones_of_attribute s) xs ++ more)) ≡ false
stray_attributes b s [] more k = k b
stray_attributes b s (a ∷ xs) more k =
    ap (λ zs. list_any is_stray (zones_placed b zs)) (append_assoc (zones_of_attribute s a) (flat_map (zones_of_attribute s) xs) more)
    ∙ stray_attribute b s a (flat_map (zones_of_attribute s) xs ++ more) ∙ stray_attributes false s xs more k

no_stray_value : (s : Letters) (r : Record) → IsRecord r → list_any is_stray (zones_placed false (zones_of_record s r)) ≡ false
no_stray_value s r h =
    ap (λ zs. list_any is_stray (zones_placed false zs)) (split s r) ∙ stray_past false (front s r) (rest s r) (front_apart s r)
    ∙ stray_attributes false s r.attributes (map extra_zone r.extras) (λ c. none_stray c (map extra_zone r.extras) (extras_apart r.kind r.extras h.extras))

abbrev sets_repeat : List ZoneData → Bool
sets_repeat zs = repeats_code opens (λ z. opens z || closes z) (codes "TEX") zs

sets_past : (zs more : List ZoneData) → AllByRecursion IsApart zs → sets_repeat (zs ++ more) ≡ sets_repeat more
sets_past [] more h = refl
sets_past (z ∷ zs) more h = rw h.0.0 (sets_past zs more h.1)

sets_none : (zs : List ZoneData) → AllByRecursion IsApart zs → sets_repeat zs ≡ false
sets_none [] h = refl
sets_none (z ∷ zs) h = rw h.0.0 (sets_none zs h.1)

sets_attribute : (s : Letters) (a : Attribute) (more : List ZoneData) → sets_repeat (zones_of_attribute s a ++ more) ≡ sets_repeat more
unfolding zones_of_attribute
sets_attribute s a more = by_set a.tex
  where
    by_set : (tex : Option (List ℕ)) → sets_repeat ((zone_text (codes "ATP") 67 80 (class_text a.atp) ∷ map set_zone (option_to_list tex) ++ zone_text (codes "ATV") 83 (s.letter a.atp) (value_text (value_of (s.is_number a.atp) a.atv)) ∷ []) ++ more) ≡ sets_repeat more
    by_set None = refl
    by_set (Some text) = refl

sets_attributes : (s : Letters) (xs : List Attribute) (more : List ZoneData) → sets_repeat (flat_map (zones_of_attribute s) xs ++ more) ≡ sets_repeat more
sets_attributes s [] more = refl
sets_attributes s (a ∷ xs) more =
    ap sets_repeat (append_assoc (zones_of_attribute s a) (flat_map (zones_of_attribute s) xs) more)
    ∙ sets_attribute s a (flat_map (zones_of_attribute s) xs ++ more) ∙ sets_attributes s xs more

no_second_set : (s : Letters) (r : Record) → IsRecord r → sets_repeat (zones_of_record s r) ≡ false
no_second_set s r h =
    ap sets_repeat (split s r) ∙ sets_past (front s r) (rest s r) (front_apart s r) ∙ sets_attributes s r.attributes (map extra_zone r.extras) ∙ sets_none (map extra_zone r.extras) (extras_apart r.kind r.extras h.extras)

-- ---- 205

ascii_digits : (ds : List ℕ) → AllDigits 10 ds → all_ascii_digits ds ≡ true
ascii_digits ds h = (numerals_by_value (λ t. all_ascii_digits t ≡ true) tells_all_ascii_digits).from ds h

count_again : (n : ℕ) → n < 2 ^ 64 → count (decimal n) ≡ Some n
unfolding count
count_again n h =
    let numeral = decimal_is_IsNumeral n h in
    let some : ltb 0 (length (decimal n)) ≡ true = lt-ltb _ _ numeral.0.0 in
    rw (some, ascii_digits (decimal n) numeral.0.1, numeral.1) refl

right_count : (counting counted : List ℕ) (g : List ZoneData) (n : ℕ) → n < 2 ^ 64 → values counting g ≡ decimal n ∷ [] → length (values counted g) ≡ n → counts_wrong counting counted g ≡ false
right_count counting counted g n small one same =
    let right : counts_right (decimal n ∷ []) (length (values counted g)) ≡ true = rw (count_again n small) (eq-eqb n (length (values counted g)) (sym same)) in
    ap (λ vs. not (counts_right vs (length (values counted g)))) one ∙ ap not right

-- no zone of an attribute has the code
abbrev AttributesLack : List ℕ → Type 0
AttributesLack code = (s : Letters) (a : Attribute) → AllByRecursion (λ z. has_code code z ≡ false) (zones_of_attribute s a)

attributes_lack_atc : AttributesLack (codes "ATC")
unfolding zones_of_attribute
attributes_lack_atc s a = by_set a.tex
  where
    by_set : (tex : Option (List ℕ)) → AllByRecursion (λ z. has_code (codes "ATC") z ≡ false) (zone_text (codes "ATP") 67 80 (class_text a.atp) ∷ map set_zone (option_to_list tex) ++ zone_text (codes "ATV") 83 (s.letter a.atp) (value_text (value_of (s.is_number a.atp) a.atv)) ∷ [])
    by_set None = (refl, (refl, tt))
    by_set (Some text) = (refl, (refl, (refl, tt)))

-- the values of a code that only one zone of the body has
body_value : (code text : List ℕ) (s : Letters) (r : Record) → IsRecord r → bytes_eq (codes "RTY") code ≡ false → bytes_eq (codes "RID") code ≡ false → bytes_eq (codes "SCP") code ≡ false
    → map (λ (z : ZoneData). z.value) (filter (has_code code) (zones_of_body r.kind r.points r.ends)) ≡ text ∷ [] → HoldsBehind (λ z. has_code code z ≡ false) → ((e : Extra) → IsExtra r.kind e → bytes_eq e.code code ≡ false)
    → values code (zones_of_record s r) ≡ text ∷ []
body_value code text s r h rty rid scp body back extras =
    ap (values code) (record_is s r)
    ∙ rw (rty, rid, scp) (ap (map (λ (z : ZoneData). z.value)) (filter-append (has_code code) (zones_of_body r.kind r.points r.ends) (behind s r) ∙ ap (λ t. filter (has_code code) (zones_of_body r.kind r.points r.ends) ++ t) (none_found (has_code code) (behind s r) (behind_each (λ z. has_code code z ≡ false) back s r extras h)) ∙ append-nil (filter (has_code code) (zones_of_body r.kind r.points r.ends))) ∙ body)

no_point : (code : List ℕ) → bytes_eq (codes "COR") code ≡ false → (xs : List Point) → AllByRecursion (λ z. has_code code z ≡ false) (map point_zone xs)
no_point code e xs = mapped (λ z. has_code code z ≡ false) point_zone (λ x. e) xs

no_end_zone : (code : List ℕ) → bytes_eq (codes "FTP") code ≡ false → bytes_eq (codes "SNS") code ≡ false → (xs : List EndData) → AllByRecursion (λ z. has_code code z ≡ false) (flat_map zones_of_end xs)
unfolding zones_of_end
no_end_zone code e f xs = flat_mapped (λ z. has_code code z ≡ false) zones_of_end (λ x. (e, mapped (λ z. has_code code z ≡ false) sns_zone (λ t. f) (option_to_list x.sns))) xs

ptc_found : (points : List Point) (ends : List EndData) → filter (has_code (codes "PTC")) (zones_of_body Par points ends) ≡ zone_text (codes "PTC") 83 78 (decimal (length points)) ∷ []
unfolding zones_of_body
ptc_found points ends =
    ap (λ t. zone_text (codes "PTC") 83 78 (decimal (length points)) ∷ t)
    (none_found (has_code (codes "PTC")) (map point_zone points ++ flat_map zones_of_end ends) (joined (λ z. has_code (codes "PTC") z ≡ false) (map point_zone points) (flat_map zones_of_end ends) (no_point (codes "PTC") refl points) (no_end_zone (codes "PTC") refl refl ends)))

ftc_found : (points : List Point) (ends : List EndData) → filter (has_code (codes "FTC")) (zones_of_body Lnk points ends) ≡ zone_text (codes "FTC") 83 78 (decimal (length ends)) ∷ []
unfolding zones_of_body
ftc_found points ends =
    ap (λ t. zone_text (codes "FTC") 83 78 (decimal (length ends)) ∷ t)
    (none_found (has_code (codes "FTC")) (map point_zone points ++ flat_map zones_of_end ends) (joined (λ z. has_code (codes "FTC") z ≡ false) (map point_zone points) (flat_map zones_of_end ends) (no_point (codes "FTC") refl points) (no_end_zone (codes "FTC") refl refl ends)))

atc_value : (s : Letters) (r : Record) → IsRecord r → values (codes "ATC") (zones_of_record s r) ≡ decimal (length r.attributes) ∷ []
atc_value s r h =
    let body = none_found (has_code (codes "ATC")) (zones_of_body r.kind r.points r.ends) (body_each (λ z. has_code (codes "ATC") z ≡ false) (record { ptc = λ _. refl; ftc = λ _. refl; cor = λ _. refl; ftp = λ _. refl; sns = λ _. refl }) r.kind r.points r.ends) in
    let others = none_found (has_code (codes "ATC")) (rest s r) (joined (λ z. has_code (codes "ATC") z ≡ false) (flat_map (zones_of_attribute s) r.attributes) (map extra_zone r.extras)
    (flat_mapped (λ z. has_code (codes "ATC") z ≡ false) (zones_of_attribute s) (attributes_lack_atc s) r.attributes)
    (mapped_each (λ z. has_code (codes "ATC") z ≡ false) (IsExtra r.kind) extra_zone (λ e k. (unknown r.kind e k).1.1.1.0) r.extras h.extras)) in
    ap (values (codes "ATC")) (record_is s r)
    ∙ ap (map (λ (z : ZoneData). z.value)) (filter-append (has_code (codes "ATC")) (zones_of_body r.kind r.points r.ends) (behind s r) ∙ ap (λ t. t ++ filter (has_code (codes "ATC")) (behind s r)) body ∙ ap (filter (has_code (codes "ATC"))) (behind_is s r) ∙ ap (λ t. count_zone r ∷ t) others)

attributes_count : (g : List ZoneData) → length (attributes g) ≡ length (values (codes "ATP") g)
unfolding attributes
attributes_count [] = refl
attributes_count (z ∷ zs) = go (opens z) refl (attributes_count zs)
  where
    go : (b : Bool) → opens z ≡ b → length (attributes zs) ≡ length (values (codes "ATP") zs) → length (attributes (z ∷ zs)) ≡ length (values (codes "ATP") (z ∷ zs))
    go true e more = rw e (ap suc more)
    go false e more = rw e more

right_attribute_count : (s : Letters) (r : Record) → IsRecord r → FollowsRules r → counts_wrong (codes "ATC") (codes "ATP") (zones_of_record s r) ≡ false
right_attribute_count s r h k =
    let stated = record_again s r h in
    right_count (codes "ATC") (codes "ATP") (zones_of_record s r) (length r.attributes) k.few_attributes (atc_value s r h)
    (sym (attributes_count (zones_of_record s r)) ∙ same_length (attributes (zones_of_record s r)) (map (settled s) r.attributes) stated.attributes ∙ length-map r.attributes (settled s))

behind_none_ptc : HoldsBehind (λ z. has_code (codes "PTC") z ≡ false)
behind_none_ptc = record { atc = λ _. refl; atp = λ _. refl; tex = λ _. refl; atv = λ _ _. refl }

behind_none_ftc : HoldsBehind (λ z. has_code (codes "FTC") z ≡ false)
behind_none_ftc = record { atc = λ _. refl; atp = λ _. refl; tex = λ _. refl; atv = λ _ _. refl }

point_count : (s : Letters) (r : Record) → ReadsAsRecord (zones_of_record s r) (settled_record s r) → has_points r.kind ≡ true → length (values (codes "COR") (zones_of_record s r)) ≡ length r.points
point_count s r h t = sym (length-map (values (codes "COR") (zones_of_record s r)) point_in) ∙ same_length (map point_in (values (codes "COR") (zones_of_record s r))) r.points (places s r h t)
  where
    places : (s : Letters) (r : Record) → ReadsAsRecord (zones_of_record s r) (settled_record s r) → has_points r.kind ≡ true → map point_in (values (codes "COR") (zones_of_record s r)) ≡ map Some r.points
    places s r h t = sym (ap (λ b. cond b (map point_in (values (codes "COR") (zones_of_record s r))) []) t) ∙ h.points

right_point_count : (s : Letters) (r : Record) → IsRecord r → FollowsRules r → (in_kind is_arc_kind (zones_of_record s r) && counts_wrong (codes "PTC") (codes "COR") (zones_of_record s r)) ≡ false
right_point_count s r h k = go r.kind refl (kind_is (zones_of_record s r) (settled_record s r) (record_again s r h))
  where
    go : (kind : Kind) → r.kind ≡ kind → kind_in (zones_of_record s r) ≡ Some r.kind → (in_kind is_arc_kind (zones_of_record s r) && counts_wrong (codes "PTC") (codes "COR") (zones_of_record s r)) ≡ false
    go Par t named =
        let body : filter (has_code (codes "PTC")) (zones_of_body r.kind r.points r.ends) ≡ zone_text (codes "PTC") 83 78 (decimal (length r.points)) ∷ [] = rw t (ptc_found r.points r.ends) in
        let apart : (e : Extra) → IsExtra r.kind e → bytes_eq e.code (codes "PTC") ≡ false = λ e x. ptc_apart r.kind t e x in
        let one = body_value (codes "PTC") (decimal (length r.points)) s r h refl refl refl (ap (map (λ (z : ZoneData). z.value)) body) behind_none_ptc apart in
        let own : kind_in (zones_of_record s r) ≡ Some Par = named ∙ ap (λ x. Some x) t in
        rw own (right_count (codes "PTC") (codes "COR") (zones_of_record s r) (length r.points) k.few_points one (point_count s r (record_again s r h) (rw t refl)))
      where
        ptc_apart : (kind : Kind) → kind ≡ Par → (e : Extra) → IsExtra kind e → bytes_eq e.code (codes "PTC") ≡ false
        ptc_apart Par t e x = (known_apart Par e x).1.0
        ptc_apart Pno t e x = absurd cc
        ptc_apart Pfe t e x = absurd cc
        ptc_apart Fea t e x = absurd cc
        ptc_apart Lnk t e x = absurd cc
    go Pno t named = rw (named, t) refl
    go Pfe t named = rw (named, t) refl
    go Fea t named = rw (named, t) refl
    go Lnk t named = rw (named, t) refl

end_count : (s : Letters) (r : Record) → ReadsAsRecord (zones_of_record s r) (settled_record s r) → is_link r.kind ≡ true → length (values (codes "FTP") (zones_of_record s r)) ≡ length r.ends
end_count s r h t = sym (ends_count (zones_of_record s r)) ∙ same_length (ends (zones_of_record s r)) (map settled_end r.ends) (sym (ap (λ b. cond b (ends (zones_of_record s r)) []) t) ∙ h.ends) ∙ length-map r.ends settled_end

right_end_count : (s : Letters) (r : Record) → IsRecord r → FollowsRules r → (in_kind is_link (zones_of_record s r) && counts_wrong (codes "FTC") (codes "FTP") (zones_of_record s r)) ≡ false
right_end_count s r h k = go r.kind refl (kind_is (zones_of_record s r) (settled_record s r) (record_again s r h))
  where
    go : (kind : Kind) → r.kind ≡ kind → kind_in (zones_of_record s r) ≡ Some r.kind → (in_kind is_link (zones_of_record s r) && counts_wrong (codes "FTC") (codes "FTP") (zones_of_record s r)) ≡ false
    go Lnk t named =
        let body : filter (has_code (codes "FTC")) (zones_of_body r.kind r.points r.ends) ≡ zone_text (codes "FTC") 83 78 (decimal (length r.ends)) ∷ [] = rw t (ftc_found r.points r.ends) in
        let apart : (e : Extra) → IsExtra r.kind e → bytes_eq e.code (codes "FTC") ≡ false = λ e x. ftc_apart r.kind t e x in
        let one = body_value (codes "FTC") (decimal (length r.ends)) s r h refl refl refl (ap (map (λ (z : ZoneData). z.value)) body) behind_none_ftc apart in
        let own : kind_in (zones_of_record s r) ≡ Some Lnk = named ∙ ap (λ x. Some x) t in
        rw own (right_count (codes "FTC") (codes "FTP") (zones_of_record s r) (length r.ends) k.few_ends one (end_count s r (record_again s r h) (rw t refl)))
      where
        ftc_apart : (kind : Kind) → kind ≡ Lnk → (e : Extra) → IsExtra kind e → bytes_eq e.code (codes "FTC") ≡ false
        ftc_apart Lnk t e x = (known_apart Lnk e x).0
        ftc_apart Par t e x = absurd cc
        ftc_apart Pno t e x = absurd cc
        ftc_apart Pfe t e x = absurd cc
        ftc_apart Fea t e x = absurd cc
    go Pno t named = rw (named, t) refl
    go Pfe t named = rw (named, t) refl
    go Fea t named = rw (named, t) refl
    go Par t named = rw (named, t) refl

-- ---- 206

right_places : (s : Letters) (r : Record) → IsRecord r → FollowsRules r → has_bad_point (zones_of_record s r) ≡ false
right_places s r h k = go (has_points r.kind) refl
  where
    stated : ReadsAsRecord (zones_of_record s r) (settled_record s r)
    stated = record_again s r h

    go : (b : Bool) → has_points r.kind ≡ b → has_bad_point (zones_of_record s r) ≡ false
    go true t = right_points r.kind (zones_of_record s r) r.points (kind_is (zones_of_record s r) (settled_record s r) (record_again s r h)) t (sym (ap (λ b. cond b (map point_in (values (codes "COR") (zones_of_record s r))) []) t) ∙ (record_again s r h).points) (and_parts _ _ k.shape).0
    go false t = no_points_wanted r.kind (zones_of_record s r) (kind_is (zones_of_record s r) (settled_record s r) (record_again s r h)) t
      where
        no_points_wanted : (kind : Kind) (g : List ZoneData) → kind_in g ≡ Some kind → has_points kind ≡ false → has_bad_point g ≡ false
        no_points_wanted Pfe g e t = rw e refl
        no_points_wanted Fea g e t = rw e refl
        no_points_wanted Lnk g e t = rw e refl
        no_points_wanted Pno g e t = absurd cc
        no_points_wanted Par g e t = absurd cc

-- ---- 207

-- a zone that is neither an end nor an SNS
abbrev IsOther : ZoneData → Type 0
IsOther z = (points_at z ≡ false) × (has_code (codes "SNS") z ≡ false)

no_sns_left : (zs : List ZoneData) → AllByRecursion IsOther zs → count_until points_at (codes "SNS") zs ≡ 0
no_sns_left [] h = refl
no_sns_left (z ∷ zs) h = rw (h.0.0, h.0.1) (no_sns_left zs h.1)

abbrev ends_repeat : List ZoneData → Bool
ends_repeat zs = repeats_code points_at points_at (codes "SNS") zs

ends_past : (zs more : List ZoneData) → AllByRecursion IsOther zs → ends_repeat (zs ++ more) ≡ ends_repeat more
ends_past [] more h = refl
ends_past (z ∷ zs) more h = rw h.0.0 (ends_past zs more h.1)

ends_none : (zs : List ZoneData) → AllByRecursion IsOther zs → ends_repeat zs ≡ false
ends_none [] h = refl
ends_none (z ∷ zs) h = rw h.0.0 (ends_none zs h.1)

next_count : (xs : List EndData) (more : List ZoneData) → AllByRecursion IsOther more → count_until points_at (codes "SNS") (flat_map zones_of_end xs ++ more) ≡ 0
unfolding zones_of_end
next_count [] more h = no_sns_left more h
next_count (x ∷ xs) more h = refl

ends_one : (x : EndData) (more : List ZoneData) → count_until points_at (codes "SNS") more ≡ 0 → ends_repeat (zones_of_end x ++ more) ≡ ends_repeat more
unfolding zones_of_end
ends_one x more none = by_sns x.sns
  where
    by_sns : (sns : Option (List ℕ)) → ends_repeat ((zone_text (codes "FTP") 67 80 (end_text x.target) ∷ map sns_zone (option_to_list sns)) ++ more) ≡ ends_repeat more
    by_sns None = rw none refl
    by_sns (Some text) = rw none refl

ends_all : (xs : List EndData) (more : List ZoneData) → AllByRecursion IsOther more → ends_repeat (flat_map zones_of_end xs ++ more) ≡ false
ends_all [] more h = ends_none more h
ends_all (x ∷ xs) more h =
    ap ends_repeat (append_assoc (zones_of_end x) (flat_map zones_of_end xs) more)
    ∙ ends_one x (flat_map zones_of_end xs ++ more) (next_count xs more h) ∙ ends_all xs more h

stray_sns_past : (zs more : List ZoneData) → AllByRecursion IsOther zs → has_stray (zs ++ more) ≡ has_stray more
stray_sns_past [] more h = refl
stray_sns_past (z ∷ zs) more h = sym (stray_sns_goes_on z (zs ++ more) h.0.0 h.0.1) ∙ stray_sns_past zs more h.1

stray_sns_none : (zs : List ZoneData) → AllByRecursion IsOther zs → has_stray zs ≡ false
stray_sns_none [] h = refl
stray_sns_none (z ∷ zs) h = sym (stray_sns_goes_on z zs h.0.0 h.0.1) ∙ stray_sns_none zs h.1

stray_sns_ends : (xs : List EndData) (more : List ZoneData) → AllByRecursion IsOther more → has_stray (flat_map zones_of_end xs ++ more) ≡ false
unfolding zones_of_end
stray_sns_ends [] more h = stray_sns_none more h
stray_sns_ends (x ∷ xs) more h = refl

no_end_apart : (kind : Kind) → kind ≡ Lnk → (e : Extra) → IsExtra kind e → IsOther (extra_zone e)
no_end_apart Lnk t e h = let a = known_apart Lnk e h in (a.1.0, a.1.1.0)
no_end_apart Pno t e h = absurd cc
no_end_apart Par t e h = absurd cc
no_end_apart Pfe t e h = absurd cc
no_end_apart Fea t e h = absurd cc

abbrev link_front : Letters → Record → List ZoneData
link_front s r = zone_text (codes "RTY") 83 65 (kind_code r.kind) ∷ zone_text (codes "RID") 83 65 r.rid ∷ zone_text (codes "SCP") 67 80 (class_text r.scp) ∷ zone_text (codes "FTC") 83 78 (decimal (length r.ends)) ∷ []

link_front_other : (s : Letters) (r : Record) → AllByRecursion IsOther (link_front s r)
link_front_other s r = ((refl, refl), ((refl, refl), ((refl, refl), ((refl, refl), tt))))

link_body : (points : List Point) (ends : List EndData) → points ≡ [] → zones_of_body Lnk points ends ≡ zone_text (codes "FTC") 83 78 (decimal (length ends)) ∷ flat_map zones_of_end ends
unfolding zones_of_body
link_body points ends e = rw e refl

link_split : (s : Letters) (r : Record) → IsRecord r → r.kind ≡ Lnk → zones_of_record s r ≡ link_front s r ++ (flat_map zones_of_end r.ends ++ behind s r)
link_split s r h t =
    let body : zones_of_body r.kind r.points r.ends ≡ zone_text (codes "FTC") 83 78 (decimal (length r.ends)) ∷ flat_map zones_of_end r.ends = rw t (link_body r.points r.ends (h.no_points (rw t refl))) in
    record_is s r ∙ ap (λ b. zone_text (codes "RTY") 83 65 (kind_code r.kind) ∷ zone_text (codes "RID") 83 65 r.rid ∷ zone_text (codes "SCP") 67 80 (class_text r.scp) ∷ (b ++ behind s r)) body

right_ends : (s : Letters) (r : Record) → IsRecord r → FollowsRules r → has_bad_end (zones_of_record s r) ≡ false
right_ends s r h k = go r.kind refl (kind_is (zones_of_record s r) (settled_record s r) (record_again s r h)) (and_parts _ _ k.shape).1
  where
    go : (kind : Kind) → r.kind ≡ kind → kind_in (zones_of_record s r) ≡ Some r.kind → may_have_ends r.kind (length r.ends) ≡ true → has_bad_end (zones_of_record s r) ≡ false
    go Lnk t named shape =
        let after = behind_each IsOther (record { atc = λ _. (refl, refl); atp = λ _. (refl, refl); tex = λ _. (refl, refl); atv = λ _ _. (refl, refl) }) s r (no_end_apart r.kind t) h in
        let more = flat_map zones_of_end r.ends ++ behind s r in
        let stray : has_stray (zones_of_record s r) ≡ false = ap has_stray (link_split s r h t) ∙ stray_sns_past (link_front s r) more (link_front_other s r) ∙ stray_sns_ends r.ends (behind s r) after in
        let twice : ends_repeat (zones_of_record s r) ≡ false = ap ends_repeat (link_split s r h t) ∙ ends_past (link_front s r) more (link_front_other s r) ∙ ends_all r.ends (behind s r) after in
        let two : leb 2 (length r.ends) ≡ true = sym (ap (λ x. may_have_ends x (length r.ends)) t) ∙ shape in
        good_ends r.kind (zones_of_record s r) (map settled_end r.ends) false named (rw t refl) (sym (ap (λ b. cond b (ends (zones_of_record s r)) []) (let l : is_link r.kind ≡ true = rw t refl in l)) ∙ (record_again s r h).ends)
        (let least = leb-true 2 (length r.ends) two in omega (arith, least, length-map r.ends settled_end)) (sym (or_from _ _ stray twice)) refl
    go Pno t named shape = rw (named, t) refl
    go Par t named shape = rw (named, t) refl
    go Pfe t named shape = rw (named, t) refl
    go Fea t named shape = rw (named, t) refl

-- ---- 208

abbrev is_full_pointer : Placed → Bool
is_full_pointer p = eqb p.zone.format 80 && ltb 0 (length p.zone.value)

among_extras : (kind : Kind) (ps : List Placed) → list_any (is_unknown_pointer kind) ps ≡ list_any is_full_pointer (filter (is_extra kind) ps)
among_extras kind [] = refl
among_extras kind (p ∷ ps) = go (is_extra kind p) refl (among_extras kind ps)
  where
    go : (b : Bool) → is_extra kind p ≡ b → list_any (is_unknown_pointer kind) ps ≡ list_any is_full_pointer (filter (is_extra kind) ps) → list_any (is_unknown_pointer kind) (p ∷ ps) ≡ list_any is_full_pointer (filter (is_extra kind) (p ∷ ps))
    go true e more = rw (e, more) refl
    go false e more = rw (e, more) refl

empty_pointer : (e : Extra) → (e.format ≡ 80 → value_text e.value ≡ []) → (eqb e.format 80 && ltb 0 (length (value_text e.value))) ≡ false
empty_pointer e h = go (eqb e.format 80) refl
  where
    go : (b : Bool) → eqb e.format 80 ≡ b → (b && ltb 0 (length (value_text e.value))) ≡ false
    go true f = ap (λ t. ltb 0 (length t)) (h (eqb-true _ _ f))
    go false f = refl

empty_pointers : (kind : Kind) (xs : List Extra) → AllByRecursion (IsExtra kind) xs → AllByRecursion (λ e. e.format ≡ 80 → value_text e.value ≡ []) xs → list_any is_full_pointer (filter (is_extra kind) (zones_placed false (map extra_zone xs))) ≡ false
unfolding zones_placed
empty_pointers kind [] h k = refl
empty_pointers kind (e ∷ xs) h k =
    let u = extra_apart kind e h.0 in
    rw (h.0.unknown, and_false (bytes_eq e.code (codes "TEX")), u.0, u.1) (or_from _ _ (empty_pointer e k.0) (empty_pointers kind xs h.1 k.1))

no_unknown_pointer : (s : Letters) (r : Record) → IsRecord r → FollowsRules r → has_unknown_pointer (zones_of_record s r) ≡ false
no_unknown_pointer s r h k =
    rw (kind_is (zones_of_record s r) (settled_record s r) (record_again s r h))
    (among_extras r.kind (zones_placed false (zones_of_record s r)) ∙ ap (list_any is_full_pointer) (picked_extras s r h) ∙ empty_pointers r.kind r.extras h.extras k.pointers)

-- ---- all of them

-- a test that fails is passed over
passed : (rule : ℕ) (b : Bool) (tests : List _) → b ≡ false → first_broken (test rule b ∷ tests) ≡ first_broken tests
passed rule b tests e = rw e refl

none_of_eight : (a b c d e f g h : Bool) → a ≡ false → b ≡ false → c ≡ false → d ≡ false → e ≡ false → f ≡ false → g ≡ false → h ≡ false
    → first_broken (test 201 a ∷ test 202 b ∷ test 203 c ∷ test 204 d ∷ test 205 e ∷ test 206 f ∷ test 207 g ∷ test 208 h ∷ []) ≡ None
none_of_eight a b c d e f g h p q r s t u v w =
    let last = test 208 h ∷ [] in
    let from_7 = test 207 g ∷ last in
    let from_6 = test 206 f ∷ from_7 in
    let from_5 = test 205 e ∷ from_6 in
    let from_4 = test 204 d ∷ from_5 in
    let from_3 = test 203 c ∷ from_4 in
    passed 201 a (test 202 b ∷ from_3) p ∙ passed 202 b from_3 q ∙ passed 203 c from_4 r ∙ passed 204 d from_5 s ∙ passed 205 e from_6 t ∙ passed 206 f from_7 u ∙ passed 207 g last v ∙ passed 208 h [] w

pub printed_unbroken : (s : Letters) (r : Record) → IsRecord r → FollowsRules r → first_broken (record_tests (zones_of_record s r)) ≡ None
printed_unbroken s r h k =
    let g = zones_of_record s r in
    let stated = record_again s r h in
    none_of_eight (has_no_kind g) (has_no_identifier g) (has_no_class g) (has_bad_attribute g) (has_wrong_count g) (has_bad_point g) (has_bad_end g) (has_unknown_pointer g)
    (has_kind g (settled_record s r) stated) (has_identifier g (settled_record s r) stated k.identifier) (has_class g (settled_record s r) stated)
    (good_attributes g (map (settled s) r.attributes) false false stated.attributes (sym (no_stray_value s r h)) refl (sym (no_second_set s r h)) refl)
    (or_from _ _ (right_attribute_count s r h k) (or_from _ _ (right_point_count s r h k) (right_end_count s r h k)))
    (right_places s r h k) (right_ends s r h k) (no_unknown_pointer s r h k)
