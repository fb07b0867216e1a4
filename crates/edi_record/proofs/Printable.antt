-- Sheets whose texts are each one line can be printed.
use Rattle.std.proofs.Common.{◌≡◌, ℕ, ◌^◌, ◌<◌, ◌≤◌, Bool, true, false, eqb, List, [], ◌∷◌, ◌++◌, length, map, Option, Some, None, codes, refl, sym, ap, subst, arith, ℤ}
use Rattle.std.specs.Prelude.{flat_map, decimal, option_to_list, IfSome}
use Rattle.std.specs.List.{AllByRecursion}
use Rattle.std.specs.Char.{digit_value}
use Rattle.std.specs.Str.Parse.{AllDigits}
use Rattle.std.proofs.lemmas.Bool.{ne_eqb}
use Rattle.std.proofs.lemmas.List.Elements.{All-append, All-cons, All-nil, All-from_recursion}
use Rattle.std.proofs.lemmas.Fmt.{decimal_is_IsNumeral}
use Rattle.edi_line.specs.ZoneData.{ZoneData}
use Rattle.edi_line.specs.Number.{IsNumberText, plain_text, signed_text, size_of, MOST}
use Rattle.edi_line.specs.inner.Number.{number}
use Rattle.edi_line.specs.LineKinds.{is_zone}
use Rattle.edi_line.specs.Printing.{zone_text, IsOneLine, IsPrintable}
use Rattle.edi_line.proofs.Numbers.{number_in_range}
use Rattle.edi_line.proofs.NumberRead.{number_is, number_lacks}
use Rattle.edi_line.proofs.Spelled.{signed_text_read, plain_text_read}
use Rattle.edi_record.specs.Texts.{pointer_text, third_text, point_text}
use Rattle.edi_record.specs.Shapes.{kind_code}
use Rattle.edi_record.specs.inner.Records.{value_of}
use Rattle.edi_record.specs.CanonicalZones.{class_text, value_text, point_zone, set_zone, extra_zone, end_text, sns_zone, end_zone, cse_zone}
use Rattle.edi_record.specs.RecordLayout.{Letters, zones_of_attribute, zones_of_end, count_zones, zones_of_body, zones_of_record, zones_of_sheet, IsExtra, IsPoint, IsRecord, IsLineName, IsLineAttribute, IsLineEnd, IsLineValue, IsLineExtra, IsLineRecord, HasPrintableLetters}
use Rattle.edi_record.specs.declared.name.Name.{Name}
use Rattle.edi_record.specs.declared.record.Kind.{Kind}
use Rattle.edi_record.specs.declared.record.Kind.TheVariants.{Pno, Par, Pfe, Fea, Lnk}
use Rattle.edi_record.specs.declared.record.Record.{Record}
use Rattle.edi_record.specs.declared.record.Attribute.{Attribute}
use Rattle.edi_record.specs.declared.record.Extra.{Extra}
use Rattle.edi_record.specs.declared.record.Value.{Value}
use Rattle.edi_record.specs.declared.record.Value.TheVariants.{Number, Bytes}
use Rattle.edi_record.specs.LinkEnds.{EndData}
use Rattle.edi_record.specs.declared.record.Point.{Point}
use Rattle.edi_record.proofs.Stated.{record_is, joined, mapped_each, behind, behind_is}
use Rattle.edi_record.proofs.SheetStated.{free_apart}

abbrev feed_apart : ℕ → Type 0
feed_apart c = eqb c 10 ≡ false

-- ---- texts

number_line : (t : List ℕ) (m : ℤ) → IsNumberText t m → IsOneLine t
number_line t m h = number_lacks 10 (λ c low high. ne_eqb c 10 (λ e. omega arith)) refl refl refl t m h

signed_line : (m : ℤ) → size_of m ≤ MOST → IsOneLine (signed_text m)
signed_line m h = number_line (signed_text m) m (signed_text_read m h)

plain_line : (m : ℤ) → size_of m ≤ MOST → IsOneLine (plain_text m)
plain_line m h = number_line (plain_text m) m (plain_text_read m h)

parted : (x y : List ℕ) → IsOneLine x → IsOneLine y → IsOneLine (x ++ 59 ∷ y)
parted x y h k = All-append feed_apart x (59 ∷ y) h (All-cons feed_apart 59 y refl k)

nothing_line : IsOneLine []
nothing_line = All-nil feed_apart

canon_line : IsOneLine (codes "CANON")
canon_line = All-from_recursion feed_apart (codes "CANON") (refl, (refl, (refl, (refl, (refl, tt)))))

sd_line : IsOneLine (codes "SD")
sd_line = All-from_recursion feed_apart (codes "SD") (refl, (refl, tt))

s_line : IsOneLine (codes "S")
s_line = All-from_recursion feed_apart (codes "S") (refl, tt)

class_line : (n : Name) → IsLineName n → IsOneLine (class_text n)
unfolding pointer_text
class_line n h = parted (codes "CANON") (codes "SD" ++ 59 ∷ (n.rty ++ 59 ∷ n.rid)) canon_line (parted (codes "SD") (n.rty ++ 59 ∷ n.rid) sd_line (parted n.rty n.rid h.rty h.rid))

end_line : (n : Name) → IsLineName n → IsOneLine (end_text n)
unfolding pointer_text
end_line n h = parted (codes "CANON") (codes "S" ++ 59 ∷ (n.rty ++ 59 ∷ n.rid)) canon_line (parted (codes "S") (n.rty ++ 59 ∷ n.rid) s_line (parted n.rty n.rid h.rty h.rid))

third_line : (z : Option ℤ) → IfSome z (λ n. size_of n ≤ MOST) → IsOneLine (third_text z)
third_line None h = nothing_line
third_line (Some n) h = parted (signed_text n) [] (signed_line n h) nothing_line

point_line : (p : Point) → IsPoint p → IsOneLine (point_text p)
unfolding point_text
point_line p h = parted (signed_text p.x) _ (signed_line p.x h.x) (parted (signed_text p.y) (third_text p.z) (signed_line p.y h.y) (third_line p.z h.z))

kind_line : (kind : Kind) → IsOneLine (kind_code kind)
kind_line Pno = All-from_recursion feed_apart (codes "PNO") (refl, (refl, (refl, tt)))
kind_line Par = All-from_recursion feed_apart (codes "PAR") (refl, (refl, (refl, tt)))
kind_line Pfe = All-from_recursion feed_apart (codes "PFE") (refl, (refl, (refl, tt)))
kind_line Fea = All-from_recursion feed_apart (codes "FEA") (refl, (refl, (refl, tt)))
kind_line Lnk = All-from_recursion feed_apart (codes "LNK") (refl, (refl, (refl, tt)))

digits_line : (ds : List ℕ) → AllDigits 10 ds → IsOneLine ds
digits_line [] h = nothing_line
digits_line (d ∷ ds) h = All-cons feed_apart d ds (ne_eqb d 10 (λ e. (let less : digit_value d < 10 = h.0 in absurd (omega (arith, less, ap digit_value e))))) (digits_line ds h.1)

count_line : (n : ℕ) → n < 2 ^ 64 → IsOneLine (decimal n)
count_line n h = digits_line (decimal n) (decimal_is_IsNumeral n h).0.1

value_line : (v : Value) → IsLineValue v → IsOneLine (value_text v)
value_line (Number m) h = plain_line m h
value_line (Bytes text) h = h

own_line : (may : Bool) (text : List ℕ) → IsOneLine text → IsOneLine (value_text (value_of may text))
own_line false text h = h
own_line true text h = go (number text) refl
  where
    go : (o : Option ℤ) → number text ≡ o → IsOneLine (value_text (value_of true text))
    go (Some m) e = rw e (plain_line m (number_in_range text m ((number_is text m).0 e)))
    go None e = rw e h

-- ---- zones

flat_each : {X : Type 0} (P : ZoneData → Type 0) (Q : X → Type 0) (f : X → List ZoneData) → ((x : X) → Q x → AllByRecursion P (f x)) → (xs : List X) → AllByRecursion Q xs → AllByRecursion P (flat_map f xs)
flat_each P Q f k [] h = tt
flat_each P Q f k (x ∷ xs) h = joined P (f x) (flat_map f xs) (k x h.0) (flat_each P Q f k xs h.1)

point_printable : (p : Point) → IsPoint p → IsPrintable (point_zone p)
point_printable p h = record { code = refl; zone = refl; nature = refl; format = refl; one_line = point_line p h }

sns_printable : (sns : Option (List ℕ)) → IfSome sns IsOneLine → AllByRecursion IsPrintable (map sns_zone (option_to_list sns))
sns_printable None h = tt
sns_printable (Some text) h = (record { code = refl; zone = refl; nature = refl; format = refl; one_line = h }, tt)

end_printable : (e : EndData) → IsLineEnd e → AllByRecursion IsPrintable (zones_of_end e)
unfolding zones_of_end
end_printable e h = (record { code = refl; zone = refl; nature = refl; format = refl; one_line = end_line e.target h.target }, sns_printable e.sns h.sns)

set_printable : (tex : Option (List ℕ)) → IfSome tex IsOneLine → AllByRecursion IsPrintable (map set_zone (option_to_list tex))
set_printable None h = tt
set_printable (Some text) h = (record { code = refl; zone = refl; nature = refl; format = refl; one_line = h }, tt)

attribute_printable : (s : Letters) → HasPrintableLetters s → (a : Attribute) → IsLineAttribute a → AllByRecursion IsPrintable (zones_of_attribute s a)
unfolding zones_of_attribute
attribute_printable s letters a h =
    joined IsPrintable (zone_text (codes "ATP") 67 80 (class_text a.atp) ∷ map set_zone (option_to_list a.tex)) _
    (record { code = refl; zone = refl; nature = refl; format = refl; one_line = class_line a.atp h.class }, set_printable a.tex h.set)
    (record { code = refl; zone = refl; nature = refl; format = letters a.atp; one_line = own_line (s.is_number a.atp) a.atv h.value }, tt)

free_zone : (kind : Kind) (e : Extra) → IsExtra kind e → is_zone e.code ≡ true
free_zone kind e h =
    let f = free_apart e.code h.free in
    rw (f.0, f.1.0) refl

extra_printable : (kind : Kind) (e : Extra) → IsExtra kind e → IsLineExtra e → IsPrintable (extra_zone e)
extra_printable kind e x h = record { code = h.code; zone = free_zone kind e x; nature = h.nature; format = h.format; one_line = value_line e.value h.value }

extras_printable : (kind : Kind) (xs : List Extra) → AllByRecursion (IsExtra kind) xs → AllByRecursion IsLineExtra xs → AllByRecursion IsPrintable (map extra_zone xs)
extras_printable kind [] h k = tt
extras_printable kind (e ∷ xs) h k = (extra_printable kind e h.0 k.0, extras_printable kind xs h.1 k.1)

count_printable : (kind : Kind) (m n : ℕ) → m < 2 ^ 64 → n < 2 ^ 64 → AllByRecursion IsPrintable (count_zones kind m n)
count_printable Pno m n h k = tt
count_printable Par m n h k = (record { code = refl; zone = refl; nature = refl; format = refl; one_line = count_line m h }, tt)
count_printable Pfe m n h k = tt
count_printable Fea m n h k = tt
count_printable Lnk m n h k = (record { code = refl; zone = refl; nature = refl; format = refl; one_line = count_line n k }, tt)

body_printable : (r : Record) → IsLineRecord r → AllByRecursion IsPrintable (zones_of_body r.kind r.points r.ends)
unfolding zones_of_body
body_printable r h =
    joined IsPrintable (count_zones r.kind (length r.points) (length r.ends)) _ (count_printable r.kind (length r.points) (length r.ends) h.few_points h.few_ends)
    (joined IsPrintable (map point_zone r.points) (flat_map zones_of_end r.ends) (mapped_each IsPrintable IsPoint point_zone point_printable r.points h.points) (flat_each IsPrintable IsLineEnd zones_of_end end_printable r.ends h.ends))

behind_printable : (s : Letters) → HasPrintableLetters s → (r : Record) → IsRecord r → IsLineRecord r → AllByRecursion IsPrintable (behind s r)
behind_printable s letters r h k =
    subst (AllByRecursion IsPrintable) (sym (behind_is s r)) (
      record { code = refl; zone = refl; nature = refl; format = refl; one_line = count_line (length r.attributes) k.few },
      joined IsPrintable (flat_map (zones_of_attribute s) r.attributes) (map extra_zone r.extras) (flat_each IsPrintable IsLineAttribute (zones_of_attribute s) (attribute_printable s letters) r.attributes k.attributes) (extras_printable r.kind r.extras h.extras k.extras),
    )

record_printable : (s : Letters) → HasPrintableLetters s → (r : Record) → IsRecord r → IsLineRecord r → AllByRecursion IsPrintable (zones_of_record s r)
record_printable s letters r h k =
    subst (AllByRecursion IsPrintable) (sym (record_is s r)) (
      record { code = refl; zone = refl; nature = refl; format = refl; one_line = kind_line r.kind },
      (
        record { code = refl; zone = refl; nature = refl; format = refl; one_line = k.rid },
        (
          record { code = refl; zone = refl; nature = refl; format = refl; one_line = class_line r.scp k.class },
          joined IsPrintable (zones_of_body r.kind r.points r.ends) (behind s r) (body_printable r k) (behind_printable s letters r h k),
        ),
      ),
    )

-- ---- sheets

last_printable : IsPrintable end_zone
last_printable = record { code = refl; zone = refl; nature = refl; format = refl; one_line = nothing_line }

records_printable : (s : Letters) → HasPrintableLetters s → (rs : List Record) → AllByRecursion IsRecord rs → AllByRecursion IsLineRecord rs → AllByRecursion IsPrintable (flat_map (zones_of_record s) rs)
records_printable s letters [] h k = tt
records_printable s letters (r ∷ rs) h k = joined IsPrintable (zones_of_record s r) (flat_map (zones_of_record s) rs) (record_printable s letters r h.0 k.0) (records_printable s letters rs h.1 k.1)

cse_printable : (cse : Option (List ℕ)) → IfSome cse IsOneLine → AllByRecursion IsPrintable (map cse_zone (option_to_list cse))
cse_printable None h = tt
cse_printable (Some text) h = (record { code = refl; zone = refl; nature = refl; format = refl; one_line = h }, tt)

pub sheet_printable : (s : Letters) (cse : Option (List ℕ)) (rs : List Record) → HasPrintableLetters s → IfSome cse IsOneLine → AllByRecursion IsRecord rs → AllByRecursion IsLineRecord rs → AllByRecursion IsPrintable (zones_of_sheet s cse rs)
sheet_printable s cse rs letters set h k = (
  record { code = refl; zone = refl; nature = refl; format = refl; one_line = All-from_recursion feed_apart (codes "CANON.VEC") (refl, (refl, (refl, (refl, (refl, (refl, (refl, (refl, (refl, tt))))))))) },
  joined IsPrintable (map cse_zone (option_to_list cse)) (flat_map (zones_of_record s) rs ++ end_zone ∷ []) (cse_printable cse set)
      (joined IsPrintable (flat_map (zones_of_record s) rs) (end_zone ∷ []) (records_printable s letters rs h k) (last_printable, tt)),
)
