-- What is printed of zones of bytes is bytes.
use Rattle.std.proofs.Common.{◌≡◌, ℕ, zero, suc, ◌+◌, ◌-◌, ◌/◌, ◌%◌, ◌<◌, ◌≤◌, ◌⊎◌, inl, inr, Bool, true, false, nat_lt, nat_le, cond, List, [], ◌∷◌, ◌++◌, length, take, drop, codes, refl, arith, lit<, length-drop}
use Rattle.std.specs.Prelude.{slice_index}
use Rattle.std.specs.List.{AllByRecursion, flat_map, list_all}
use Rattle.std.proofs.lemmas.Bool.{leb-true, ltb-true}
use Rattle.std.proofs.lemmas.List.{length-take-le}
use Rattle.edi_line.specs.Bytes.{IsBytes, line_width}
use Rattle.edi_line.specs.ZoneData.{ZoneData}
use Rattle.edi_line.specs.Printing.{broken_into, content_text, line_text, next_zone, printed, printed_zone, with_value, zone_headed, IsPrintable}
use Rattle.edi_line.specs.Spelling.{is_code_byte, is_printable}
use Rattle.edi_line.proofs.Heads.{code_from_test, within}
use Rattle.edi_line.proofs.Printed.{code_bytes}
use Rattle.edi_record.specs.CanonicalZones.{class_text}
use Rattle.edi_record.specs.Texts.{pointer_text}
use Rattle.edi_record.specs.declared.name.Name.{Name}
use Rattle.edi_compare.proofs.KnownSheetsTests.{all_said}
use Rattle.edi_compare.proofs.ReadBytes.{AreBytes, are_bytes, is_bytes, bytes_joined, bytes_taken, bytes_dropped, HasByteValue}

-- a known text
pub known_bytes : (xs : List ℕ) → list_all (λ x. nat_lt x 256) xs ≡ true → AreBytes xs
known_bytes xs h = all_said (λ c. c < 256) (λ x. nat_lt x 256) (λ x e. ltb-true x 256 e) xs h

-- ---- lines

pub record ZoneBytes (z : ZoneData) : Type 0 where
  pub code : AreBytes z.code
  pub nature : z.nature < 256
  pub format : z.format < 256
  pub value : AreBytes z.value

line_bytes : (z : ZoneData) → ZoneBytes z → length z.value ≤ 99 → AreBytes (line_text z)
unfolding line_text content_text
line_bytes z h short =
    let tens : 48 + length z.value / 10 < 256 = omega (arith, short) in
    let ones : 48 + length z.value % 10 < 256 = omega (arith, short) in
    bytes_joined _ (13 ∷ 10 ∷ []) (bytes_joined z.code _ h.code (h.nature, (h.format, (tens, (ones, (lit< tt, h.value)))))) (lit< tt, (lit< tt, tt))

broken_bytes : (turns : ℕ) (z : ZoneData) → length z.value ≤ turns → ZoneBytes z → AreBytes (flat_map line_text (broken_into turns z))
unfolding broken_into next_zone
broken_bytes zero z few h = bytes_joined (line_text z) [] (line_bytes z h (omega (arith, few))) tt
broken_bytes (suc turns) z few h = go (nat_le (length z.value) line_width) refl (broken_bytes turns (next_zone (drop line_width z.value)))
  where
    go : (b : Bool) → nat_le (length z.value) line_width ≡ b
        → (length (next_zone (drop line_width z.value)).value ≤ turns → ZoneBytes (next_zone (drop line_width z.value)) → AreBytes (flat_map line_text (broken_into turns (next_zone (drop line_width z.value)))))
        → AreBytes (flat_map line_text (cond (nat_le (length z.value) line_width) (z ∷ []) (with_value (take line_width z.value) z ∷ broken_into turns (next_zone (drop line_width z.value)))))
    go true e more = rw e (bytes_joined (line_text z) [] (line_bytes z h (let low : length z.value ≤ 72 = leb-true (length z.value) 72 e in omega (arith, low))) tt)
    go false e more =
        let long : 72 ≤ length z.value = (let up : 72 < length z.value = Rattle.std.proofs.lemmas.Bool.leb-false (length z.value) 72 e in omega (arith, up)) in
        let front : length (take line_width z.value) ≡ 72 = length-take-le 72 z.value long in
        let rest : length (drop line_width z.value) ≡ length z.value - 72 = length-drop 72 z.value in
        rw e (bytes_joined (line_text (with_value (take line_width z.value) z)) _
        (line_bytes (with_value (take line_width z.value) z) (record { code = h.code; nature = h.nature; format = h.format; value = bytes_taken line_width z.value h.value }) (omega (arith, front)))
        (more (omega (arith, rest, few, long)) (record { code = (lit< tt, (lit< tt, (lit< tt, tt))); nature = lit< tt; format = lit< tt; value = bytes_dropped line_width z.value h.value })))

pub printed_bytes : (zs : List ZoneData) → AllByRecursion ZoneBytes zs → AreBytes (printed zs)
unfolding printed_zone
printed_bytes [] all = tt
printed_bytes (z ∷ zs) all = bytes_joined (printed_zone z) (printed zs) (broken_bytes (length z.value) z (omega arith) all.0) (printed_bytes zs all.1)

-- ---- zones

pub zones_joined : (xs ys : List ZoneData) → AllByRecursion ZoneBytes xs → AllByRecursion ZoneBytes ys → AllByRecursion ZoneBytes (xs ++ ys)
zones_joined [] ys hx hy = hy
zones_joined (x ∷ xs) ys hx hy = (hx.0, zones_joined xs ys hx.1 hy)

-- a name of bytes
pub record NameBytes (n : Name) : Type 0 where
  pub rty : AreBytes n.rty
  pub rid : AreBytes n.rid

pub class_bytes : (n : Name) → NameBytes n → AreBytes (class_text n)
unfolding pointer_text
class_bytes n h =
    let name : AreBytes (n.rty ++ 59 ∷ n.rid) = bytes_joined n.rty (59 ∷ n.rid) h.rty (lit< tt, h.rid) in
    let behind : AreBytes (codes "SD" ++ 59 ∷ (n.rty ++ 59 ∷ n.rid)) = bytes_joined (codes "SD") (59 ∷ (n.rty ++ 59 ∷ n.rid)) (known_bytes (codes "SD") refl) (lit< tt, name) in
    bytes_joined (codes "CANON") (59 ∷ (codes "SD" ++ 59 ∷ (n.rty ++ 59 ∷ n.rid))) (known_bytes (codes "CANON") refl) (lit< tt, behind)

-- a zone with a known head
pub headed : (head value : List ℕ) → list_all (λ x. nat_lt x 256) (take 3 head) ≡ true → slice_index head 3 < 256 → slice_index head 4 < 256 → AreBytes value → ZoneBytes (zone_headed head value)
headed head value code nature format bytes = record { code = known_bytes (take 3 head) code; nature = nature; format = format; value = bytes }

-- ---- zones that can be printed

code_byte : (c : ℕ) → is_code_byte c ≡ true → c < 256
code_byte c e = small (code_from_test c e)
  where
    small : ((65 ≤ c) × (c ≤ 90)) ⊎ ((48 ≤ c) × (c ≤ 57)) → c < 256
    small (inl h) = let high = h.1 in omega (arith, high)
    small (inr h) = let high = h.1 in omega (arith, high)

code_bytes_all : (code : List ℕ) → AllByRecursion (λ c. is_code_byte c ≡ true) code → AreBytes code
code_bytes_all [] h = tt
code_bytes_all (c ∷ cs) h = (code_byte c h.0, code_bytes_all cs h.1)

printable_byte : (c : ℕ) → is_printable c ≡ true → c < 256
printable_byte c e = let high = (within 32 126 c e).1 in omega (arith, high)

all_zones : (zs : List ZoneData) → AllByRecursion IsPrintable zs → AllByRecursion HasByteValue zs → AllByRecursion ZoneBytes zs
all_zones [] h k = tt
all_zones (z ∷ zs) h k = (
  record { code = code_bytes_all z.code (code_bytes z.code h.0.code).each; nature = printable_byte z.nature h.0.nature; format = printable_byte z.format h.0.format; value = are_bytes z.value k.0 },
  all_zones zs h.1 k.1,
)

pub printed_values : (zs : List ZoneData) → AllByRecursion IsPrintable zs → AllByRecursion HasByteValue zs → IsBytes (printed zs)
printed_values zs h k = is_bytes (printed zs) (printed_bytes zs (all_zones zs h k))
